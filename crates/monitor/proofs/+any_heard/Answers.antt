-- The proof of the cycle of calls {any_heard}. The measure is how many fields there are.
-- Assumes nothing.
use Rattle.monitor.proofs.MonitorLaws.{any_none, any_first, any_rest}
use Rattle.monitor.proofs.+any_heard.Goals as goal

pub returns-then-n-eq0 : goal.returns-then-n-eq0
returns-then-n-eq0 t c =
    let a = c.args in
    any_none a.l a.n a.f.now c.if-n-eq0.true

pub returns-then-f-l-ge128 : goal.returns-then-f-l-ge128
returns-then-f-l-ge128 t c =
    let a = c.args in
    any_first a.l a.n a.f.now c.if-n-eq0.false c.if-f-l-ge128.true

pub returns-else-f-l-ge128 : goal.returns-else-f-l-ge128
returns-else-f-l-ge128 t c =
    let a = c.args in
    any_rest a.l a.n a.f.now c.if-n-eq0.false c.if-f-l-ge128.false _ c.any_heard.ensures
