-- The proof of the cycle of calls {put_via}. The measure is how many fields there are.
-- Assumes nothing.
use native.Mathlib.Omega.{arith}
use Rattle.monitor.proofs.MonitorLaws.{via_none, via_more}
use Rattle.monitor.proofs.+put_via.Goals as goal

pub returns-then-n-eq0 : goal.returns-then-n-eq0
returns-then-n-eq0 t c =
    let a = c.args in
    (via_none a.l a.n a.f.now c.if-n-eq0.true, omega arith)

pub returns : goal.returns
returns t c =
    let a = c.args in
    let other = c.if-n-eq0.false in
    let comma = c.byte-p.ensures in
    let call = c.put_call-q.ensures in
    let any = c.any_heard-later in
    let star = c.put_star-e.ensures in
    let rest = c.put_via.ensures in (
      via_more a.l a.n a.f.now other any.result any.ensures comma call.0 star.0 rest.0,
      omega (arith, comma.next_is, call.1, star.1, rest.1, other),
    )
