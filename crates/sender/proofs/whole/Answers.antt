-- `sender::whole` meets its contract.
-- Assumes nothing.
use mathlib.Core.Path.{sym}
use Rattle.refusals.proofs.OutcomeLaws.{into_short, into_wrote}
use Rattle.sender.proofs.whole.Goals as goal

pub returns-then-out-len : goal.returns-then-out-len
returns-then-out-len c = let a = c.args in sym (into_short a.message.now a.out.now c.if-out-len.true)

pub returns : goal.returns
returns c =
    let a = c.args in
    into_wrote a.message.now a.out.now c.if-out-len.false c.copy.ensures
