-- `texts::part::next` meets its contract.
-- Assumes nothing.
use native.Mathlib.Omega.{arith}
use Rattle.texts.proofs.PartLaws.{next_here, next_end}
use Rattle.texts.proofs.part.next.Goals as goal

pub returns-then-e-s : goal.returns-then-e-s
returns-then-e-s c =
    let find = c.find-e.ensures in
    (omega (arith, find.0), omega arith, next_here _ _ _ _ find.2 c.if-e-s.true)

pub returns-else-e-s : goal.returns-else-e-s
returns-else-e-s c =
    let find = c.find-e.ensures in
    (find.0, find.1, next_end _ _ _ _ find.2 c.if-e-s.false)
