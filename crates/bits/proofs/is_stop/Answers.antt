-- `bits::is_stop` meets its contract.
-- Assumes nothing.
use borrow.Author.Rules.{rules}
use borrow.Author.Tests.{eq-eqb, ne_eqb}
use Rattle.laws.specs.Pick.{pick}
use Rattle.bits.specs.Val.{stops}
use Rattle.bits.proofs.is_stop.Goals as goal

pub returns-then-c-ne32 : goal.returns-then-c-ne32
unfolding stops pick
returns-then-c-ne32 c = simp (ne_eqb _ _ c.if-c-ne32.true) (search rules)

pub returns-else-c-ne32 : goal.returns-else-c-ne32
unfolding stops pick
returns-else-c-ne32 c = simp (eq-eqb _ _ c.if-c-ne32.false)
