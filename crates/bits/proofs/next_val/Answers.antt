-- `bits::next_val` meets its contract.
-- Assumes nothing.
use native.Mathlib.Omega.{arith}
use borrow.Author.Tests.{eq-eqb, ne_eqb}
use Rattle.laws.specs.Pick.{pick}
use Rattle.bits.specs.Val.{next_val}
use Rattle.bits.proofs.next_val.Goals as goal

pub returns-then-c-eq32 : goal.returns-then-c-eq32
unfolding next_val pick
returns-then-c-eq32 c = simp (eq-eqb _ _ c.if-c-eq32.true)

pub returns-then-c-lt48 : goal.returns-then-c-lt48
unfolding next_val pick
returns-then-c-lt48 c = simp (ne_eqb _ _ c.if-c-eq32.false) (omega arith)

pub returns : goal.returns
unfolding next_val pick
returns c = simp (ne_eqb _ _ c.if-c-eq32.false) (omega arith)
