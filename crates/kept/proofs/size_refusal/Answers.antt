-- `kept::size_refusal` meets its contract.
-- Assumes nothing.
use mathlib.Core.Path.{sym}
use borrow.Author.Tests.{eq-eqb, ne_eqb}
use Rattle.laws.proofs.Cases.{pick_true, pick_false}
use Rattle.kept.proofs.size_refusal.Goals as goal

pub returns-then-len-size : goal.returns-then-len-size
returns-then-len-size c = sym (pick_true 0 17 (eq-eqb _ _ c.if-len-size.true))

pub returns-else-len-size : goal.returns-else-len-size
returns-else-len-size c = sym (pick_false 0 17 (ne_eqb _ _ c.if-len-size.false))
