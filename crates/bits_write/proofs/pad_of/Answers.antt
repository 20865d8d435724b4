-- `bits_write::pad_of` meets its contract.
-- Assumes nothing.
use native.Mathlib.Omega.{arith}
use mathlib.Core.Path.{◌≡◌, sym, ap, ◌∙◌}
use Rattle.laws.specs.Bits.{odd}
use Rattle.laws.proofs.Cases.{pick_true, pick_false}
use Rattle.bits_write.specs.Text7.{sevens, last_or}
use Rattle.bits_write.proofs.Text7Laws.{last_sevens, last_none}
use Rattle.bits_write.proofs.pad_of.Goals as goal
use Rattle.bits_write.proofs.pad_of.Goals.{in-Some, in-None, Joined-last}

-- the last bit of the text, or the one before it
last_is : (c : Joined-last) → last_or c.args.last (sevens c.args.text.now) ≡ c.match-last.last
unfolding odd
last_is c =
    elim c.match-last.branch [
      | in-Some w ↦
          last_sevens _ _ (omega (arith, w.in-Some.ensures.item.3.0)) ∙ ap odd (sym (w.in-Some.ensures.item.4 (omega arith) 0)) ∙ sym w.last-is
      | in-None w ↦ last_none _ _ (omega (arith, w.in-None.ensures.item.3)) ∙ sym w.last-is
    ]

pub returns-then-last : goal.returns-then-last
returns-then-last c = sym (pick_true 0x00 0xFF (last_is (goal.at.returns-then-last c).Joined-last ∙ c.if-last.true))

pub returns-else-last : goal.returns-else-last
returns-else-last c = sym (pick_false 0x00 0xFF (last_is (goal.at.returns-else-last c).Joined-last ∙ c.if-last.false))
