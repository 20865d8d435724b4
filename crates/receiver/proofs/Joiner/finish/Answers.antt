-- `Joiner::finish` meets its contract: each way out is a case of the definition.
-- Assumes nothing.
use mathlib.Core.Path.{sym, ◌∙◌}
use Rattle.receiver.proofs.JoinLaws.{finish_one, finish_good, finish_bad}
use Rattle.receiver.proofs.Joiner.finish.Goals as goal
use Rattle.receiver.proofs.Joiner.finish.Goals.{then-self-lt2-via-then-self-lt2, then-self-lt2-via-else-self-lt2+then-crc_bits-self}

pub returns-then-self-lt2 : goal.returns-then-self-lt2
returns-then-self-lt2 c =
    elim c.then-self-lt2.branch [
      | then-self-lt2-via-then-self-lt2 w ↦ sym (finish_one _ _ _ w.if-self-lt2.true)
      | then-self-lt2-via-else-self-lt2+then-crc_bits-self w ↦ sym (finish_good _ _ _ w.if-self-lt2.false (sym w.crc_bits.ensures ∙ w.if-crc_bits-self.true))
    ]

pub returns : goal.returns
returns c = sym (finish_bad _ _ _ c.if-self-lt2.false (λ e. c.if-crc_bits-self.false (c.crc_bits.ensures ∙ e)))
