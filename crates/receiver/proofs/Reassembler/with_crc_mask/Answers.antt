-- `Reassembler::with_crc_mask` meets its contract.
-- Assumes nothing.
use mathlib.Core.Path.{sym, ◌∙◌}
use Rattle.laws.specs.Pick.{pick}
use Rattle.receiver.specs.New.{new_of}
use Rattle.receiver.proofs.Reassembler.with_crc_mask.Goals as goal

pub returns-then-not-mask_ok : goal.returns-then-not-mask_ok
unfolding new_of pick
returns-then-not-mask_ok c = simp (sym c.mask_ok.ensures ∙ c.if-not-mask_ok.true)

pub returns : goal.returns
unfolding new_of pick
returns c = simp (sym c.mask_ok.ensures ∙ c.if-not-mask_ok.false)
