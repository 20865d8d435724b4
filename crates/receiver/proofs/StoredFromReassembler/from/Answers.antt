-- A receiver is stored as it is.
-- Assumes nothing.
use mathlib.Core.Path.{◌∙◌}
use Rattle.frame.proofs.FlagLaws.{byte_num}
use Rattle.receiver.proofs.StoredFromReassembler.from.Goals as goal

pub returns : goal.returns
returns c = rw (c.from.ensures ∙ byte_num _)
