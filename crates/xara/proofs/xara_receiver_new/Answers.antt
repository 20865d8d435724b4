-- `xara::xara_receiver_new` meets its contract.
-- Assumes nothing.
use mathlib.Core.Path.{ap, ◌∙◌}
use Rattle.xara.specs.Told.{to_fresh}
use Rattle.xara.proofs.xara_receiver_new.Goals as goal

pub returns : goal.returns
returns c = c.from.ensures ∙ ap to_fresh c.with_crc_mask.ensures
