-- `xara::xara_preview` meets its contract.
-- Assumes nothing.
use mathlib.Core.Path.{ap, ◌∙◌}
use Rattle.xara.specs.Told.{to_preview}
use Rattle.xara.proofs.xara_preview.Goals as goal

pub returns : goal.returns
returns c = c.from.ensures ∙ ap to_preview c.preview.ensures
