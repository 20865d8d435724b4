-- `xara::xara_encode` meets its contract.
-- Assumes nothing.
use mathlib.Core.Path.{ap, ◌∙◌}
use Rattle.xara.specs.Told.{to_encoded_with}
use Rattle.xara.proofs.ToldLaws.{beside}
use Rattle.xara.proofs.xara_encode.Goals as goal

pub returns : goal.returns
returns c = beside c.from.ensures ∙ ap to_encoded_with c.encode.ensures
