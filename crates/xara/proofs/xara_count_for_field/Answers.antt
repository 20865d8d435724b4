-- `xara::xara_count_for_field` meets its contract.
-- Assumes nothing.
use mathlib.Core.Path.{ap, ◌∙◌}
use Rattle.xara.specs.Told.{to_answer}
use Rattle.xara.proofs.xara_count_for_field.Goals as goal

pub returns : goal.returns
returns c = c.from.ensures ∙ ap to_answer c.count_for_field.ensures
