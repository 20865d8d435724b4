-- `xara::xara_summary` meets its contract.
-- Assumes nothing.
use mathlib.Core.Path.{ap, ◌∙◌}
use Rattle.xara.specs.Told.{to_summary}
use Rattle.xara.proofs.xara_summary.Goals as goal

pub returns : goal.returns
returns c = c.from.ensures ∙ ap to_summary c.summary.ensures
