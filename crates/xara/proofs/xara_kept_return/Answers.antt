-- `xara::xara_kept_return` meets its contract.
-- Assumes nothing.
use mathlib.Core.Path.{ap, ◌∙◌}
use Rattle.xara.specs.Told.{to_fresh_with}
use Rattle.xara.proofs.ToldLaws.{beside}
use Rattle.xara.proofs.xara_kept_return.Goals as goal

pub returns : goal.returns
returns c = beside c.from.ensures ∙ ap to_fresh_with c.return_to.ensures
