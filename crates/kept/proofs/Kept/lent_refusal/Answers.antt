-- `kept::Kept::lent_refusal` meets its contract.
-- Assumes nothing.
use mathlib.Core.Path.{ap₂, ◌∙◌}
use Prim.Native.Nat.{max}
use Rattle.kept.specs.Keep.{lent_refusal}
use Rattle.kept.proofs.Kept.lent_refusal.Goals as goal

pub returns : goal.returns
unfolding lent_refusal
returns c = c.larger.ensures ∙ ap₂ max c.size_refusal.ensures c.refusal.ensures
