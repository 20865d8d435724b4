-- `kept::Slot::named` meets its contract.
-- Assumes nothing.
use mathlib.Core.Path.{ap₂}
use mathlib.Core.List.{List}
use Prim.Native.Nat.{ℕ}
use lib.ListN.{length, replicate}
use Rattle.receiver.specs.declared.Stored.{Stored}
use Rattle.kept.specs.declared.Slot.{Slot}
use Rattle.kept.proofs.Parts.{front_copied}
use Rattle.kept.proofs.Slot.named.Goals as goal

pub returns : goal.returns
returns c =
    let a = c.args in
    ap₂ {A = List ℕ} {B = Stored} {C = Slot} (λ l r. record { len = length a.name.now; name = l; receiver = r })
    (front_copied (replicate 8 0) _ _ c.copy_from_slice.ensures.after c.requires) c.from.ensures
