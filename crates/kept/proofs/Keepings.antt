-- The struct that a keep or a drop hands back, from the place of the name or its refusal.
-- Assumes nothing.
use mathlib.Core.Path.{◌≡◌, sym, ap, ap₂, ◌∙◌}
use mathlib.Core.Bool.{true}
use mathlib.Core.List.{List}
use lib.ListN.{set}
use Prim.Native.Nat.{ℕ}
use Rattle.refusals.specs.Outcome.{Outcome, answer}
use Rattle.kept.specs.Keep.{with_slot}
use Rattle.kept.specs.Told.{beside, to_slot, to_kept, to_keeping}
use Rattle.kept.specs.declared.Keeping.{Keeping}
use Rattle.kept.specs.declared.Kept.{Kept}
use Rattle.kept.specs.declared.Slot.{Slot}
use Rattle.kept.proofs.Flags.{map_set}

-- ---- where a slot is written

module _ (k : Kept) {o : Outcome ℕ} {x : Keeping} {i : ℕ} (answers : x ≡ beside o k) (found : o ≡ answer i) where
  is_answer : x ≡ beside (answer i) k
  is_answer = answers ∙ ap (λ (p : Outcome ℕ). beside p k) found

  -- the struct with one slot anew and all flags 0 or 1
  pub written : {j : Kept} {s slot : Slot} → j ≡ to_kept x.kept → s ≡ slot → to_slot slot ≡ slot
      → ◌≡◌ {A = Keeping} (record { ok = x.ok; refusal = x.refusal; place = x.place; kept = record { slots = set j.slots i s } }) (to_keeping (answer i) (with_slot k i slot))
  written {j = j} {s = s} {slot = slot} shown e same =
      ap {A = Keeping} {B = Keeping} (λ y. record { ok = y.ok; refusal = y.refusal; place = y.place; kept = record { slots = set j.slots i s } }) is_answer
      ∙ ap {A = List Slot} {B = Keeping} (λ l. record { ok = true; refusal = 0; place = i; kept = record { slots = l } })
      (ap₂ (λ (y : Kept) (z : Slot). set y.slots i z) (shown ∙ ap (λ (y : Keeping). to_kept y.kept) is_answer) e ∙ sym (map_set to_slot k.slots i slot same))
