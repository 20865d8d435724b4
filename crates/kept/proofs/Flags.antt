-- Flags that are 0 or 1: a list of slots whose flags are made so one after the other, and one that needs none.
-- Assumes nothing.
use mathlib.Core.Path.{◌≡◌, refl, sym, ap, ap₂, ◌∙◌}
use mathlib.Core.Bool.{Bool, true, false, true≢false}
use mathlib.Core.List.{List, [], ◌∷◌, map}
use Rattle.std.proofs.Common.{Some}
use Prim.Native.Nat.{ℕ, zero, suc, ◌+◌, ◌≤◌, ◌<◌}
use native.Mathlib.Nat.{not-suc-le-zero, le_of_suc-le-suc}
use native.Mathlib.Numerals.{add-one}
use native.Mathlib.Omega.{arith}
use lib.ListN.{length, get_or, set, drop}
use borrow.Author.Tests.{ltb-false, lt-ltb}
use Rattle.laws.specs.Bits.{num}
use Rattle.laws.proofs.Cases.{by_test, pick_true, pick_false}
use Rattle.receiver.specs.Stored.{flag}
use Rattle.receiver.specs.declared.Reassembler.{Reassembler}
use Rattle.kept.specs.Keep.{first_from, slot_of}
use Rattle.kept.specs.Told.{is_place, has_other_flag, to_slot}
use Rattle.kept.specs.declared.Slot.{Slot}
use Rattle.kept.proofs.Places.{first_here}

-- ---- one after the other

module _ {A : Type 0} (f : A → A) where
  -- the first i are replaced
  unfoldable pub firsts : ℕ → List A → List A
  firsts zero l = l
  firsts (suc i) [] = []
  firsts (suc i) (x ∷ l) = f x ∷ firsts i l

  -- the next is as it was
  pub firsts_at : (i : ℕ) (l : List A) (d : A) → get_or (firsts i l) i d ≡ get_or l i d
  unfolding firsts
  firsts_at zero l d = refl
  firsts_at (suc i) [] d = refl
  firsts_at (suc i) (x ∷ l) d = firsts_at i l d

  replaced : (i : ℕ) (l : List A) (d : A) → i < length l → set (firsts i l) i (f (get_or l i d)) ≡ firsts (suc i) l
  unfolding firsts
  replaced i [] d h = absurd (not-suc-le-zero h)
  replaced zero (x ∷ l) d h = refl
  replaced (suc i) (x ∷ l) d h = ap (λ (m : List A). f x ∷ m) (replaced i l d (le_of_suc-le-suc h))

  -- it is replaced
  pub firsts_set : (i : ℕ) (l : List A) (d : A) → i < length l → set (firsts i l) i (f (get_or l i d)) ≡ firsts (i + 1) l
  firsts_set i l d h = replaced i l d h ∙ ap (λ (j : ℕ). firsts j l) (rw (add-one i) refl)

  pub firsts_all : (i : ℕ) (l : List A) → length l ≤ i → firsts i l ≡ map f l
  unfolding firsts
  firsts_all zero [] h = refl
  firsts_all zero (x ∷ l) h = absurd (not-suc-le-zero h)
  firsts_all (suc i) [] h = refl
  firsts_all (suc i) (x ∷ l) h = ap (λ (m : List A). f x ∷ m) (firsts_all i l (le_of_suc-le-suc h))

  -- another element that stays as it is
  pub map_set : (l : List A) (i : ℕ) (x : A) → f x ≡ x → map f (set l i x) ≡ set (map f l) i x
  map_set [] i x e = refl
  map_set (y ∷ l) zero x e = ap (λ (z : A). z ∷ map f l) e
  map_set (y ∷ l) (suc i) x e = ap (λ (m : List A). f y ∷ m) (map_set l i x e)

-- ---- flags

flag_small : (b : ℕ) → b < 2 → num (flag b) ≡ b
unfolding num
flag_small zero h = refl
flag_small (suc zero) h = refl
flag_small (suc (suc b)) h = absurd (omega arith)

-- a slot whose flag is 0 or 1 stays as it is
slot_same : (s : Slot) → s.receiver.overflow < 2 → to_slot s ≡ s
slot_same s h =
    ap {B = Slot} (λ b. record {
      len = s.len;
      name = s.name;
      receiver = record {
        held = s.receiver.held;
        nfrag = s.receiver.nfrag;
        count = s.receiver.count;
        crc_mask = s.receiver.crc_mask;
        overflow = b;
        tallies = s.receiver.tallies;
      };
    }) (flag_small s.receiver.overflow h)

num_small : (b : Bool) → num b < 2
unfolding num
num_small true = omega arith
num_small false = omega arith

-- so does a slot that was just filled
pub slot_kept : (name : List ℕ) (r : Reassembler) → to_slot (slot_of name r) ≡ slot_of name r
slot_kept name r = slot_same (slot_of name r) (num_small r.state.overflow)

-- and so do slots of which none has another flag
pub slots_same : (i : ℕ) (ss : List Slot) → is_place (first_from has_other_flag i ss) ≡ false → map to_slot ss ≡ ss
unfolding first_from
slots_same i [] e = refl
slots_same i (s ∷ ss) e =
    by_test (has_other_flag s)
    (λ t. absurd (true≢false (sym (ap is_place (pick_true (Some i) (first_from has_other_flag (suc i) ss) t)) ∙ e)))
    (λ t. ap₂ (λ (x : Slot) (l : List Slot). x ∷ l)
    (slot_same s (let h = ltb-false 1 s.receiver.overflow t in omega arith))
    (slots_same (suc i) ss (sym (ap is_place (pick_false (Some i) (first_from has_other_flag (suc i) ss) t)) ∙ e)))

-- ---- a loop that looks for such a flag

pub other_flag_here : (ss : List Slot) (i : ℕ) (d : Slot) → i < length ss
    → first_from has_other_flag 0 ss ≡ first_from has_other_flag i (drop i ss)
    → 1 < (get_or ss i d).receiver.overflow
    → is_place (first_from has_other_flag 0 ss) ≡ true
other_flag_here ss i d h e t = ap is_place (e ∙ first_here has_other_flag ss i d h (lt-ltb 1 _ t))
