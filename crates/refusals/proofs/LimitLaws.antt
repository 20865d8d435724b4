-- Fields and masks that are accepted.
-- Assumes nothing.
use mathlib.Core.Path.{◌≡◌, refl, sym, ap, subst}
use mathlib.Core.Bool.{true, or-true, false≢true}
use mathlib.Core.List.{List, [], ◌∷◌}
use Prim.Native.Nat.{ℕ, zero, suc, ◌+◌, ◌-◌, ◌^◌, ◌≤◌}
use native.Mathlib.Omega.{arith}
use lib.Dec.{leb, eqb}
use borrow.Author.Tests.{leb-true, eq-eqb, ne_eqb}
use Rattle.laws.specs.Pick.{pick}
use Rattle.laws.proofs.Cases.{by_eq, and_left, and_right}
use Rattle.refusals.specs.Limits.{field_ok, mask_for, top_of, mask_ok}

-- ---- fields

pub field_low : (field : ℕ) → field_ok field ≡ true → 3 ≤ field
field_low field e = leb-true 3 field (and_left (leb 3 field) (leb field 512) e)

pub field_high : (field : ℕ) → field_ok field ≡ true → field ≤ 512
field_high field e = leb-true field 512 (and_right (leb 3 field) (leb field 512) e)

-- ---- masks

-- the mask is the top w bits of a byte, 1 to 7 of them, and leaves the low 8 - w
pub record Top (mask : ℕ) : Type 0 where
  pub w : ℕ
  pub free : ℕ
  pub some_bits : 1 ≤ w
  pub some_free : 1 ≤ free
  pub whole : w + free ≡ 8
  pub is : mask ≡ 2 ^ (w + free) - 2 ^ free

-- Of 1 to 7 check bits each number has its mask, and no other mask is accepted.

abbrev pub top_for : (w : ℕ) → 1 ≤ w → w ≤ 7 → Top (mask_for w)
top_for w l h =
    let e : w + (8 - w) ≡ 8 = omega arith in
    record { w = w; free = 8 - w; some_bits = l; some_free = omega arith; whole = e; is = rw e refl }

accepted_to : (n w : ℕ) → 1 ≤ w → w ≤ n → top_of n (mask_for w) ≡ true
unfolding top_of
accepted_to zero w l h = absurd (omega (arith, l))
accepted_to (suc n) w l h =
    by_eq w (suc n)
    (λ e. simp (eq-eqb (mask_for w) (mask_for (suc n)) (ap mask_for e)))
    (λ e. simp (accepted_to n w l (omega (arith, e)), or-true (eqb (mask_for w) (mask_for (suc n)))))

pub mask_accepted : (w : ℕ) → 1 ≤ w → w ≤ 7 → mask_ok (mask_for w) ≡ true
mask_accepted w l h = accepted_to _ w l (omega arith)

top_to : (n mask : ℕ) → n ≤ 7 → top_of n mask ≡ true → Top mask
unfolding top_of
top_to zero mask l e = absurd (false≢true e)
top_to (suc n) mask l e =
    by_eq mask (mask_for (suc n))
    (λ h. subst Top (sym h) (top_for (suc n) (omega arith) l))
    (λ h. top_to n mask (omega arith) (simp (ne_eqb mask (mask_for (suc n)) h) at e))

pub mask_top : (mask : ℕ) → mask_ok mask ≡ true → Top mask
mask_top mask e = top_to _ mask (omega arith) e

-- the accepted masks below n, the largest first
pub masks_below : ℕ → List ℕ
masks_below zero = []
masks_below (suc n) = pick (mask_ok n) (n ∷ masks_below n) (masks_below n)

pub seven_masks : masks_below 256 ≡ 0xFE ∷ 0xFC ∷ 0xF8 ∷ 0xF0 ∷ 0xE0 ∷ 0xC0 ∷ 0x80 ∷ []
unfolding masks_below top_of pick
seven_masks = refl
