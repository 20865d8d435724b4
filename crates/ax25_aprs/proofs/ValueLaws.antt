-- Bits that were read as a number.
-- Assumes nothing.
use mathlib.Core.Path.{◌≡◌, refl, sym, ap, ◌∙◌}
use mathlib.Core.Bool.{Bool, true, false}
use mathlib.Core.List.{List}
use Prim.Native.Nat.{ℕ, ◌+◌, ◌-◌, ◌*◌, ◌≤◌, ◌<◌, min}
use native.Mathlib.Nat.{add-zero}
use native.Mathlib.Omega.{arith}
use lib.ListN.{length, get_or, take, drop, length-drop}
use lib.Seq.{take_all, get_or-drop}
use lib.Dec.{eqb}
use Rattle.laws.specs.Bits.{num, value_of, unpack}
use Rattle.laws.proofs.BitLaws.{value_take_suc}
use Rattle.laws.proofs.ByteLaws.{length_unpack}
use Rattle.laws.proofs.Cases.{by_le}
use Rattle.bits.specs.Read.{take_bits, taken}
use Rattle.std.proofs.Common.{None, Some}
use Rattle.std.proofs.lemmas.Option.{none-some, some_pair_parts}
use Rattle.bits.proofs.ReadLaws.{taken_bits, take_yes, take_no}

-- how many bits there are from a position on
pub bits_left : (s : List ℕ) (at : ℕ) → length (drop at (unpack s)) ≡ length s * 8 - at
bits_left s at = omega (arith, length-drop at (unpack s), length_unpack s)

-- as many as there are
pub take_min : {A : Type 0} (k : ℕ) (l : List A) → take (min k (length l)) l ≡ take k l
take_min k l =
    by_le k (length l)
    (λ h. let e : min k (length l) ≡ k = omega arith in rw e)
    (λ h. let e : min k (length l) ≡ length l = omega arith in rw (e, take_all (length l) l (omega arith), take_all k l (omega arith)))

module _ (s : List ℕ) (at n : ℕ) (h : n ≤ length s * 8 - at) where
  pub not_short : taken (at + n) (take_bits n (drop at (unpack s))) ≡ None → ⊥
  not_short e = none-some _ (sym (sym (taken_bits s at n h) ∙ e))

  pub value_told : (v q : ℕ) → taken (at + n) (take_bits n (drop at (unpack s))) ≡ Some (v, q) → v ≡ value_of (take n (drop at (unpack s)))
  value_told v q e = sym (some_pair_parts (value_of (take n (drop at (unpack s)))) v (at + n) q (sym (taken_bits s at n h) ∙ e)).0

-- a reading of n bits at a position that gave a number and the next position
pub record Got (u : List Bool) (at n v q : ℕ) : Type 0 where
  pub value_is : v ≡ value_of (take n (drop at u))
  pub next_is : q ≡ at + n
  pub enough : n ≤ length (drop at u)

-- the same of any bits, where the answer tells that they are there or that they are not
module _ (u : List Bool) (at n : ℕ) where
  pub told_is : (v q : ℕ) → taken (at + n) (take_bits n (drop at u)) ≡ Some (v, q) → Got u at n v q
  unfolding taken
  told_is v q e =
      by_le n (length (drop at u))
      (λ h.
      let f = some_pair_parts (value_of (take n (drop at u))) v (at + n) q (ap (taken (at + n)) (sym (take_yes n (drop at u) h)) ∙ e) in
      record { value_is = sym f.0; next_is = sym f.1; enough = h })
      (λ h. absurd (none-some (v, q) (ap (taken (at + n)) (sym (take_no n (drop at u) h)) ∙ e)))

  pub told_few : taken (at + n) (take_bits n (drop at u)) ≡ None → length (drop at u) < n
  unfolding taken
  told_few e =
      by_le n (length (drop at u))
      (λ h. absurd (none-some (value_of (take n (drop at u)), at + n) (sym (ap (taken (at + n)) (sym (take_yes n (drop at u) h)) ∙ e))))
      (λ h. h)

num_test : (x : Bool) → eqb (num x) 1 ≡ x
unfolding num
num_test true = refl
num_test false = refl

one_value : (u : List Bool) (at : ℕ) → at < length u → value_of (take 1 (drop at u)) ≡ num (get_or u at false)
unfolding value_of
one_value u at h =
    let g : get_or (drop at u) 0 false ≡ get_or u at false = get_or-drop at u 0 false ∙ ap (λ (i : ℕ). get_or u i false) (add-zero at) in
    let t : value_of (take 1 (drop at u)) ≡ 0 * 2 + num (get_or (drop at u) 0 false) = value_take_suc (drop at u) 0 (omega (arith, length-drop at u)) in
    rw (← g) (omega (arith, t))

-- one bit as a number, tested
pub bit_told : (u : List Bool) (at v : ℕ) → at < length u → v ≡ value_of (take 1 (drop at u)) → eqb v 1 ≡ get_or u at false
bit_told u at v h e = ap (λ (x : ℕ). eqb x 1) (e ∙ one_value u at h) ∙ num_test (get_or u at false)
