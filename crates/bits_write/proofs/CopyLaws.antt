-- A part of a list in whose place others stand, and the bytes of a word, the highest first.
-- Assumes nothing.
use mathlib.Core.Path.{◌≡◌, refl, sym, ap, ap₂, ◌∙◌}
use mathlib.Core.Bool.{Bool, true, false}
use mathlib.Core.List.{List, [], ◌∷◌, ◌++◌, append_assoc}
use Prim.Native.Nat.{ℕ, zero, suc, ◌+◌, ◌-◌, ◌*◌, ◌/◌, ◌%◌, ◌^◌, ◌≤◌}
use native.Mathlib.Nat.{div-one, pow-suc, zero-add, suc-add}
use native.Mathlib.Omega.{arith}
use lib.ListN.{length, take, drop}
use lib.Pow.{pow-add}
use lib.Seq.{sets, sets-eq, drop-drop}
use borrow.Rule.Slice.PartMut.{put_mid}
use mir.Val.{bool_byte}
use Rattle.std.specs.Int.{byte_at, bytes_high_first}
use Rattle.laws.specs.Bits.{odd, bits_of, unpack}
use Rattle.laws.proofs.BitLaws.{bits_append, bits_mod}

module _ {A : Type 0} where
  pub put_mid_sets : (l vs : List A) (i e : ℕ) → e ≡ i + length vs → e ≤ length l → put_mid i (e - i) l vs ≡ sets l i vs
  put_mid_sets l vs i e q h =
      let f : i + (e - i) ≡ i + length vs = omega arith in
      rw (drop-drop (e - i) i l, f, ← append_assoc (take i l) vs (drop (i + length vs) l)) (sym (sets-eq vs l i (omega arith)))

pow_byte : (k : ℕ) → 256 ^ k ≡ 2 ^ (k * 8)
pow_byte zero = refl
pow_byte (suc k) =
    let e : suc k * 8 ≡ k * 8 + 8 = omega arith in
    rw (e, pow-add 2 (k * 8) 8, pow-suc 256 k, pow_byte k)

byte_is : (k w : ℕ) → byte_at k w ≡ w / 2 ^ (k * 8) % 256
byte_is zero w = ap (λ (x : ℕ). x % 256) (sym (div-one w))
byte_is (suc k) w = ap (λ (p : ℕ). w / p % 256) (pow_byte (suc k))

pub unpack_high : (k w : ℕ) → unpack (bytes_high_first k w) ≡ bits_of (k * 8) w
unfolding unpack bits_of
unpack_high zero w = refl
unpack_high (suc k) w =
    let e : suc k * 8 ≡ 8 + k * 8 = omega arith in
    ap₂ (λ (x : ℕ) (l : List Bool). bits_of 8 x ++ l) (byte_is k w) (unpack_high k w)
    ∙ ap (λ (l : List Bool). l ++ bits_of (k * 8) w) (bits_mod 8 (w / 2 ^ (k * 8)))
    ∙ sym (bits_append 8 (k * 8) w)
    ∙ ap (λ (n : ℕ). bits_of n w) (sym e)

pub drop_high : (m n w : ℕ) → drop m (bytes_high_first (m + n) w) ≡ bytes_high_first n w
drop_high zero n w = ap (λ (k : ℕ). bytes_high_first k w) (zero-add n)
drop_high (suc m) n w = ap (λ (k : ℕ). drop (suc m) (bytes_high_first k w)) (suc-add m n) ∙ drop_high m n w

-- a bit as a number is that bit
pub bits_one : (b : Bool) → bits_of 1 (bool_byte b) ≡ b ∷ []
unfolding bits_of odd
bits_one true = refl
bits_one false = refl

pub length_high : (k w : ℕ) → length (bytes_high_first k w) ≡ k
length_high zero w = refl
length_high (suc k) w = ap suc (length_high k w)
