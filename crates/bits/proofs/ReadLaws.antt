-- The cases of taking bits, and that what was written is read, for every width.
-- Assumes nothing.
use mathlib.Core.Path.{◌≡◌, ◌∙◌}
use mathlib.Core.Bool.{Bool, false}
use mathlib.Core.List.{List, [], ◌∷◌, ◌++◌, map}
use Rattle.std.proofs.Common.{None, Some}
use Prim.Native.Nat.{ℕ, zero, suc, ◌+◌, ◌-◌, ◌*◌, ◌%◌, ◌^◌, ◌≤◌, ◌<◌}
use native.Mathlib.Nat.{le_of_suc-le-suc, pow-le-pow_right, not-suc-le-zero, pow-suc, mul_assoc}
use native.Mathlib.Numerals.{add-one}
use native.Mathlib.Omega.{arith}
use lib.ListN.{length, get_or, take, drop, length-append, length-drop, length-take, length-map}
use lib.Seq.{sets, take_at, drop_at, take-suc}
use borrow.Author.Tests.{le-leb, lt-leb}
use Rattle.laws.specs.Bits.{num, bits_of, value_of, unpack}
use Rattle.laws.specs.Digits.{Digits, number_of}
use Rattle.laws.specs.Pick.{pick}
use Rattle.laws.proofs.BitLaws.{length_bits, value_bits, num_lt}
use Rattle.laws.proofs.ByteLaws.{length_unpack}
use Rattle.laws.proofs.DigitLaws.{number_lt}
use Rattle.laws.proofs.ListLaws.{drop_stored}
use Rattle.bits.specs.Read.{take_bits, take_text, letter, taken}
use Rattle.bits.specs.Val.{val_of}
use Rattle.bits.proofs.ValLaws.{val_number}

-- ---- taking bits

pub take_yes : (n : ℕ) (b : List Bool) → n ≤ length b → take_bits n b ≡ Some (value_of (take n b), drop n b)
unfolding take_bits pick
take_yes n b h = rw (le-leb n (length b) h)

pub take_no : (n : ℕ) (b : List Bool) → length b < n → take_bits n b ≡ None
unfolding take_bits pick
take_no n b h = rw (lt-leb n (length b) h)

-- bits of a number in front are taken, whatever follows
pub take_bits_lem : (n v : ℕ) (b : List Bool) → take_bits n (bits_of n v ++ b) ≡ Some (v % 2 ^ n, b)
take_bits_lem n v b =
    take_yes n (bits_of n v ++ b) (omega (arith, length-append (bits_of n v) b, length_bits n v))
    ∙ rw (take_at (bits_of n v) b n (length_bits n v), drop_at (bits_of n v) b n (length_bits n v), value_bits n v)

-- what was written at a position is read there, and what follows is as it was
pub take_written : (b : List Bool) (at n v : ℕ) → at + n ≤ length b
    → take_bits n (drop at (sets b at (bits_of n v))) ≡ Some (v % 2 ^ n, drop (at + n) b)
take_written b at n v h =
    rw (drop_stored b at (bits_of n v) (omega (arith, length_bits n v)), take_bits_lem n v (drop (at + length (bits_of n v)) b), length_bits n v)

-- ---- bits as text

pub text_yes : (n : ℕ) (b : List Bool) → n ≤ length b → take_text n b ≡ Some (val_of (map letter (take n b)), drop n b)
unfolding take_text pick
text_yes n b h = rw (le-leb n (length b) h)

pub text_no : (n : ℕ) (b : List Bool) → length b < n → take_text n b ≡ None
unfolding take_text pick
text_no n b h = rw (lt-leb n (length b) h)

pub letters_are : (b : List Bool) → Digits (map letter b)
letters_are [] i h = absurd (not-suc-le-zero h)
letters_are (x ∷ b) zero h = omega (arith, num_lt x)
letters_are (x ∷ b) (suc i) h = letters_are b i (le_of_suc-le-suc h)

pub letters_val : (n : ℕ) (b : List Bool) → n ≤ 19 → val_of (map letter (take n b)) ≡ number_of (map letter (take n b))
letters_val n b h = val_number (map letter (take n b)) (letters_are (take n b)) (omega (arith, length-map (take n b) letter, length-take n b))

number_snoc : (b : List Bool) (x : Bool) → number_of (map letter (b ++ x ∷ [])) ≡ number_of (map letter b) * 10 + num x
unfolding number_of
number_snoc [] x = omega arith
number_snoc (y ∷ b) x =
    let e : length (map letter (b ++ x ∷ [])) ≡ suc (length (map letter b)) =
    omega (arith, length-map (b ++ x ∷ []) letter, length-map b letter, length-append b (x ∷ [])) in
    rw (number_snoc b x, e, pow-suc 10 (length (map letter b)), ← mul_assoc (48 + num y - 48) (10 ^ length (map letter b)) 10) (omega arith)

-- one digit more
pub letters_suc : (b : List Bool) (i : ℕ) → i < length b
    → number_of (map letter (take (i + 1) b)) ≡ number_of (map letter (take i b)) * 10 + num (get_or b i false)
letters_suc b i h = rw (add-one i, take-suc b i false h, number_snoc (take i b) (get_or b i false))

-- and it still fits a word
pub letters_fit : (b : List Bool) (i : ℕ) → i < 19 → number_of (map letter (take i b)) * 10 + 1 < 2 ^ 64
letters_fit b i h =
    let lt : number_of (map letter (take i b)) < 10 ^ length (map letter (take i b)) = number_lt (map letter (take i b)) (letters_are (take i b)) in
    let few : length (map letter (take i b)) ≤ 18 = omega (arith, length-map (take i b) letter, length-take i b) in
    let le : 10 ^ length (map letter (take i b)) ≤ 10 ^ 18 = pow-le-pow_right {n = 10} (omega arith) few in
    omega arith

-- ---- the answers, by what is left of the bytes

module _ (s : List ℕ) (at n : ℕ) where
  abbrev rest : List Bool
  rest = drop at (unpack s)

  pub taken_short : length s * 8 - at < n → taken (at + n) (take_bits n (drop at (unpack s))) ≡ None
  unfolding taken
  taken_short h = rw (take_no n rest (omega (arith, length-drop at (unpack s), length_unpack s)))

  pub taken_bits : n ≤ length s * 8 - at → taken (at + n) (take_bits n (drop at (unpack s))) ≡ Some (value_of (take n (drop at (unpack s))), at + n)
  unfolding taken
  taken_bits h = rw (take_yes n rest (omega (arith, length-drop at (unpack s), length_unpack s)))

  pub text_short : length s * 8 - at < n → taken (at + n) (take_text n (drop at (unpack s))) ≡ None
  unfolding taken
  text_short h = rw (text_no n rest (omega (arith, length-drop at (unpack s), length_unpack s)))

  pub text_bits_lem : n ≤ 19 → n ≤ length s * 8 - at
      → taken (at + n) (take_text n (drop at (unpack s))) ≡ Some (number_of (map letter (take n (drop at (unpack s)))), at + n)
  unfolding taken
  text_bits_lem l h = rw (text_yes n rest (omega (arith, length-drop at (unpack s), length_unpack s)), letters_val n rest l)
