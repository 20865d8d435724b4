-- `val_of` byte by byte, and of decimal digits.
-- Assumes nothing.
use mathlib.Core.Path.{◌≡◌, ap, ◌∙◌}
use mathlib.Core.Bool.{true, false}
use mathlib.Core.List.{List, [], ◌∷◌}
use Prim.Native.Nat.{ℕ, suc, ◌+◌, ◌-◌, ◌*◌, ◌^◌, ◌≤◌, ◌<◌}
use native.Mathlib.Nat.{pow-suc, pow-le-pow_right, le_trans, add-mul, mul_assoc, mul_comm, mul_right_comm, mul-le-mul_right, le-mul_of_pos_right, mod-eq_of_lt, one-mul}
use native.Mathlib.Omega.{arith}
use lib.ListN.{length, get_or, drop}
use lib.Seq.{drop-cons}
use borrow.Author.Tests.{le-ltb, ne_eqb}
use Rattle.laws.specs.Digits.{Digits, digits, number_of}
use Rattle.laws.specs.Pick.{pick}
use Rattle.laws.proofs.DigitLaws.{ten_pos, digits_head, digits_tail, digits_are, digits_number, length_digits, number_lt, number_digits}
use Rattle.bits.specs.Val.{stops, next_val, val_from, val_of}

-- ---- at each byte

pub val_stop : (a : ℕ) (s : List ℕ) (i : ℕ) → i < length s → stops (get_or s i 0) ≡ true → val_from a (drop i s) ≡ a
unfolding val_from pick
val_stop a s i h e = rw (drop-cons s i 0 h, e)

pub val_next : (a : ℕ) (s : List ℕ) (i : ℕ) → i < length s → stops (get_or s i 0) ≡ false
    → val_from a (drop i s) ≡ val_from (next_val a (get_or s i 0)) (drop (suc i) s)
unfolding val_from pick
val_next a s i h e = rw (drop-cons s i 0 h, e)

-- ---- of digits

stops_no : (c : ℕ) → 48 ≤ c → c < 58 → stops c ≡ false
unfolding stops pick
stops_no c h k = rw (ne_eqb c 32 (λ e. omega arith), le-ltb c 48 h) (le-ltb 57 c (omega arith))

next_digit : (a c : ℕ) → 48 ≤ c → c < 58 → a * 10 + 9 < 2 ^ 64 → next_val a c ≡ a * 10 + (c - 48)
unfolding next_val pick
next_digit a c h k l = rw (ne_eqb c 32 (λ e. omega arith)) (omega arith)

-- a and the digits, up to 64 bits
from_digits : (s : List ℕ) (a : ℕ) → Digits s → (a + 1) * 10 ^ length s ≤ 2 ^ 64 → val_from a s ≡ a * 10 ^ length s + number_of s
unfolding val_from pick number_of
from_digits [] a h l = omega arith
from_digits (c ∷ s) a h l =
    let q = 10 ^ length s in
    let f = digits_head c s h in
    let b = a * 10 + (c - 48) in
    let l₁ : (a + 1) * q * 10 ≤ 2 ^ 64 = rw mul_assoc (rw (pow-suc 10 (length s)) at l) in
    let l₂ : a + 1 ≤ (a + 1) * q = le-mul_of_pos_right (a + 1) (ten_pos (length s)) in
    let l₃ : (b + 1) * q ≤ (a + 1) * 10 * q = mul-le-mul_right q (omega arith) in
    let l₄ : (a + 1) * 10 * q ≡ (a + 1) * q * 10 = mul_right_comm (a + 1) 10 q in
    let e₁ : b * q ≡ a * 10 * q + (c - 48) * q = add-mul (a * 10) (c - 48) q in
    let e₂ : a * 10 * q ≡ a * (q * 10) = mul_assoc a 10 q ∙ ap (λ (x : ℕ). a * x) (mul_comm 10 q) in
    rw (stops_no c f.0 f.1, next_digit a c f.0 f.1 (omega arith), from_digits s b (digits_tail c s h) (omega arith), pow-suc) (omega arith)

-- nineteen digits are below 2 ^ 64
small : (n : ℕ) → n ≤ 19 → (0 + 1) * 10 ^ n ≤ 2 ^ 64
small n h = rw one-mul (le_trans (pow-le-pow_right {n = 10} (omega arith) h) (omega arith))

pub val_number : (s : List ℕ) → Digits s → length s ≤ 19 → val_of s ≡ number_of s
unfolding val_of
val_number s h l = from_digits s 0 h (small (length s) l) ∙ omega arith

-- n digits are those of their number
pub digits_val : (s : List ℕ) → Digits s → length s ≤ 19 → digits (length s) (val_of s) ≡ s
digits_val s h l = rw (val_number s h l) (digits_number s h)

-- a number is that of its n digits
pub val_digits : (n v : ℕ) → n ≤ 19 → v < 10 ^ n → val_of (digits n v) ≡ v
val_digits n v l h =
    val_number (digits n v) (digits_are n v) (omega (arith, length_digits n v))
    ∙ number_digits n v ∙ mod-eq_of_lt h

pub val_lt : (s : List ℕ) → Digits s → length s ≤ 19 → val_of s < 10 ^ length s
val_lt s h l = rw (val_number s h l) (number_lt s h)
