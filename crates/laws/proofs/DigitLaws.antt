-- Decimal digits and numbers undo each other.
-- Assumes nothing.
use mathlib.Core.Path.{◌≡◌, refl, sym, ap, ap₂, ◌∙◌}
use mathlib.Core.List.{List, [], ◌∷◌}
use Prim.Native.Nat.{ℕ, zero, suc, ◌+◌, ◌-◌, ◌*◌, ◌/◌, ◌%◌, ◌^◌, ◌≤◌, ◌<◌, suc-le-suc}
use native.Mathlib.Nat.{pow-succ', pow-le-pow_right, mod-lt, mod-eq_of_lt}
use native.Mathlib.Omega.{arith}
use lib.ListN.{length}
use lib.Arith.{digits_lt, digits_div, digits_mod, mod-mul}
use Rattle.laws.specs.Digits.{Digits, digits, number_of}

pub ten_pos : (n : ℕ) → 0 < 10 ^ n
ten_pos n = pow-le-pow_right {n = 10} (omega arith) {i = 0} (omega arith)

-- ---- the first digit and the others

pub digits_head : (c : ℕ) (s : List ℕ) → Digits (c ∷ s) → (48 ≤ c) × (c < 58)
digits_head c s h = h 0 (omega arith)

pub digits_tail : (c : ℕ) (s : List ℕ) → Digits (c ∷ s) → Digits s
digits_tail c s h i k = h (suc i) (suc-le-suc k)

-- the digit that has n after it, and those
mod_ten : (v n : ℕ) → v % 10 ^ suc n ≡ (v / 10 ^ n % 10) * 10 ^ n + v % 10 ^ n
mod_ten v n = rw pow-succ' (mod-mul v (omega arith) (ten_pos n))

-- ---- digits of a number

pub length_digits : (n v : ℕ) → length (digits n v) ≡ n
unfolding digits
length_digits zero v = refl
length_digits (suc n) v = ap suc (length_digits n v)

pub digits_are : (n v : ℕ) → Digits (digits n v)
unfolding digits
digits_are zero v i h = absurd (omega arith)
digits_are (suc n) v zero h = (omega arith, omega arith)
digits_are (suc n) v (suc i) h = digits_are n v i (omega arith)

-- only the low n digits count
pub digits_cong : (n a b : ℕ) → a % 10 ^ n ≡ b % 10 ^ n → digits n a ≡ digits n b
unfolding digits
digits_cong zero a b e = refl
digits_cong (suc n) a b e =
    let high : (x : ℕ) → x % 10 ^ suc n / 10 ^ n ≡ x / 10 ^ n % 10 =
    λ x. rw (mod_ten x n) (digits_div (x / 10 ^ n % 10) (mod-lt x (ten_pos n))) in
    let low : (x : ℕ) → x % 10 ^ suc n % 10 ^ n ≡ x % 10 ^ n =
    λ x. rw (mod_ten x n) (digits_mod (x / 10 ^ n % 10) (mod-lt x (ten_pos n))) in
    ap₂ (λ (d : ℕ) (ds : List ℕ). (48 + d) ∷ ds)
    (sym (high a) ∙ ap (λ (x : ℕ). x / 10 ^ n) e ∙ high b)
    (digits_cong n a b (sym (low a) ∙ ap (λ (x : ℕ). x % 10 ^ n) e ∙ low b))

-- ---- there and back

pub number_lt : (s : List ℕ) → Digits s → number_of s < 10 ^ length s
unfolding number_of
number_lt [] h = omega arith
number_lt (c ∷ s) h =
    let f = digits_head c s h in
    let d : c - 48 < 10 = omega arith in
    rw pow-succ' (digits_lt d (number_lt s (digits_tail c s h)))

pub digits_number : (s : List ℕ) → Digits s → digits (length s) (number_of s) ≡ s
unfolding number_of digits
digits_number [] h = refl
digits_number (c ∷ s) h =
    let f = digits_head c s h in
    let n = length s in
    let t = number_lt s (digits_tail c s h) in
    let d : ((c - 48) * 10 ^ n + number_of s) / 10 ^ n ≡ c - 48 = digits_div (c - 48) t in
    let m : ((c - 48) * 10 ^ n + number_of s) % 10 ^ n ≡ number_of s % 10 ^ n = digits_mod (c - 48) t ∙ sym (mod-eq_of_lt t) in
    ap₂ (λ (x : ℕ) (xs : List ℕ). x ∷ xs) (rw d (omega arith))
    (digits_cong n ((c - 48) * 10 ^ n + number_of s) (number_of s) m ∙ digits_number s (digits_tail c s h))

pub number_digits : (n v : ℕ) → number_of (digits n v) ≡ v % 10 ^ n
unfolding number_of digits
number_digits zero v = omega arith
number_digits (suc n) v =
    let d : 48 + v / 10 ^ n % 10 - 48 ≡ v / 10 ^ n % 10 = omega arith in
    rw (d, length_digits n v, number_digits n v) (sym (mod_ten v n))
