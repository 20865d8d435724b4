-- The bits of a number and the number of bits, for every width together.
-- Assumes nothing.
use mathlib.Core.Path.{◌≡◌, refl, sym, ap, ap₂, ◌∙◌}
use mathlib.Core.Bool.{Bool, true, false}
use mathlib.Core.List.{List, [], ◌∷◌, ◌++◌}
use Prim.Native.Nat.{ℕ, zero, suc, ◌+◌, ◌*◌, ◌/◌, ◌%◌, ◌^◌, ◌≤◌, ◌<◌}
use native.Mathlib.Nat.{zero-add, suc-add, add_comm, not-suc-le-zero, le_of_suc-le-suc, mod-eq_of_lt, mod-lt, pow-suc, mul_assoc, lt_of_lt_of_le}
use native.Mathlib.Numerals.{add-one, one-add}
use native.Mathlib.Omega.{arith}
use lib.ListN.{length, length-take, length-append, get_or, take}
use lib.Seq.{get_or_at, take-suc}
use lib.Dec.{eqb}
use lib.Pow.{pow_mono, pow_pos, shr-shr, high, low, mod-pow-add, field, mod-mod-pow}
use lib.Arith.{digits_lt}
use Rattle.laws.specs.Bits.{odd, num, bits_of, value_of}

-- ---- one bit

bit_small : (r : ℕ) → r < 2 → num (eqb r 1) ≡ r
unfolding num
bit_small zero h = refl
bit_small (suc zero) h = refl
bit_small (suc (suc r)) h = absurd (not-suc-le-zero (le_of_suc-le-suc (le_of_suc-le-suc h)))

pub num_odd : (n : ℕ) → num (odd n) ≡ n % 2
unfolding odd
num_odd n = bit_small (n % 2) (omega arith)

pub odd_num : (b : Bool) → odd (num b) ≡ b
unfolding odd num
odd_num true = refl
odd_num false = refl

pub num_lt : (b : Bool) → num b < 2
unfolding num
num_lt true = omega arith
num_lt false = omega arith

pub odd_cong : (a b : ℕ) → a % 2 ≡ b % 2 → odd a ≡ odd b
unfolding odd
odd_cong a b e = ap (λ (r : ℕ). eqb r 1) e

-- ---- bits of a number

pub length_bits : (n v : ℕ) → length (bits_of n v) ≡ n
unfolding bits_of
length_bits zero v = refl
length_bits (suc n) v = ap suc (length_bits n v)

pub value_bits : (n v : ℕ) → value_of (bits_of n v) ≡ v % 2 ^ n
unfolding bits_of value_of
value_bits zero v = omega arith
value_bits (suc n) v = rw (num_odd, length_bits n v, value_bits n v) (sym (rw one-add at (mod-pow-add v 1 n)))

-- only the low n bits count
pub bits_cong : (n a b : ℕ) → a % 2 ^ n ≡ b % 2 ^ n → bits_of n a ≡ bits_of n b
unfolding bits_of
bits_cong zero a b e = refl
bits_cong (suc n) a b e =
    let e' : a % 2 ^ (1 + n) ≡ b % 2 ^ (1 + n) = rw one-add e in
    ap₂ (λ (x : Bool) (xs : List Bool). x ∷ xs)
    (odd_cong (a / 2 ^ n) (b / 2 ^ n) (sym (field a 1 n) ∙ ap (λ (x : ℕ). x / 2 ^ n) e' ∙ field b 1 n))
    (bits_cong n a b (sym (mod-mod-pow a 1 n) ∙ ap (λ (x : ℕ). x % 2 ^ n) e' ∙ mod-mod-pow b 1 n))

-- the high bits and the low ones
pub bits_append : (m j v : ℕ) → bits_of (m + j) v ≡ bits_of m (v / 2 ^ j) ++ bits_of j v
unfolding bits_of
bits_append zero j v = rw zero-add
bits_append (suc m) j v = rw (suc-add, shr-shr, add_comm j m, bits_append m j v)

-- numbers side by side
pub bits_join : (m n a : ℕ) {b : ℕ} → b < 2 ^ n → bits_of (m + n) (a * 2 ^ n + b) ≡ bits_of m a ++ bits_of n b
bits_join m n a {b} h =
    rw (bits_append m n (a * 2 ^ n + b), high a n h, bits_cong n (a * 2 ^ n + b) b (low a n h ∙ sym (mod-eq_of_lt h)))

pub bits_mod : (n v : ℕ) → bits_of n (v % 2 ^ n) ≡ bits_of n v
bits_mod n v = bits_cong n (v % 2 ^ n) v (mod-eq_of_lt (mod-lt v (pow_pos n)))

-- bit j from the end is the m-th from the front
pub bits_around : (n m j v : ℕ) → m + suc j ≡ n → bits_of n v ≡ bits_of m (v / 2 ^ suc j) ++ odd (v / 2 ^ j) ∷ bits_of j v
unfolding bits_of
bits_around n m j v e = rw (← e) (bits_append m (suc j) v)

pub get_d_bits : (n m j v : ℕ) → m + suc j ≡ n → get_or (bits_of n v) m false ≡ odd (v / 2 ^ j)
get_d_bits n m j v e =
    rw (bits_around n m j v e) (get_or_at (bits_of m (v / 2 ^ suc j)) (odd (v / 2 ^ j)) (bits_of j v) false m (length_bits m (v / 2 ^ suc j)))

-- ---- the number of bits

pub value_lt : (b : List Bool) → value_of b < 2 ^ length b
unfolding value_of
value_lt [] = omega arith
value_lt (x ∷ b) = omega (arith, digits_lt (num_lt x) (value_lt b), pow-suc 2 (length b))

bits_all : (b : List Bool) → bits_of (length b) (value_of b) ≡ b
unfolding bits_of value_of
bits_all [] = refl
bits_all (x ∷ b) =
    ap₂ (λ (y : Bool) (ys : List Bool). y ∷ ys)
    (ap odd (high (num x) (length b) (value_lt b)) ∙ odd_num x)
    (bits_cong (length b) (num x * 2 ^ length b + value_of b) (value_of b) (low (num x) (length b) (value_lt b) ∙ sym (mod-eq_of_lt (value_lt b))) ∙ bits_all b)

pub bits_value : (n : ℕ) (b : List Bool) → length b ≡ n → bits_of n (value_of b) ≡ b
bits_value n b e = rw (← e) (bits_all b)

-- one bit more at the end
pub value_snoc : (b : List Bool) (x : Bool) → value_of (b ++ x ∷ []) ≡ value_of b * 2 + num x
unfolding value_of
value_snoc [] x = omega arith
value_snoc (y ∷ b) x =
    rw (value_snoc b x, length-append b (x ∷ []), add-one, pow-suc, ← mul_assoc (num y) (2 ^ length b) 2) (omega arith)

pub value_take_suc : (b : List Bool) (i : ℕ) → i < length b → value_of (take (suc i) b) ≡ value_of (take i b) * 2 + num (get_or b i false)
value_take_suc b i h = rw (take-suc b i false h, value_snoc (take i b) (get_or b i false))

pub value_take_lt : (b : List Bool) (i : ℕ) → value_of (take i b) < 2 ^ i
value_take_lt b i = lt_of_lt_of_le (value_lt (take i b)) (pow_mono (omega (arith, length-take i b)))

-- one bit more still fits a word of k bits
pub value_take_fits : (k : ℕ) (b : List Bool) (i : ℕ) → i < k → value_of (take i b) * 2 + 1 < 2 ^ k
value_take_fits k b i h =
    let p : 2 ^ suc i ≤ 2 ^ k = pow_mono h in
    omega (arith, pow-suc 2 i, value_take_lt b i)
