-- Bits of several bytes as a number, and bits in front of others by a shift.
-- Assumes nothing.
use mathlib.Core.Path.{◌≡◌, sym}
use mathlib.Core.List.{List, ◌++◌}
use Prim.Native.Nat.{ℕ, suc, ◌+◌, ◌-◌, ◌*◌, ◌/◌, ◌%◌, ◌^◌, ◌≤◌, ◌<◌}
use native.Mathlib.Nat.{add-zero, mod-lt, mul-mod_left}
use native.Mathlib.Omega.{arith}
use lib.ListN.{length, get_or, take, drop}
use lib.Arith.{digits_lt}
use lib.Pow.{mod-pow-add, pow-add, pow_pos, shl-shr, shr_lt}
use lib.Seq.{drop-cons, drop-drop, take-add, take_at}
use Rattle.laws.specs.Bits.{bits_of, unpack}
use Rattle.laws.proofs.BitLaws.{length_bits, bits_join, bits_mod}
use Rattle.laws.proofs.ByteLaws.{unpack_drop}

-- ---- bytes side by side

-- one byte
pub byte_at : (s : List ℕ) (i : ℕ) → i < length s → bits_of 8 (get_or s i 0) ≡ take 8 (drop (i * 8) (unpack s))
unfolding unpack
byte_at s i h = rw (← unpack_drop i s, drop-cons s i 0 h) (sym (take_at (bits_of 8 (get_or s i 0)) (unpack (drop (suc i) s)) 8 (length_bits 8 (get_or s i 0))))

-- m bytes in front of n
pub bytes_join : (s : List ℕ) (i m n a : ℕ) {b : ℕ} → bits_of (m * 8) a ≡ take (m * 8) (drop (i * 8) (unpack s))
    → bits_of (n * 8) b ≡ take (n * 8) (drop ((i + m) * 8) (unpack s)) → b < 2 ^ (n * 8)
    → bits_of (m * 8 + n * 8) (a * 2 ^ (n * 8) + b) ≡ take (m * 8 + n * 8) (drop (i * 8) (unpack s))
bytes_join s i m n a e f h =
    let p : (i + m) * 8 ≡ i * 8 + m * 8 = omega arith in
    rw (bits_join (m * 8) (n * 8) a h, e, f, p, ← drop-drop (m * 8) (i * 8) (unpack s), take-add (m * 8) (n * 8) (drop (i * 8) (unpack s)))

-- what is shifted past m + n bits is lost
shifted : (m n a : ℕ) → a * 2 ^ n % 2 ^ (m + n) ≡ a % 2 ^ m * 2 ^ n
shifted m n a = rw (mod-pow-add (a * 2 ^ n) m n, shl-shr a n, mul-mod_left a (2 ^ n)) (add-zero (a % 2 ^ m * 2 ^ n))

-- m bits in front of n by a shift
pub shift_lt : (m n a : ℕ) {b : ℕ} → b < 2 ^ n → a * 2 ^ n % 2 ^ (m + n) + b < 2 ^ (m + n)
shift_lt m n a h = rw (shifted m n a, pow-add 2 m n) (digits_lt (mod-lt a (pow_pos m)) h)

pub shift_join : (m n a : ℕ) {b : ℕ} → b < 2 ^ n → bits_of (m + n) (a * 2 ^ n % 2 ^ (m + n) + b) ≡ bits_of m a ++ bits_of n b
shift_join m n a h = rw (shifted m n a, bits_join m n (a % 2 ^ m) h, bits_mod m a)

-- the first o bits of a byte
pub first_lt : (x : ℕ) {o : ℕ} → o ≤ 8 → x < 256 → x / 2 ^ (8 - o) < 2 ^ o
first_lt x {o} h k =
    let e : o + (8 - o) ≡ 8 = omega arith in
    shr_lt o (8 - o) (rw e k)
