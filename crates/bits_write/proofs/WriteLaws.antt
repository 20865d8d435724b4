-- What the writers lean on: some bits of a byte, more bits of a number, pad bits, the highest bits.
-- Assumes nothing.
use mathlib.Core.Path.{◌≡◌, refl, sym, ap, ◌∙◌}
use mathlib.Core.Bool.{Bool, true, false, not}
use mathlib.Core.List.{List}
use Prim.Native.Nat.{ℕ, zero, suc, ◌+◌, ◌-◌, ◌*◌, ◌/◌, ◌%◌, ◌^◌, ◌≤◌, ◌<◌}
use native.Mathlib.Nat.{div-one, sub_self, mod-lt, pow-suc, lt_of_lt_of_le, zero-div}
use native.Mathlib.Omega.{arith}
use lib.ListN.{length, get_or, replicate, get_or-replicate}
use lib.Seq.{sets}
use lib.Arith.{digits_lt}
use lib.Count.{leading_length}
use lib.Pow.{pow_mono, pow-add, pow_pos, shr_lt, shr-shr}
use Rattle.laws.specs.Bits.{odd, bits_of}
use Rattle.laws.specs.Pick.{pick}
use Rattle.laws.proofs.BitLaws.{bits_append, bits_join, bits_mod, length_bits, get_d_bits}
use Rattle.laws.proofs.Cases.{by_le}
use Rattle.laws.proofs.ListLaws.{sets_append, sets_over}
use Rattle.bits_write.specs.Write.{width_of, top_bits}

-- ---- some bits of a byte

-- x with the low m bits of v for those in front of its last r
unfoldable pub splice : ℕ → ℕ → ℕ → ℕ → ℕ
splice x v m r = (x / 2 ^ r / 2 ^ m * 2 ^ m + v % 2 ^ m) * 2 ^ r + x % 2 ^ r

module _ (n o m r x v : ℕ) (e : o + m + r ≡ n) where
  pub bits_splice : bits_of n (splice x v m r) ≡ sets (bits_of n x) o (bits_of m v)
  unfolding splice
  bits_splice =
      rw (← e, bits_join (o + m) r (x / 2 ^ r / 2 ^ m * 2 ^ m + v % 2 ^ m) (mod-lt x (pow_pos r)), bits_join o m (x / 2 ^ r / 2 ^ m) (mod-lt v (pow_pos m)), bits_mod m v, bits_mod r x, bits_append (o + m) r x, bits_append o m (x / 2 ^ r))
      (sym (sets_over (bits_of o (x / 2 ^ r / 2 ^ m)) (bits_of m (x / 2 ^ r)) (bits_of r x) (bits_of m v) o (length_bits o (x / 2 ^ r / 2 ^ m))
      (length_bits m v ∙ sym (length_bits m (x / 2 ^ r)))))

  pub splice_lt : x < 2 ^ n → splice x v m r < 2 ^ n
  unfolding splice
  splice_lt h =
      let y : x / 2 ^ r / 2 ^ m < 2 ^ o = shr_lt o m (shr_lt (o + m) r (rw e h)) in
      rw (← e, pow-add 2 (o + m) r, pow-add 2 o m) (digits_lt (digits_lt y (mod-lt v (pow_pos m))) (mod-lt x (pow_pos r)))

-- ---- some bits more of a number

pub sets_bits_more : (l : List Bool) (at n m v : ℕ)
    → sets (sets l at (bits_of n (v / 2 ^ m))) (at + n) (bits_of m v) ≡ sets l at (bits_of (n + m) v)
sets_bits_more l at n m v =
    let e = sets_append l at (bits_of n (v / 2 ^ m)) (bits_of m v) in
    rw (bits_append n m v) (sym (rw (length_bits n (v / 2 ^ m)) at e))

-- of n bits all but `left` are there, and m more are stored
pub sets_bits_left : (l : List Bool) (at v : ℕ) {n left m : ℕ} → left ≤ n → m ≤ left
    → sets (sets l at (bits_of (n - left) (v / 2 ^ left))) (at + (n - left)) (bits_of m (v / 2 ^ (left - m)))
    ≡ sets l at (bits_of (n - (left - m)) (v / 2 ^ (left - m)))
sets_bits_left l at v {n} {left} {m} h k =
    let e : left - m + m ≡ left = omega arith in
    let f : n - left + m ≡ n - (left - m) = omega arith in
    rw (shr-shr, e, f) at (sets_bits_more l at (n - left) m (v / 2 ^ (left - m)))

pub sets_bits_none : (l : List Bool) (at v n : ℕ) → l ≡ sets l at (bits_of (n - n) v)
unfolding bits_of
sets_bits_none l at v n = rw sub_self

-- ---- pad bits

zeros : (n : ℕ) → bits_of n 0 ≡ replicate n false
unfolding bits_of odd
zeros zero = refl
zeros (suc n) = rw (zero-div (2 ^ n), zeros n)

eight_ones : bits_of 8 0xFF ≡ replicate 8 true
unfolding bits_of odd
eight_ones = refl

ones : (n : ℕ) → n ≤ 8 → bits_of n 0xFF ≡ replicate n true
unfolding bits_of
ones zero h = refl
ones (suc n) h =
    let one : odd (0xFF / 2 ^ n) ≡ true =
    sym (get_d_bits 8 (7 - n) n 0xFF (omega arith)) ∙ ap (λ (l : List Bool). get_or l (7 - n) false) eight_ones
    ∙ get_or-replicate 8 (7 - n) true false (omega arith) in
    rw (one, ones n (omega arith))

-- up to eight pad bits, the opposite of a bit
pub pad_bits : (t : Bool) (n : ℕ) → n ≤ 8 → bits_of n (pick t 0x00 0xFF) ≡ replicate n (not t)
unfolding pick
pad_bits true n h = zeros n
pad_bits false n h = ones n h

-- ---- the highest bits

-- a number below 2 ^ n has at most n bits
width_le : (n v : ℕ) → n ≤ 64 → v < 2 ^ n → width_of v - n ≡ 0
unfolding width_of
width_le n v l h =
    let t = leading_length 64 v (lt_of_lt_of_le h (pow_mono l)) in
    by_le t.0 n
    (λ k. omega (arith, t.1))
    (λ k. let m : 2 ^ suc n ≤ 2 ^ t.0 = pow_mono k in absurd (omega (arith, pow-suc 2 n, t.3)))

-- a number that fits keeps all its bits
pub top_bits_lem : (n v : ℕ) → n ≤ 64 → v < 2 ^ n → top_bits n v ≡ bits_of n v
unfolding top_bits
top_bits_lem n v l h = rw (width_le n v l h, div-one)

pub length_top : (n v : ℕ) → length (top_bits n v) ≡ n
unfolding top_bits
length_top n v = length_bits n (v / 2 ^ (width_of v - n))
