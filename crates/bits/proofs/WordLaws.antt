-- Bits of eight bytes as a word: a part of them, numbers of so many bits each, whole bytes.
-- Assumes nothing.
use mathlib.Core.Path.{◌≡◌, refl, sym, ap, ◌∙◌}
use mathlib.Core.Bool.{Bool}
use mathlib.Core.List.{List, [], ◌∷◌, ◌++◌}
use Prim.Native.Nat.{ℕ, zero, suc, ◌+◌, ◌-◌, ◌*◌, ◌/◌, ◌%◌, ◌^◌, ◌≤◌, ◌<◌}
use native.Mathlib.Nat.{zero-add, zero-mul, suc-add, suc-mul, add_comm, div-one}
use native.Mathlib.Numerals.{add-one}
use native.Mathlib.Omega.{arith}
use lib.ListN.{length, take, drop, length-drop}
use lib.Seq.{drop-drop, take-add, take_at, drop_at, take-nil, take-take, length-take-le, sets}
use Rattle.laws.specs.Bits.{Bytes, bits_of, value_of, pack_n, unpack}
use Rattle.laws.specs.Wrote.{Wrote}
use Rattle.laws.proofs.BitLaws.{length_bits, value_bits, bits_append}
use Rattle.laws.proofs.ByteLaws.{fit_take, length_pack_n, unpack_pack_n, bytes_pack_n, bytes_stored}
use Rattle.laws.proofs.ListLaws.{sets_out}
use Rattle.bits_write.proofs.WordLaws.{shift_lt, shift_join, first_lt}
use Rattle.bits.specs.Read.{numbers}

-- ---- a part of a word

-- k bits of a number, after m and in front of j
pub mid_bits : (m k j v : ℕ) → take k (drop m (bits_of (m + (k + j)) v)) ≡ bits_of k (v / 2 ^ j)
mid_bits m k j v =
    rw (bits_append m (k + j) v, drop_at (bits_of m (v / 2 ^ (k + j))) (bits_of (k + j) v) m (length_bits m (v / 2 ^ (k + j))), bits_append k j v)
    (take_at (bits_of k (v / 2 ^ j)) (bits_of j v) k (length_bits k (v / 2 ^ j)))

-- a part of a front
pub front_part : (o n m : ℕ) (l : List Bool) → o + n ≤ m → take n (drop o (take m l)) ≡ take n (drop o l)
front_part zero n m l h = take-take n m l (omega arith)
front_part (suc o) n m [] h = ap (λ (l : List Bool). take n (drop (suc o) l)) (take-nil m)
front_part (suc o) n zero (x ∷ l) h = absurd (omega arith)
front_part (suc o) n (suc m) (x ∷ l) h = front_part o n m l (omega arith)

-- n bits after o in the first w, which a number holds
part_in : (l : List Bool) (o n w v : ℕ) → o + n ≤ w → bits_of w v ≡ take w l → bits_of n (v / 2 ^ (w - (o + n))) ≡ take n (drop o l)
part_in l o n w v h e =
    let j = w - (o + n) in
    let all : w ≡ o + (n + j) = omega arith in
    sym (mid_bits o n j v) ∙ ap (λ (x : ℕ). take n (drop o (bits_of x v))) (sym all) ∙ ap (λ (x : List Bool). take n (drop o x)) e ∙ front_part o n w l h

-- n bits from a position on, in a word of eight bytes that holds them all, j bits in front of its end
pub part_at : (b : List Bool) (at i n w j : ℕ) → i * 8 ≤ at → at + n + j ≡ i * 8 + 64 → bits_of 64 w ≡ take 64 (drop (i * 8) b)
    → bits_of n (w / 2 ^ j) ≡ take n (drop at b)
part_at b at i n w j h k e =
    let o = at - i * 8 in
    let p : i * 8 + o ≡ at = omega arith in
    let f : j ≡ 64 - (o + n) = omega arith in
    rw f (part_in (drop (i * 8) b) o n 64 w (omega arith) e ∙ rw (drop-drop o (i * 8) b, p))

-- n bits from a position on, in the word of the eight bytes that it stands in
pub part_of : (b : List Bool) (at n w : ℕ) → at % 8 + n ≤ 64 → bits_of 64 w ≡ take 64 (drop (at / 8 * 8) b)
    → bits_of n (w / 2 ^ (64 - (at % 8 + n))) ≡ take n (drop at b)
part_of b at n w h e = part_at b at (at / 8) n w (64 - (at % 8 + n)) (omega arith) (omega arith) e

-- ---- a word and the byte after it

module _ (o w v x : ℕ) (h : o ≤ 8) (k : o ≤ w) (lt : x < 256) where
  pub behind_lt : v * 2 ^ o % 2 ^ w + x / 2 ^ (8 - o) < 2 ^ w
  behind_lt =
      let e : (w - o) + o ≡ w = omega arith in
      rw e at (shift_lt (w - o) o v (first_lt x h lt))

  -- the w bits after the first o
  pub behind : (l : List Bool) → bits_of w v ≡ take w l → bits_of 8 x ≡ take 8 (drop w l) → bits_of w (v * 2 ^ o % 2 ^ w + x / 2 ^ (8 - o)) ≡ take w (drop o l)
  behind l f g =
      let e : (w - o) + o ≡ w = omega arith in
      let all : o + (w - o) ≡ w = omega arith in
      let none : w - (o + (w - o)) ≡ 0 = omega arith in
      let front : bits_of (w - o) v ≡ take (w - o) (drop o l) = rw (none, div-one v) at (part_in l o (w - o) w v (omega arith) f) in
      let back : bits_of o (x / 2 ^ (8 - o)) ≡ take o (drop w l) = rw (zero-add o) at (part_in (drop w l) 0 o 8 x (omega arith) g) in
      let joined = rw e at (shift_join (w - o) o v (first_lt x h lt)) in
      let parts = rw (e, drop-drop (w - o) o l, all) at (take-add (w - o) o (drop o l)) in
      rw (joined, front, back, parts)

-- ---- numbers of w bits

pub length_numbers : (w k : ℕ) (b : List Bool) → length (numbers w k b) ≡ k
unfolding numbers
length_numbers w zero b = refl
length_numbers w (suc k) b = ap suc (length_numbers w k (drop w b))

-- w times one more, with w in front
suc_times : (w k : ℕ) → suc k * w ≡ w + k * w
suc_times w k = suc-mul k w ∙ add_comm (k * w) w

pub numbers_add : (w m n : ℕ) (b : List Bool) → numbers w (m + n) b ≡ numbers w m b ++ numbers w n (drop (m * w) b)
unfolding numbers
numbers_add w zero n b = rw (zero-add, zero-mul)
numbers_add w (suc m) n b =
    rw (suc-add, suc_times w m, ← drop-drop (m * w) w b) (ap (λ (l : List ℕ). value_of (take w b) ∷ l) (numbers_add w m n (drop w b)))

-- one more number
pub numbers_suc : (w k : ℕ) (b : List Bool) → numbers w (suc k) b ≡ numbers w k b ++ (value_of (take w (drop (k * w) b)) ∷ [])
unfolding numbers
numbers_suc w k b = ap (λ (n : ℕ). numbers w n b) (sym (add-one k)) ∙ numbers_add w k 1 b

-- only k times w bits count
pub numbers_front : (w k : ℕ) (b : List Bool) → k * w ≤ length b → numbers w k (take (k * w) b) ≡ numbers w k b
unfolding numbers
numbers_front w zero b h = refl
numbers_front w (suc k) b h =
    let e = suc_times w k in
    let l : length (take w b) ≡ w = length-take-le w b (omega arith) in
    rw (e, take-add w (k * w) b, take_at (take w b) (take (k * w) (drop w b)) w l, drop_at (take w b) (take (k * w) (drop w b)) w l)
    (ap (λ (t : List ℕ). value_of (take w b) ∷ t) (numbers_front w k (drop w b) (omega (arith, length-drop w b))))

-- numbers of eight bits are bytes
pub numbers_bytes : (k : ℕ) (b : List Bool) → k * 8 ≤ length b → numbers 8 k b ≡ pack_n k b
unfolding numbers pack_n
numbers_bytes zero b h = refl
numbers_bytes (suc k) b h =
    rw (fit_take 8 b (omega arith)) (ap (λ (t : List ℕ). value_of (take 8 b) ∷ t) (numbers_bytes k (drop 8 b) (omega (arith, length-drop 8 b))))

-- ---- whole bytes

-- bytes whose bits were stored are stored
pub bytes_wrote : (k : ℕ) (b : List Bool) {s t : List ℕ} {i : ℕ} → k * 8 ≤ length b → Bytes s → Bytes t → unpack t ≡ sets (unpack s) (i * 8) (take (k * 8) b)
    → Wrote s i (pack_n k b) t (i + k)
bytes_wrote k b {s} {t} {i} h hs ht e =
    let bits : take (k * 8) b ≡ unpack (pack_n k b) = sym (unpack_pack_n k b ∙ fit_take (k * 8) b h) in
    record { stored = bytes_stored s t i (pack_n k b) hs ht (bytes_pack_n k b) (rw bits at e); next_is = omega (arith, length_pack_n k b) }

-- the number i of eight in a word
pub seven_in : (i j v : ℕ) → i + suc j ≡ 8 → value_of (take 7 (drop (i * 7) (bits_of 56 v))) ≡ v / 2 ^ (j * 7) % 128
seven_in i j v h =
    let e : 56 ≡ i * 7 + (7 + j * 7) = omega arith in
    ap (λ (x : ℕ). value_of (take 7 (drop (i * 7) (bits_of x v)))) e ∙ ap value_of (mid_bits (i * 7) 7 (j * 7) v) ∙ value_bits 7 (v / 2 ^ (j * 7))

-- where there is no room nothing is written
pub unwritten : (out : List ℕ) (to : ℕ) (x : List ℕ) {n : ℕ} → length x ≡ n → length out ≤ to → Wrote out to x out (to + n)
unwritten out to x e h = record { stored = sym (sets_out out to x h); next_is = omega arith }
