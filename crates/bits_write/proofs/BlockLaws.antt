-- Text of seven bits a byte in blocks: numbers of several bytes, and bits carried from one block to the next.
-- Assumes nothing.
use mathlib.Core.Path.{◌≡◌, refl, sym, ap, ◌∙◌}
use mathlib.Core.Bool.{Bool}
use mathlib.Core.List.{List, [], ◌∷◌, ◌++◌, append_assoc, append-nil}
use Prim.Native.Nat.{ℕ, zero, suc, ◌+◌, ◌-◌, ◌*◌, ◌/◌, ◌%◌, ◌^◌, ◌≤◌, ◌<◌}
use native.Mathlib.Nat.{zero-add, suc-add, add_comm, lt_of_lt_of_le}
use native.Mathlib.Omega.{arith}
use lib.ListN.{length, get_or, set, take, drop, take-append-drop}
use lib.Seq.{sets, take-length, take-nil, drop-drop, drop-cons, length-take-le, set-get_or}
use lib.Pow.{pow_mono, shr_lt}
use Rattle.laws.specs.Bits.{bits_of, unpack}
use Rattle.laws.specs.Wrote.{Wrote}
use Rattle.laws.proofs.BitLaws.{length_bits, bits_append, bits_join, bits_mod}
use Rattle.laws.proofs.ByteLaws.{put_unpack, unpack_drop}
use Rattle.laws.proofs.ListLaws.{sets_append, sets_over, from_place}
use Rattle.laws.proofs.WroteLaws.{wrote_then, wrote_as}
use Rattle.bits_write.specs.Text7.{sevens}
use Rattle.bits_write.proofs.Text7Laws.{length_sevens}
use Rattle.bits_write.proofs.WordLaws.{shift_lt, shift_join}

-- ---- numbers of several bytes

pub sevens_add : (m n : ℕ) (s : List ℕ) → sevens (take (m + n) s) ≡ sevens (take m s) ++ sevens (take n (drop m s))
unfolding sevens
sevens_add zero n s = rw zero-add
sevens_add (suc m) n [] = rw (suc-add, take-nil)
sevens_add (suc m) n (c ∷ s) = rw (suc-add, sevens_add m n s, append_assoc)

pub sevens_rest : (s : List ℕ) (i : ℕ) → i ≤ length s → sevens (take i s) ++ sevens (take (length s - i) (drop i s)) ≡ sevens s
sevens_rest s i h =
    let e : i + (length s - i) ≡ length s = omega arith in
    sym (sevens_add i (length s - i) s) ∙ rw (e, take-length s)

-- the first k bytes of a text, and then the others
pub sevens_wrote : (s : List ℕ) (k : ℕ) {b c d : List Bool} {at pos next : ℕ} → k ≤ length s → c ≡ sets b at (sevens (take k s)) → pos ≡ at + k * 7
    → Wrote c pos (sevens (take (length s - k) (drop k s))) d next → Wrote b at (sevens s) d next
sevens_wrote s k {b} {c} {at = at} {pos = pos} h e f g =
    let front : Wrote b at (sevens (take k s)) c pos =
    record { stored = e; next_is = omega (arith, length_sevens (take k s), length-take-le k s h) } in
    wrote_as (sevens_rest s k h) (wrote_then front g)

-- one byte
pub seven_at : (s : List ℕ) (k : ℕ) → k < length s → bits_of 7 (get_or s k 0 % 128) ≡ sevens (take 1 (drop k s))
unfolding sevens
seven_at s k h = rw (drop-cons s k 0 h) (bits_mod 7 (get_or s k 0) ∙ sym (append-nil (bits_of 7 (get_or s k 0))))

-- m bytes in front of n
pub sevens_join : (s : List ℕ) (k m n a : ℕ) {b : ℕ} → bits_of (m * 7) a ≡ sevens (take m (drop k s)) → bits_of (n * 7) b ≡ sevens (take n (drop (k + m) s))
    → b < 2 ^ (n * 7) → bits_of (m * 7 + n * 7) (a * 2 ^ (n * 7) + b) ≡ sevens (take (m + n) (drop k s))
sevens_join s k m n a {b} e f h =
    rw (bits_join (m * 7) (n * 7) a h, e, f, ← drop-drop m k s, sevens_add m n (drop k s))

-- ---- whole bytes

-- the first k bytes, and then the others
pub bytes_parts : (s : List ℕ) (k : ℕ) → take (k * 8) (unpack s) ++ unpack (take (length s - k) (drop k s)) ≡ unpack s
bytes_parts s k = rw (from_place s k, unpack_drop k s) (take-append-drop (k * 8) (unpack s))

-- ---- bits carried to the next block

-- o bits a are carried; n bits b come after them: of the o + n bits the first n are one part, and the last o the other
pub carry : (o n a : ℕ) {b : ℕ} → b < 2 ^ n → bits_of n ((a * 2 ^ n + b) / 2 ^ o) ++ bits_of o ((a * 2 ^ n + b) % 2 ^ o) ≡ bits_of o a ++ bits_of n b
carry o n a {b} h =
    let x = a * 2 ^ n + b in
    rw (bits_mod o x, ← bits_append n o x, add_comm n o, bits_join o n a h)

-- the same in words of w bits, by shifts
pub carry_word : (o w a : ℕ) {b : ℕ} → o ≤ w → b < 2 ^ w → bits_of w (a * 2 ^ (w - o) % 2 ^ w + b / 2 ^ o) ++ bits_of o b ≡ bits_of o a ++ bits_of w b
carry_word o w a {b} h lt =
    let e : o + (w - o) ≡ w = omega arith in
    let f : (w - o) + o ≡ w = omega arith in
    let front = rw e at (shift_join o (w - o) a (shr_lt {n = b} (w - o) o (rw f lt))) in
    let back = rw f at (bits_append (w - o) o b) in
    rw (front, append_assoc (bits_of o a) (bits_of (w - o) (b / 2 ^ o)) (bits_of o b), ← back)

pub carry_lt : (o w a : ℕ) {b : ℕ} → o ≤ w → b < 2 ^ w → a * 2 ^ (w - o) % 2 ^ w + b / 2 ^ o < 2 ^ w
carry_lt o w a {b} h lt =
    let e : o + (w - o) ≡ w = omega arith in
    let f : (w - o) + o ≡ w = omega arith in
    rw e at (shift_lt o (w - o) a (shr_lt {n = b} (w - o) o (rw f lt)))

pub carried_lt : (a : ℕ) {o : ℕ} → o < 8 → a < 2 ^ o → a < 128
carried_lt a {o} h k = lt_of_lt_of_le k (pow_mono {i = o} {j = 7} (omega arith))

-- with the carried bits t is written at q; more come after it
pub block_on : (d l : List Bool) (q p o n a y z : ℕ) (t more : List Bool) → p + o ≡ q + length t → sets l p (bits_of o a) ≡ sets d q t
    → bits_of n y ++ bits_of o z ≡ bits_of o a ++ more → sets (sets l p (bits_of n y)) (p + n) (bits_of o z) ≡ sets d q (t ++ more)
block_on d l q p o n a y z t more e f g =
    let stored = sets_append l p (bits_of n y) (bits_of o z) in
    let carried = sets_append l p (bits_of o a) more in
    sym (rw (length_bits n y) at stored) ∙ ap (sets l p) g ∙ rw (length_bits o a, f, e) at carried ∙ sym (sets_append d q t more)

-- ---- the bits in front

-- the first o bits of byte i are there already
pub first_there : (s : List ℕ) (i o : ℕ) → o ≤ 8 → i < length s → sets (unpack s) (i * 8) (bits_of o (get_or s i 0 / 2 ^ (8 - o))) ≡ unpack s
first_there s i o h k =
    let x = get_or s i 0 in
    let front = bits_of o (x / 2 ^ (8 - o)) in
    let e : o + (8 - o) ≡ 8 = omega arith in
    let m : i * 8 % 8 ≡ 0 = omega arith in
    let d : i * 8 / 8 ≡ i = omega arith in
    let whole : bits_of 8 x ≡ front ++ bits_of (8 - o) x = rw e at (bits_append o (8 - o) x) in
    let same : bits_of 8 x ≡ sets (bits_of 8 x) 0 front = rw whole (sym (sets_over [] front (bits_of (8 - o) x) front 0 refl refl)) in
    let there : unpack (set s i x) ≡ sets (unpack s) (i * 8) front =
    rw d at (put_unpack s (i * 8) x front (omega (arith, length_bits o (x / 2 ^ (8 - o)))) (omega arith) (rw (d, m) same)) in
    sym there ∙ ap unpack (set-get_or s i 0)
