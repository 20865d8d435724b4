-- Text of seven bits a byte: its steps, and its pad.
-- Assumes nothing.
use mathlib.Core.Path.{◌≡◌, refl, sym, ap, ◌∙◌}
use mathlib.Core.Bool.{Bool, not}
use mathlib.Core.List.{List, [], ◌∷◌, ◌++◌, append_assoc, append-nil}
use Prim.Native.Nat.{ℕ, suc, ◌+◌, ◌-◌, ◌*◌, ◌%◌, ◌<◌}
use native.Mathlib.Omega.{arith}
use lib.ListN.{length, get_or, take, drop, take-append-drop, replicate, length-append, length-replicate}
use lib.Seq.{take-suc, take_all}
use Rattle.laws.specs.Bits.{odd, bits_of}
use Rattle.laws.specs.Wrote.{Wrote}
use Rattle.laws.proofs.BitLaws.{length_bits}
use Rattle.laws.proofs.WroteLaws.{wrote_then, wrote_as}
use Rattle.bits_write.specs.Text7.{bits_each, sevens, last_or, text7_bits}

-- ---- some bits of each byte

pub length_each : (n : ℕ) (cs : List ℕ) → length (bits_each n cs) ≡ length cs * n
unfolding bits_each
length_each n [] = omega arith
length_each n (c ∷ cs) = rw (length-append, length_bits, length_each n cs) (omega arith)

each_append : (n : ℕ) (a b : List ℕ) → bits_each n (a ++ b) ≡ bits_each n a ++ bits_each n b
unfolding bits_each
each_append n [] b = refl
each_append n (c ∷ a) b = rw (each_append n a b, append_assoc)

each_one : (n c : ℕ) → bits_each n (c ∷ []) ≡ bits_of n c
unfolding bits_each
each_one n c = append-nil (bits_of n c)

-- one more byte
pub each_take_suc : (n : ℕ) (s : List ℕ) (i : ℕ) → i < length s → bits_each n (take (suc i) s) ≡ bits_each n (take i s) ++ bits_of n (get_or s i 0)
each_take_suc n s i h =
    ap (bits_each n) (take-suc s i 0 h)
    ∙ each_append n (take i s) (get_or s i 0 ∷ [])
    ∙ ap (λ (l : List Bool). bits_each n (take i s) ++ l) (each_one n (get_or s i 0))

-- the first i bytes, and then the others
pub each_rest : (n : ℕ) (s : List ℕ) (i : ℕ) → bits_each n (take i s) ++ bits_each n (drop i s) ≡ bits_each n s
each_rest n s i = sym (each_append n (take i s) (drop i s)) ∙ ap (bits_each n) (take-append-drop i s)

-- ---- sevens

pub length_sevens : (cs : List ℕ) → length (sevens cs) ≡ length cs * 7
unfolding sevens bits_each
length_sevens cs = length_each 7 cs

-- one more byte of a text
pub sevens_take_suc : (s : List ℕ) (i : ℕ) → i < length s → sevens (take (suc i) s) ≡ sevens (take i s) ++ bits_of 7 (get_or s i 0)
unfolding sevens bits_each
sevens_take_suc s i h = each_take_suc 7 s i h

-- ---- the last bit

pub last_append : (d : Bool) (b s : List Bool) → last_or d (b ++ s) ≡ last_or (last_or d b) s
unfolding last_or
last_append d [] s = refl
last_append d (x ∷ b) s = last_append x b s

last_bits : (d : Bool) (v : ℕ) → last_or d (bits_of 7 v) ≡ odd v
unfolding bits_of last_or
last_bits d v = ap odd (omega arith)

-- the last bit of a text is its last byte's
pub last_sevens : (d : Bool) (cs : List ℕ) → 0 < length cs → last_or d (sevens cs) ≡ odd (get_or cs (length cs - 1) 0)
last_sevens d cs h =
    let i = length cs - 1 in
    let all : take (suc i) cs ≡ cs = take_all (suc i) cs (omega arith) in
    let e : sevens cs ≡ sevens (take i cs) ++ bits_of 7 (get_or cs i 0) = rw all at (sevens_take_suc cs i (omega arith)) in
    rw (e, last_append d (sevens (take i cs)) (bits_of 7 (get_or cs i 0)), last_bits)

pub last_none : (d : Bool) (cs : List ℕ) → length cs ≡ 0 → last_or d (sevens cs) ≡ d
unfolding last_or sevens
last_none d [] h = refl
last_none d (c ∷ cs) h = absurd (omega arith)

-- ---- writing: the sevens, and then the pad

pub length_text7 : (at : ℕ) (last : Bool) (cs : List ℕ) → length (text7_bits at last cs) ≡ length cs * 7 + (8 - (at + length cs * 7) % 8)
unfolding text7_bits
length_text7 at last cs = rw (length-append, length_sevens, length-replicate)

text7_parts : (at pos : ℕ) (last : Bool) (cs : List ℕ) → pos ≡ at + length cs * 7
    → sevens cs ++ replicate (8 - pos % 8) (not (last_or last (sevens cs))) ≡ text7_bits at last cs
unfolding text7_bits
text7_parts at pos last cs e = rw e

pub text7_wrote : (last : Bool) (cs : List ℕ) {b c d : List Bool} {at pos next : ℕ} → pos ≡ at + length cs * 7
    → Wrote b at (sevens cs) c pos → Wrote c pos (replicate (8 - pos % 8) (not (last_or last (sevens cs)))) d next
    → Wrote b at (text7_bits at last cs) d next
text7_wrote last cs {at = at} {pos = pos} e f g = wrote_as (text7_parts at pos last cs e) (wrote_then f g)

-- whole bytes before do not matter
pub text7_whole : (at : ℕ) (last : Bool) (cs : List ℕ) → text7_bits (8 + at) last cs ≡ text7_bits at last cs
unfolding text7_bits
text7_whole at last cs =
    let e : (8 + at + length cs * 7) % 8 ≡ (at + length cs * 7) % 8 = omega arith in
    rw e
