-- Text of seven bits a byte: what is read without the trailing run, and that what was written comes back.
-- Assumes nothing.
use mathlib.Core.Path.{◌≡◌, refl, ap}
use mathlib.Core.Bool.{Bool, true, false, not}
use mathlib.Core.List.{List, [], ◌∷◌, ◌++◌, append_assoc}
use Rattle.std.proofs.Common.{Some, None}
use Prim.Native.Nat.{ℕ, zero, suc, ◌+◌, ◌-◌, ◌*◌, ◌/◌, ◌%◌, ◌≤◌, ◌<◌, suc-le-suc}
use native.Mathlib.Nat.{mod-eq_of_lt, le_trans, not-suc-le-zero}
use native.Mathlib.Omega.{arith}
use lib.ListN.{length, get_or, take, drop, replicate, length-append}
use lib.Seq.{length-take-le, take_at, drop_at, drop-append_seam, take-suc}
use Rattle.laws.specs.Bits.{num, bits_of}
use Rattle.laws.proofs.BitLaws.{length_bits, value_bits}
use Rattle.bits_write.specs.Text7.{Sevens, sevens, last_or, text7_bits}
use Rattle.bits_write.proofs.Text7Laws.{length_sevens, last_append}
use Rattle.bits.specs.Read.{numbers}
use Rattle.bits.specs.Text7.{differ, counted, end_of, text7_of}

-- ---- the last bit

last_run : (p : Bool) (k : ℕ) → last_or p (replicate k p) ≡ p
unfolding last_or
last_run p zero = refl
last_run p (suc k) = last_run p k

last_pad : (d p : Bool) (b : List Bool) (k : ℕ) → last_or d (b ++ replicate (suc k) p) ≡ p
unfolding last_or
last_pad d p [] k = last_run p k
last_pad d p (x ∷ b) k = last_pad x p b k

last_is : (x : Bool) (b : List Bool) → last_or x b ≡ get_or (x ∷ b) (length b) false
unfolding last_or
last_is x [] = refl
last_is x (y ∷ b) = last_is y b

-- ---- the trailing run

differ_self : (p : Bool) → differ p p ≡ false
unfolding differ
differ_self true = refl
differ_self false = refl

differ_ne : (x p : Bool) → (x ≡ p → ⊥) → differ x p ≡ true
unfolding differ
differ_ne true true h = absurd (h refl)
differ_ne true false h = refl
differ_ne false true h = refl
differ_ne false false h = absurd (h refl)

differ_not : (p : Bool) → differ p (not p) ≡ true
unfolding differ
differ_not true = refl
differ_not false = refl

end_run : (p : Bool) (k : ℕ) → end_of p (replicate k p) ≡ 0
unfolding end_of counted num
end_run p zero = refl
end_run p (suc k) = rw (end_run p k, differ_self p)

-- a run of the pad is not counted
end_pad : (p : Bool) (b : List Bool) (k : ℕ) → end_of p (b ++ replicate k p) ≡ end_of p b
unfolding end_of
end_pad p [] k = end_run p k
end_pad p (x ∷ b) k = rw (end_pad p b k)

end_snoc : (p x : Bool) (b : List Bool) → differ x p ≡ true → end_of p (b ++ x ∷ []) ≡ suc (length b)
unfolding end_of counted num
end_snoc p x [] e = rw e
end_snoc p x (y ∷ b) e = rw (end_snoc p x b e)

-- where the last bit differs from the pad, all count
end_all : (x : Bool) (b : List Bool) → end_of (not (last_or x b)) (x ∷ b) ≡ suc (length b)
unfolding end_of last_or counted num
end_all x [] = rw differ_not
end_all x (y ∷ b) = rw (end_all y b)

end_last : (d : Bool) (b : List Bool) → end_of (not (last_or d b)) b ≡ length b
unfolding end_of last_or
end_last d [] = refl
end_last d (x ∷ b) = end_all x b

counted_le : (d : Bool) (e : ℕ) → counted d e ≤ suc e
unfolding counted num
counted_le true zero = omega arith
counted_le false zero = omega arith
counted_le d (suc e) = omega arith

pub end_le : (p : Bool) (b : List Bool) → end_of p b ≤ length b
unfolding end_of
end_le p [] = omega arith
end_le p (x ∷ b) = le_trans (counted_le (differ x p) (end_of p b)) (suc-le-suc (end_le p b))

-- from the back: a bit that is the pad is not counted, and one that is not ends the run
pub end_same : (p : Bool) (b : List Bool) (k : ℕ) → k < length b → get_or b k false ≡ p → end_of p (take (suc k) b) ≡ end_of p (take k b)
end_same p b k h e = rw (take-suc b k false h, e) (end_pad p (take k b) 1)

pub end_other : (p : Bool) (b : List Bool) (k : ℕ) → k < length b → (get_or b k false ≡ p → ⊥) → end_of p (take (suc k) b) ≡ suc k
end_other p b k h e =
    rw (take-suc b k false h, end_snoc p (get_or b k false) (take k b) (differ_ne (get_or b k false) p e))
    (ap suc (length-take-le k b (omega arith)))

-- ---- reading

pub text7_none : (b : List Bool) (at : ℕ) → length b ≡ 0 → text7_of b at ≡ None
unfolding text7_of
text7_none [] at h = refl
text7_none (x ∷ b) at h = absurd (omega arith)

pub text7_some : (b : List Bool) (at : ℕ) → 0 < length b
    → text7_of b at ≡ Some (numbers 7 ((end_of (get_or b (length b - 1) false) b - at) / 7) (drop at b))
unfolding text7_of
text7_some [] at h = absurd (not-suc-le-zero h)
text7_some (x ∷ b) at h =
    let e : suc (length b) - 1 ≡ length b = omega arith in
    rw (e, last_is x b)

-- ---- what was written comes back

numbers_sevens : (cs : List ℕ) (b : List Bool) → Sevens cs → numbers 7 (length cs) (sevens cs ++ b) ≡ cs
unfolding sevens numbers
numbers_sevens [] b h = refl
numbers_sevens (c ∷ cs) b h =
    rw (append_assoc (bits_of 7 c) (sevens cs) b, take_at (bits_of 7 c) (sevens cs ++ b) 7 (length_bits 7 c), drop_at (bits_of 7 c) (sevens cs ++ b) 7 (length_bits 7 c), value_bits, mod-eq_of_lt (h zero (omega arith)), numbers_sevens cs b (λ i k. h (suc i) (suc-le-suc k)))

text7_run : (p : Bool) (b : List Bool) (k at : ℕ)
    → text7_of (b ++ replicate (suc k) p) at ≡ Some (numbers 7 ((end_of p b - at) / 7) (drop at (b ++ replicate (suc k) p)))
unfolding text7_of
text7_run p [] k at = rw (last_run p k, end_pad p [] (suc k))
text7_run p (x ∷ b) k at = rw (last_pad x p b k, end_pad p (x ∷ b) (suc k))

-- a text written after any bits is read from its place
pub text7_back : (b : List Bool) (cs : List ℕ) → Sevens cs → text7_of (b ++ text7_bits (length b) (last_or false b) cs) (length b) ≡ Some cs
unfolding text7_bits
text7_back b cs h =
    let w = b ++ sevens cs in
    let p = not (last_or (last_or false b) (sevens cs)) in
    let k = 7 - (length b + length cs * 7) % 8 in
    let pads : 8 - (length b + length cs * 7) % 8 ≡ suc k = omega arith in
    let all : end_of p w ≡ length w = rw (last_append false b (sevens cs)) at (end_last false w) in
    let many : (length w - length b) / 7 ≡ length cs = omega (arith, length-append b (sevens cs), length_sevens cs) in
    rw (pads, ← append_assoc b (sevens cs) (replicate (suc k) p), text7_run p w k (length b), all, many, append_assoc b (sevens cs) (replicate (suc k) p), drop-append_seam, numbers_sevens cs (replicate (suc k) p) h)
