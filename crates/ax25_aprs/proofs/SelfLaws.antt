-- Codes of 32 or more stand for themselves; eight of them are tested at once.
-- Assumes nothing.
use mathlib.Core.Path.{◌≡◌, refl, sym, ap, ◌∙◌}
use mathlib.Core.Bool.{Bool, true}
use mathlib.Core.List.{List, ◌∷◌, ◌++◌}
use Prim.Native.Nat.{ℕ, zero, suc, ◌+◌, ◌-◌, ◌*◌, ◌/◌, ◌%◌, ◌^◌, ◌≤◌}
use native.Mathlib.Nat.{mul-mod_left}
use native.Mathlib.Omega.{arith}
use lib.Bits.{bit_and, bit_or, and_shr, and_mod, and_le_l, or_shr, or_mod, or_add_and}
use lib.Dec.{eqb}
use lib.ListN.{length, take, drop, length-drop}
use lib.Pow.{shr-shr}
use lib.Seq.{drop-drop}
use borrow.Author.Tests.{eqb-true}
use Rattle.laws.specs.Bits.{bits_of, value_of}
use Rattle.laws.specs.Wrote.{Wrote}
use Rattle.laws.proofs.Cases.{by_le}
use Rattle.laws.proofs.TextLaws.{below, at_each}
use Rattle.laws.proofs.WroteLaws.{wrote_then}
use Rattle.bits.specs.Read.{numbers}
use Rattle.bits.proofs.WordLaws.{front_part, seven_in}
use Rattle.ax25_aprs.specs.Selves.{Selves}
use Rattle.ax25_aprs.specs.Text.{read_text}
use Rattle.ax25_aprs.proofs.TextLaws.{code_self, span_other, read_step}

-- ---- eight at once

-- a bit of a mask that is left whole is set
masked : (x m j : ℕ) → bit_and x m ≡ m → m / 2 ^ j % 2 ≡ 1 → 1 ≤ x / 2 ^ j % 2
masked x m j e h =
    let t : bit_and (x / 2 ^ j % 2 ^ 1) (m / 2 ^ j % 2 ^ 1) ≡ m / 2 ^ j % 2 ^ 1 = sym (and_mod (x / 2 ^ j) (m / 2 ^ j) 1) ∙ ap (λ (y : ℕ). y % 2 ^ 1) (sym (and_shr x m j) ∙ ap (λ (y : ℕ). y / 2 ^ j) e) in
    omega (arith, and_le_l (x / 2 ^ j % 2 ^ 1) (m / 2 ^ j % 2 ^ 1), t, h)

-- a bit that is set in one number or another is set in one of them
either_bit : (a b j : ℕ) → 1 ≤ bit_or a b / 2 ^ j % 2 → 1 ≤ a / 2 ^ j % 2 + b / 2 ^ j % 2
either_bit a b j h =
    let t : bit_or a b / 2 ^ j % 2 ^ 1 ≡ bit_or (a / 2 ^ j % 2 ^ 1) (b / 2 ^ j % 2 ^ 1) = ap (λ (y : ℕ). y % 2 ^ 1) (or_shr a b j) ∙ or_mod (a / 2 ^ j) (b / 2 ^ j) 1 in
    omega (arith, or_add_and (a / 2 ^ j % 2 ^ 1) (b / 2 ^ j % 2 ^ 1), t, h)

-- a mask has the second bit of code k from the end
abbrev has_second : ℕ → ℕ → Bool
has_second m k = eqb (m / 2 ^ (k * 7 + 5) % 2) 1

even : (y z : ℕ) → y ≡ z * 2 → y % 2 ≡ 0
even y z e = ap (λ (n : ℕ). n % 2) e ∙ mul-mod_left z 2

-- a code with one of its first two bits
high_code : (x : ℕ) → 1 ≤ x / 32 % 2 + x / 64 % 2 → 32 ≤ x % 128
high_code x h =
    by_le 32 (x % 128)
    (λ l. l)
    (λ l.
    let q = x / 128 in
    let a : x / 32 ≡ q * 2 * 2 = omega arith in
    let b : x / 64 ≡ q * 2 = omega arith in
    absurd (omega (arith, even (x / 32) (q * 2) a, even (x / 64) q b)))

-- a word that, with its bits moved to the place of those after them, has all bits of such a mask
pub eight_selves : (v m : ℕ) → below (has_second m) 8 ≡ true → bit_and (bit_or v (v / 2 ^ 1)) m ≡ m → Selves 8 (bits_of 56 v)
eight_selves v m all e k h =
    let j = 7 - k in
    let x = v / 2 ^ (j * 7) in
    let set : m / 2 ^ (j * 7 + 5) % 2 ≡ 1 = eqb-true (m / 2 ^ (j * 7 + 5) % 2) 1 (at_each (has_second m) 8 all j (omega arith)) in
    let bit = either_bit v (v / 2 ^ 1) (j * 7 + 5) (masked (bit_or v (v / 2 ^ 1)) m (j * 7 + 5) e set) in
    let front : v / 2 ^ 1 / 2 ^ (j * 7 + 5) ≡ x / 2 ^ 6 = shr-shr v 1 (j * 7 + 5) ∙ ap (λ (n : ℕ). v / 2 ^ n) (omega arith) ∙ sym (shr-shr v (j * 7) 6) in
    rw (seven_in k j v (omega arith)) (high_code x (omega (arith, bit, front, shr-shr v (j * 7) 5)))

-- ---- more of them

-- only as many bits count
pub selves_front : (n : ℕ) (b : List Bool) → Selves n (take (n * 7) b) → Selves n b
selves_front n b h k l = rw (← front_part (k * 7) 7 (n * 7) b (omega arith)) (h k l)

-- some, and more after them
pub selves_add : (m n : ℕ) (b : List Bool) → Selves m b → Selves n (drop (m * 7) b) → Selves (m + n) b
selves_add m n b f g k h =
    by_le m k
    (λ l.
    let e : m * 7 + (k - m) * 7 ≡ k * 7 = omega arith in
    rw (drop-drop ((k - m) * 7) (m * 7) b, e) at (g (k - m) (omega arith)))
    (λ l. f k l)

-- ---- read at once

-- the text starts with the codes themselves
read_selves : (p : Bool) (n : ℕ) (b : List Bool) → n * 7 ≤ length b → Selves n b → read_text p b ≡ numbers 7 n b ++ read_text p (drop (n * 7) b)
unfolding numbers
read_selves p zero b l h = refl
read_selves p (suc n) b l h =
    let c = value_of (take 7 b) in
    let first : 32 ≤ c = h 0 (omega arith) in
    let e : suc n * 7 ≡ 7 + n * 7 = omega arith in
    let more : Selves n (drop 7 b) = λ k q. let f : 7 + k * 7 ≡ suc k * 7 = omega arith in rw (drop-drop (k * 7) 7 b, f) (h (suc k) (omega arith)) in
    read_step p b (omega arith)
    ∙ rw (code_self p c (drop 7 b) first, span_other p c (λ z. omega arith), e, ← drop-drop (n * 7) 7 b)
    (ap (λ (t : List ℕ). c ∷ t) (read_selves p n (drop 7 b) (omega (arith, length-drop 7 b)) more))

-- where they are written and then the text after them, the text is written
pub wrote_selves : (p : Bool) (n i : ℕ) (u : List Bool) {out out₂ e : List ℕ} {to r : ℕ} → n * 7 ≤ length (drop i u) → Selves n (drop i u)
    → Wrote out to (numbers 7 n (drop i u)) out₂ (to + n) → Wrote out₂ (to + n) (read_text p (drop (i + n * 7) u)) e r
    → Wrote out to (read_text p (drop i u)) e r
wrote_selves p n i u l h w v = rw (read_selves p n (drop i u) l h, drop-drop (n * 7) i u) (wrote_then w v)
