-- How many bytes a text of so many bits is read as: eight for seven bits at most, and two more where an altitude ends it.
-- Assumes nothing.
use mathlib.Core.Path.{◌≡◌, refl}
use mathlib.Core.Bool.{Bool, true, false}
use mathlib.Core.List.{List, [], ◌∷◌}
use Rattle.std.proofs.Common.{Some}
use Rattle.std.proofs.lemmas.Option.{none-some, same_Some}
use Prim.Native.Nat.{ℕ, zero, suc, ◌+◌, ◌-◌, ◌*◌, ◌/◌, ◌≤◌}
use native.Mathlib.Omega.{arith}
use lib.ListN.{length, take, drop, length-append}
use borrow.Author.Tests.{le-leb, lt-leb}
use Rattle.laws.specs.Bits.{value_of}
use Rattle.laws.specs.Pick.{pick}
use Rattle.laws.proofs.Cases.{by_le}
use Rattle.bits_write.specs.Text7.{last_or}
use Rattle.bits.specs.Read.{numbers}
use Rattle.bits.specs.Text7.{end_of, text7_of}
use Rattle.bits.proofs.Text7Laws.{end_le}
use Rattle.bits.proofs.WordLaws.{length_numbers}
use Rattle.ax25_aprs.specs.Text.{code_text, code_span, read_from, read_text}
use Rattle.ax25_aprs.proofs.TextLaws.{span_le, code_length}

-- ---- a code

-- what an altitude at the end has over eight bytes for its code
unfoldable pub extra : Bool → ℕ
extra p = pick p 2 0

span_extra : (p : Bool) (c : ℕ) → code_span p c ≤ 7 * extra p
unfolding extra code_span pick
span_extra false c = omega arith
span_extra true c = omega (arith, span_le true c)

-- ---- a text

-- nothing is left after the last bit
from_none : (p : Bool) (k : ℕ) (b : List Bool) → length b ≤ k → length (read_from p k b) ≡ 0
unfolding read_from
from_none p k [] h = refl
from_none p zero (x ∷ b) h = absurd (omega arith)
from_none p (suc k) (x ∷ b) h = from_none p k b (omega arith)

-- a code of c bytes and s bits more before a text of t bytes
step_room : (n c s t f : ℕ) → 6 ≤ n → 7 * c ≤ 56 + s → s ≤ 7 * f → (n ≤ 6 + s → t ≡ 0) → t ≤ 8 * ((n - (6 + s)) / 7) + f → c + t ≤ 8 * ((n + 1) / 7) + f
step_room n c s t f h hc hs none ht = by_le n (6 + s) (λ k. omega (arith, none k)) (λ k. omega arith)

from_room : (p : Bool) (k : ℕ) (b : List Bool) → length (read_from p k b) ≤ 8 * ((length b - k) / 7) + extra p
unfolding read_from pick
from_room p k [] = omega arith
from_room p zero (x ∷ b) =
    let c = value_of (x ∷ take 6 b) in
    let s = code_span p c in
    by_le 6 (length b)
    (λ h.
    rw (le-leb 6 (length b) h, length-append (code_text p c (drop 6 b)) (read_from p (6 + s) b))
    (omega (arith, step_room (length b) (length (code_text p c (drop 6 b))) s (length (read_from p (6 + s) b)) (extra p) h (code_length p c (drop 6 b)) (span_extra p c) (from_none p (6 + s) b) (from_room p (6 + s) b))))
    (λ h. rw (lt-leb 6 (length b) h) (omega arith))
from_room p (suc k) (x ∷ b) = omega (arith, from_room p k b)

pub text_room : (p : Bool) (b : List Bool) → length (read_text p b) ≤ 8 * (length b / 7) + extra p
unfolding read_text
text_room p b = omega (arith, from_room p 0 b)

-- ---- text of seven bits a byte

pub text7_room : (b : List Bool) (at : ℕ) (t : List ℕ) → text7_of b at ≡ Some t → length t ≤ (length b - at) / 7
unfolding text7_of
text7_room [] at t e = absurd (none-some t e)
text7_room (x ∷ b) at t e =
    let k = (end_of (last_or x b) (x ∷ b) - at) / 7 in
    rw (← same_Some (numbers 7 k (drop at (x ∷ b))) t e)
    (omega (arith, length_numbers 7 k (drop at (x ∷ b)), end_le (last_or x b) (x ∷ b)))
