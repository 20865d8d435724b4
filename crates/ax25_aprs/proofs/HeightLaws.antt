-- Digits, and the number of an altitude by cases.
-- Assumes nothing.
use mathlib.Core.Path.{◌≡◌, refl}
use mathlib.Core.Bool.{true, false}
use mathlib.Core.List.{List, [], ◌∷◌}
use Rattle.std.proofs.Common.{None, Some}
use Prim.Native.Nat.{ℕ, ◌-◌, ◌<◌}
use native.Mathlib.Omega.{arith}
use lib.ListN.{length, get_or, take, drop}
use borrow.Author.Tests.{eq-eqb, ne_eqb}
use Rattle.laws.specs.Pick.{pick}
use Rattle.std.specs.List.{list_all}
use Rattle.std.specs.Char.{is_ascii_digit}
use Rattle.laws.specs.Text.{between, is_digit}
use Rattle.laws.proofs.ListLaws.{from_place}
use Rattle.bits.specs.Val.{val_of}
use Rattle.ax25_aprs.specs.Text.{all_digits, unsigned, no_plus}

-- ---- digits

digit_is : (x : ℕ) → is_ascii_digit x ≡ is_digit x
unfolding is_digit between
digit_is x = refl

pub digits_are : (s : List ℕ) → list_all is_ascii_digit s ≡ all_digits s
unfolding all_digits
digits_are [] = refl
digits_are (c ∷ s) = rw (digit_is c, digits_are s)

-- ---- the number, by cases

pub unsigned_none : (s : List ℕ) → length s ≡ 0 → unsigned s ≡ None
unfolding unsigned
unsigned_none [] h = refl
unsigned_none (c ∷ s) h = absurd (omega arith)

pub unsigned_no : (s : List ℕ) → all_digits s ≡ false → unsigned s ≡ None
unfolding unsigned pick
unsigned_no [] e = refl
unsigned_no (c ∷ s) e = rw e

pub unsigned_yes : (s : List ℕ) → 0 < length s → all_digits s ≡ true → unsigned s ≡ Some (val_of s)
unfolding unsigned pick
unsigned_yes [] h e = absurd (omega arith)
unsigned_yes (c ∷ s) h e = rw e

pub plus_yes : (s : List ℕ) → get_or s 0 0 ≡ 43 → no_plus s ≡ take (length s - 1) (drop 1 s)
unfolding no_plus pick
plus_yes [] e = refl
plus_yes (c ∷ s) e = rw (eq-eqb c 43 e, from_place (c ∷ s) 1)

pub plus_no : (s : List ℕ) → (get_or s 0 0 ≡ 43 → ⊥) → no_plus s ≡ s
unfolding no_plus pick
plus_no [] n = refl
plus_no (c ∷ s) n = rw (ne_eqb c 43 n)
