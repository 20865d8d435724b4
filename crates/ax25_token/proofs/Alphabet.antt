-- The table of letter codes: its rule and the inverse of the alphabet, by one computed test over all bytes and one over all codes.
-- Assumes nothing.
use mathlib.Core.Path.{◌≡◌, refl, ap, ◌∙◌}
use mathlib.Core.Bool.{Bool, true, false, ◌&&◌, false≢true}
use mathlib.Core.List.{List}
use Rattle.std.proofs.Common.{Option, None, Some}
use Prim.Native.Nat.{ℕ, ◌≤◌, ◌<◌}
use native.Mathlib.Omega.{arith}
use lib.ListN.{length, get_or}
use lib.Dec.{eqb, ltb}
use borrow.Author.Tests.{eqb-true, lt-ltb, le-ltb}
use Rattle.laws.specs.Pick.{pick}
use Rattle.laws.specs.Text.{later, position}
use Rattle.laws.proofs.Cases.{pick_true, pick_false, and_left, and_right}
use Rattle.laws.proofs.TextLaws.{below, at_each}
use Rattle.ax25_token.specs.Tables.{call_alphabet, alpha_of, letter_codes, entry_code}

-- ---- the same code, or none both times

unfoldable pub same_code : Option ℕ → Option ℕ → Bool
same_code None None = true
same_code None (Some w) = false
same_code (Some v) None = false
same_code (Some v) (Some w) = eqb v w

same_code_lem : (o p : Option ℕ) → same_code o p ≡ true → o ≡ p
unfolding same_code
same_code_lem None None e = refl
same_code_lem None (Some w) e = absurd (false≢true e)
same_code_lem (Some v) None e = absurd (false≢true e)
same_code_lem (Some v) (Some w) e = ap Some (eqb-true v w e)

-- ---- what an entry stands for

pub entry_code_lem : (e : ℕ) → e < 37 → entry_code e ≡ Some e
unfolding entry_code
entry_code_lem e h = pick_true (Some e) None (lt-ltb e _ (omega arith))

pub entry_no_code : (e : ℕ) → 37 ≤ e → entry_code e ≡ None
unfolding entry_code
entry_no_code e h = pick_false (Some e) None (le-ltb e _ (omega arith))

-- ---- the whole table

abbrev entry : ℕ → ℕ
entry b = get_or letter_codes b 0

-- the entry of a byte stands for what the lookup promises
right : ℕ → Bool
right b = same_code (entry_code (entry b)) (alpha_of b)

-- it is the code of that very letter, or 255
exact : ℕ → Bool
exact b = pick (ltb (entry b) 37) (eqb (get_or call_alphabet (entry b) 0) b) (eqb (entry b) 255)

-- the letter of a code has that code
back : ℕ → Bool
back v = eqb (entry (get_or call_alphabet v 0)) v

tested : ℕ → Bool
tested b = right b && exact b

all_tested : (below tested 256 ≡ true) × (below back 37 ≡ true)
unfolding below tested right exact back same_code entry_code alpha_of call_alphabet letter_codes position later pick
all_tested = (refl, refl)

pub entry_count : length letter_codes ≡ 256
unfolding letter_codes
entry_count = refl

-- "each entry is exactly what the lookup promises for that byte"
pub entry_right : (b : ℕ) → b < 256 → entry_code (get_or letter_codes b 0) ≡ alpha_of b
unfolding tested right
entry_right b h = same_code_lem (entry_code (entry b)) (alpha_of b) (and_left (right b) (exact b) (at_each tested 256 all_tested.0 b h))

module _ (b : ℕ) (h : b < 256) where
  is_exact : exact b ≡ true
  unfolding tested
  is_exact = and_right (right b) (exact b) (at_each tested 256 all_tested.0 b h)

  pub entry_letter : get_or letter_codes b 0 < 37 → get_or call_alphabet (get_or letter_codes b 0) 0 ≡ b
  unfolding exact pick
  entry_letter l = eqb-true (get_or call_alphabet (entry b) 0) b (rw (lt-ltb (entry b) 37 l) at is_exact)

  pub entry_none : 37 ≤ get_or letter_codes b 0 → get_or letter_codes b 0 ≡ 255
  unfolding exact pick
  entry_none l = eqb-true (entry b) 255 (rw (le-ltb (entry b) 37 l) at is_exact)

-- the inverse rule
pub entry_back : (v : ℕ) → v < 37 → get_or letter_codes (get_or call_alphabet v 0) 0 ≡ v
unfolding back
entry_back v h = eqb-true (entry (get_or call_alphabet v 0)) v (at_each back 37 all_tested.1 v h)

-- what is read in a list that is the table
pub entry_in : (codes : List ℕ) (x : ℕ) → codes ≡ letter_codes → x < 256 → entry_code (get_or codes x 0) ≡ alpha_of x
entry_in codes x e h = ap (λ (l : List ℕ). entry_code (get_or l x 0)) e ∙ entry_right x h
