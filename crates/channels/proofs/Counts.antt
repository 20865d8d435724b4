-- How many elements of a list pass a test, and the first that does, where one element is replaced.
-- Assumes nothing.
use mathlib.Core.Path.{◌≡◌, refl, sym, ap, ◌∙◌}
use mathlib.Core.Bool.{Bool, true, false, not}
use mathlib.Core.List.{List, [], ◌∷◌}
use Rattle.std.proofs.Common.{None, Some}
use Rattle.std.proofs.lemmas.Option.{none-some}
use Prim.Native.Nat.{ℕ, zero, suc, ◌+◌, ◌≤◌, ◌<◌}
use native.Mathlib.Nat.{not-suc-le-zero, le_of_suc-le-suc, add-zero, add-suc, suc-add}
use native.Mathlib.Omega.{arith}
use lib.ListN.{length, get_or, set}
use Rattle.laws.specs.Bits.{num}
use Rattle.laws.proofs.Cases.{by_test, pick_true, pick_false}
use Rattle.kept.specs.Keep.{first_from}

module _ {A : Type 0} (p : A → Bool) where
  -- how many pass
  unfoldable pub count : List A → ℕ
  count [] = 0
  count (x ∷ l) = num (p x) + count l

  pub count_set : (l : List A) (i : ℕ) (v d : A) → i < length l → count (set l i v) + num (p (get_or l i d)) ≡ count l + num (p v)
  unfolding count num
  count_set [] i v d h = absurd (not-suc-le-zero h)
  count_set (x ∷ l) zero v d h = omega arith
  count_set (x ∷ l) (suc i) v d h = omega (arith, count_set l i v d (le_of_suc-le-suc h))

  pub count_hit : (l : List A) (i : ℕ) (d : A) → i < length l → p (get_or l i d) ≡ true → 1 ≤ count l
  unfolding count num
  count_hit [] i d h e = absurd (not-suc-le-zero h)
  count_hit (x ∷ l) zero d h e = rw e (omega arith)
  count_hit (x ∷ l) (suc i) d h e = omega (arith, count_hit l i d (le_of_suc-le-suc h) e)

  -- ---- the first place

  pub none_count : (l : List A) (i : ℕ) → first_from p i l ≡ None → count l ≡ 0
  unfolding count first_from num
  none_count [] i e = refl
  none_count (x ∷ l) i e =
      by_test (p x)
      (λ t. absurd (none-some i (sym (sym (pick_true (Some i) (first_from p (suc i) l) t) ∙ e))))
      (λ t. omega (arith, ap num t, none_count l (suc i) (sym (pick_false (Some i) (first_from p (suc i) l) t) ∙ e)))

  pub count_none : (l : List A) (i : ℕ) → count l ≡ 0 → first_from p i l ≡ None
  unfolding count first_from num
  count_none [] i e = refl
  count_none (x ∷ l) i e =
      by_test (p x)
      (λ t. absurd (omega (arith, ap num t)))
      (λ t. pick_false (Some i) (first_from p (suc i) l) t ∙ count_none l (suc i) (omega arith))

  -- where at most one passes, it is the first
  pub first_once : (l : List A) (d : A) (i j : ℕ) → j < length l → p (get_or l j d) ≡ true → count l ≤ 1 → first_from p i l ≡ Some (i + j)
  unfolding count first_from num
  first_once [] d i j h e c = absurd (not-suc-le-zero h)
  first_once (x ∷ l) d i zero h e c = pick_true (Some i) (first_from p (suc i) l) e ∙ ap Some (sym (add-zero i))
  first_once (x ∷ l) d i (suc j) h e c =
      by_test (p x)
      (λ t. absurd (omega (arith, ap num t, count_hit l j d (le_of_suc-le-suc h) e)))
      (λ t. pick_false (Some i) (first_from p (suc i) l) t
      ∙ first_once l d (suc i) j (le_of_suc-le-suc h) e (omega arith)
      ∙ ap Some (suc-add i j ∙ sym (add-suc i j)))

  -- an element that does not pass for another that does not
  pub first_set : (l : List A) (i j : ℕ) (v d : A) → p (get_or l j d) ≡ false → p v ≡ false → first_from p i (set l j v) ≡ first_from p i l
  unfolding first_from
  first_set [] i j v d e f = refl
  first_set (x ∷ l) i zero v d e f = rw (e, f)
  first_set (x ∷ l) i (suc j) v d e f = rw (first_set l (suc i) j v d e f)

num_not : (b : Bool) → num (not b) + num b ≡ 1
unfolding num
num_not true = refl
num_not false = refl

-- those that pass and those that do not
pub count_not : {A : Type 0} (p : A → Bool) (l : List A) → count p l + count (λ (x : A). not (p x)) l ≡ length l
unfolding count
count_not p [] = refl
count_not p (x ∷ l) = omega (arith, count_not p l, num_not (p x))
