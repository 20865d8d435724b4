-- Texts: equality, membership and beginnings as tests, capitals; and tests over all numbers below a bound or all texts of a table.
-- Assumes nothing.
use mathlib.Core.Path.{◌≡◌, refl, sym, ap, ap₂, ◌∙◌}
use mathlib.Core.Bool.{Bool, true, false, ◌&&◌, false≢true}
use mathlib.Core.List.{List, [], ◌∷◌, ◌++◌}
use Prim.Native.Nat.{ℕ, zero, suc, ◌-◌, ◌≤◌, ◌<◌, suc-le-suc}
use native.Mathlib.Nat.{not-suc-le-zero, le_of_suc-le-suc}
use native.Mathlib.Omega.{arith}
use lib.ListN.{length, get_or, drop, length-append, get_or-append}
use lib.Dec.{eqb}
use borrow.Author.Tests.{eqb-true, eq-eqb, le-leb, lt-leb}
use Rattle.laws.specs.Pick.{pick}
use Rattle.laws.specs.Text.{between, upper, same, is_one_of, starts}
use Rattle.laws.proofs.Cases.{by_test, by_eq, and_left, and_right}

-- ---- a test over all numbers below a bound

unfoldable pub below : (ℕ → Bool) → ℕ → Bool
below f zero = true
below f (suc n) = f n && below f n

-- passes at each of them
pub at_each : (f : ℕ → Bool) (n : ℕ) → below f n ≡ true → (k : ℕ) → k < n → f k ≡ true
unfolding below
at_each f zero e k h = absurd (not-suc-le-zero h)
at_each f (suc n) e k h =
    by_eq k n
    (λ q. rw q (and_left (f n) (below f n) e))
    (λ q. at_each f n (and_right (f n) (below f n) e) k (omega (arith, q)))

-- ---- equal texts

pub same_eq : (s t : List ℕ) → same s t ≡ true → s ≡ t
unfolding same
same_eq [] [] e = refl
same_eq [] (y ∷ t) e = absurd (false≢true e)
same_eq (x ∷ s) [] e = absurd (false≢true e)
same_eq (x ∷ s) (y ∷ t) e =
    ap₂ (λ (u : ℕ) (us : List ℕ). u ∷ us) (eqb-true x y (and_left (eqb x y) (same s t) e)) (same_eq s t (and_right (eqb x y) (same s t) e))

pub same_refl : (s : List ℕ) → same s s ≡ true
unfolding same
same_refl [] = refl
same_refl (x ∷ s) = rw (eq-eqb x x refl, same_refl s)

pub eq_same : (s t : List ℕ) → s ≡ t → same s t ≡ true
eq_same s t e = rw e (same_refl t)

pub ne_same : (s t : List ℕ) → (s ≡ t → ⊥) → same s t ≡ false
ne_same s t n = by_test (same s t) (λ e. absurd (n (same_eq s t e))) (λ e. e)

-- ---- beginnings

pub starts_eq : (w s : List ℕ) → starts w s ≡ true → s ≡ w ++ drop (length w) s
unfolding starts
starts_eq [] s e = refl
starts_eq (c ∷ w) [] e = absurd (false≢true e)
starts_eq (c ∷ w) (d ∷ s) e =
    ap₂ (λ (u : ℕ) (us : List ℕ). u ∷ us) (sym (eqb-true c d (and_left (eqb c d) (starts w s) e))) (starts_eq w s (and_right (eqb c d) (starts w s) e))

pub starts_append : (w t : List ℕ) → starts w (w ++ t) ≡ true
unfolding starts
starts_append [] t = refl
starts_append (c ∷ w) t = rw (eq-eqb c c refl, starts_append w t)

-- byte by byte
pub starts_yes : (w s : List ℕ) → length w ≤ length s → ((i : ℕ) → i < length w → get_or w i 0 ≡ get_or s i 0) → starts w s ≡ true
unfolding starts
starts_yes [] s h f = refl
starts_yes (c ∷ w) [] h f = absurd (not-suc-le-zero h)
starts_yes (c ∷ w) (d ∷ s) h f =
    rw (eq-eqb c d (f 0 (omega arith)), starts_yes w s (le_of_suc-le-suc h) (λ i k. f (suc i) (suc-le-suc k)))

pub starts_not : (w s : List ℕ) (i : ℕ) → i < length w → (get_or w i 0 ≡ get_or s i 0 → ⊥) → starts w s ≡ false
starts_not w s i h n =
    by_test (starts w s)
    (λ e. absurd (n (sym (ap (λ (t : List ℕ). get_or t i 0) (starts_eq w s e) ∙ get_or-append w (drop (length w) s) 0 i h))))
    (λ e. e)

pub starts_short : (w s : List ℕ) → length s < length w → starts w s ≡ false
starts_short w s h =
    by_test (starts w s)
    (λ e. absurd (omega (arith, ap length (starts_eq w s e), length-append w (drop (length w) s))))
    (λ e. e)

-- ---- tables

-- a test over all texts of a table
unfoldable pub each : (List ℕ → Bool) → List (List ℕ) → Bool
each f [] = true
each f (n ∷ ns) = f n && each f ns

-- passes at whatever is one of them
pub one_of_each : (f : List ℕ → Bool) (c : List ℕ) (ns : List (List ℕ)) → each f ns ≡ true → is_one_of c ns ≡ true → f c ≡ true
unfolding is_one_of each
one_of_each f c [] h e = absurd (false≢true e)
one_of_each f c (n ∷ ns) h e =
    by_test (same c n)
    (λ q. rw (same_eq c n q) (and_left (f n) (each f ns) h))
    (λ q. one_of_each f c ns (and_right (f n) (each f ns) h) (rw q at e))

-- ---- capitals

module _ (x : ℕ) where
  pub upper_low : x < 97 → upper x ≡ x
  unfolding upper between pick
  upper_low h = rw (lt-leb 97 x h)

  pub upper_high : 122 < x → upper x ≡ x
  unfolding upper between pick
  upper_high h = rw (le-leb 97 x (omega arith), lt-leb x 122 h)

  pub upper_small : 97 ≤ x → x ≤ 122 → upper x ≡ x - 32
  unfolding upper between pick
  upper_small h k = rw (le-leb 97 x h, le-leb x 122 k)
