-- The first hyphen of a text: what stands before it and after it.
-- Assumes nothing.
use mathlib.Core.Path.{◌≡◌, refl}
use mathlib.Core.Bool.{false}
use mathlib.Core.List.{List, [], ◌∷◌, ◌++◌}
use Prim.Native.Nat.{ℕ, zero, suc, ◌≤◌, ◌<◌, suc-le-suc}
use native.Mathlib.Nat.{not-suc-le-zero, le_of_suc-le-suc}
use native.Mathlib.Omega.{arith}
use lib.ListN.{length, take, get_or}
use lib.Dec.{eqb}
use borrow.Author.Tests.{eq-eqb, ne_eqb}
use Rattle.laws.specs.Pick.{pick}
use Rattle.laws.proofs.Cases.{by_test, or_left, or_right}
use Rattle.ax25_token.specs.Token.{hyphened, base_of, suffix}

pub base_short : (c : List ℕ) → length (base_of c) ≤ length c
unfolding base_of pick
base_short [] = omega arith
base_short (x ∷ c) = by_test (eqb x 45) (λ e. rw e (omega arith)) (λ e. rw e (omega (arith, base_short c)))

pub suffix_base : (s : ℕ) → base_of (suffix s) ≡ []
unfolding suffix base_of pick
suffix_base s = by_test (eqb s 0) (λ e. rw e) (λ e. rw e)

-- the number after a text adds nothing
pub base_suffix : (t : List ℕ) (s : ℕ) → length (base_of (t ++ suffix s)) ≤ length t
unfolding base_of pick
base_suffix [] s = rw (suffix_base s) (omega arith)
base_suffix (x ∷ t) s = by_test (eqb x 45) (λ e. rw e (omega arith)) (λ e. rw e (omega (arith, base_suffix t s)))

-- ---- no hyphen

pub hyphened_no : (c : List ℕ) → ((i : ℕ) → i < length c → get_or c i 0 ≡ 45 → ⊥) → hyphened c ≡ false
unfolding hyphened
hyphened_no [] f = refl
hyphened_no (x ∷ c) f = rw (ne_eqb x 45 (f 0 (omega arith)), hyphened_no c (λ i h. f (suc i) (suc-le-suc h)))

pub base_plain : (c : List ℕ) → hyphened c ≡ false → base_of c ≡ c
unfolding base_of hyphened pick
base_plain [] e = refl
base_plain (x ∷ c) e = rw (or_left (eqb x 45) (hyphened c) e, base_plain c (or_right (eqb x 45) (hyphened c) e))

-- ---- the first hyphen at k

pub base_at : (c : List ℕ) (k : ℕ) → k < length c → get_or c k 0 ≡ 45 → ((i : ℕ) → i < k → get_or c i 0 ≡ 45 → ⊥) → base_of c ≡ take k c
unfolding base_of pick
base_at [] k h e f = absurd (not-suc-le-zero h)
base_at (x ∷ c) zero h e f = rw (eq-eqb x 45 e)
base_at (x ∷ c) (suc k) h e f =
    rw (ne_eqb x 45 (f 0 (omega arith)), base_at c k (le_of_suc-le-suc h) e (λ i l. f (suc i) (suc-le-suc l)))
