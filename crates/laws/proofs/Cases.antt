-- A test goes one way or the other.
-- Assumes nothing.
use mathlib.Core.Path.{◌≡◌, refl, sym, ◌∙◌}
use mathlib.Core.Bool.{Bool, true, false, ◌&&◌, ◌||◌, not}
use Rattle.std.proofs.Common.{Option, None, Some}
use Rattle.std.proofs.lemmas.Option.{none-some}
use Prim.Native.Nat.{ℕ, ◌≤◌, ◌<◌}
use lib.Dec.{leb, eqb}
use borrow.Author.Tests.{leb-true, leb-false, eqb-true, eqb-false, not-true}
use Rattle.laws.specs.Pick.{pick, ◌>>=◌}

module _ {ℓ} {X : Type ℓ} where
  pub pick_true : {t : Bool} (x y : X) → t ≡ true → pick t x y ≡ x
  unfolding pick
  pick_true x y e = rw e

  pub pick_false : {t : Bool} (x y : X) → t ≡ false → pick t x y ≡ y
  unfolding pick
  pick_false x y e = rw e

module _ {ℓ} {P : Type ℓ} where
  pub by_test : (t : Bool) → (t ≡ true → P) → (t ≡ false → P) → P
  by_test true f g = f refl
  by_test false f g = g refl

  pub by_le : (a b : ℕ) → (a ≤ b → P) → (b < a → P) → P
  by_le a b f g = by_test (leb a b) (λ e. f (leb-true a b e)) (λ e. g (leb-false a b e))

  pub by_eq : (a b : ℕ) → (a ≡ b → P) → ((a ≡ b → ⊥) → P) → P
  by_eq a b f g = by_test (eqb a b) (λ e. f (eqb-true a b e)) (λ e. g (eqb-false a b e))

  pub by_option : {A : Type 0} (o : Option A) → (o ≡ None → P) → ((a : A) → o ≡ Some a → P) → P
  by_option None f g = f refl
  by_option (Some a) f g = g a refl

-- ---- tests taken apart

pub and_left : (a b : Bool) → (a && b) ≡ true → a ≡ true
and_left true b e = refl
and_left false b e = e

pub and_right : (a b : Bool) → (a && b) ≡ true → b ≡ true
and_right true b e = e
and_right false b e = cc

pub or_left : (a b : Bool) → (a || b) ≡ false → a ≡ false
or_left true b e = e
or_left false b e = refl

pub or_right : (a b : Bool) → (a || b) ≡ false → b ≡ false
or_right true b e = cc
or_right false b e = e

pub or_back : (a b : Bool) → (a || b) ≡ true → b ≡ false → a ≡ true
or_back true b e f = refl
or_back false b e f = sym f ∙ e

-- a `do` that gives a value had one to go on with
pub from_some : {A B : Type 0} {P : Type 0} (o : Option A) (f : A → Option B) (b : B) → (o >>= f) ≡ Some b → ((a : A) → o ≡ Some a → f a ≡ Some b → P) → P
from_some None f b e k = absurd (none-some b e)
from_some (Some a) f b e k = k a refl e

-- ---- two tests that go the same way

unfoldable pub alike : Bool → Bool → Bool
alike true b = b
alike false b = not b

pub alike_eq : (a b : Bool) → alike a b ≡ true → a ≡ b
unfolding alike
alike_eq true b e = sym e
alike_eq false b e = sym (not-true b e)
