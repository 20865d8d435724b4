-- The first place of what passes a test.
-- Assumes nothing.
use mathlib.Core.Path.{◌≡◌, refl, sym, ap, ◌∙◌}
use mathlib.Core.Bool.{Bool, true, false, ◌||◌, not, cond}
use mathlib.Core.List.{List, [], ◌∷◌}
use Rattle.std.proofs.Common.{None, Some}
use Rattle.std.proofs.lemmas.Option.{none-some, same_Some}
use Prim.Native.Nat.{ℕ, zero, suc, ◌+◌, ◌<◌}
use native.Mathlib.Nat.{not-suc-le-zero, le_of_suc-le-suc}
use native.Mathlib.Omega.{arith}
use borrow.Author.Tests.{lt-ltb, le-ltb}
use lib.Dec.{ltb}
use lib.ListN.{length, get_or, drop}
use lib.Seq.{drop-cons}
use Rattle.std.specs.List.{list_any, position_or_len}
use Rattle.laws.specs.Pick.{pick}
use Rattle.laws.proofs.Cases.{by_test, by_le, pick_true, pick_false}
use Rattle.kept.specs.Keep.{first_from}
use Rattle.kept.specs.Told.{is_place}

-- a place within a list needs no default
pub get_d_any : {A : Type 0} (l : List A) (i : ℕ) (d e : A) → i < length l → get_or l i d ≡ get_or l i e
get_d_any [] i d e h = absurd (not-suc-le-zero h)
get_d_any (x ∷ l) zero d e h = refl
get_d_any (x ∷ l) (suc i) d e h = get_d_any l i d e (le_of_suc-le-suc h)

module _ {A : Type 0} (p : A → Bool) where
  -- what is found is in the list, and passes
  pub record Hit (l : List A) (d : A) (k : ℕ) : Type 0 where
    pub small : k < length l
    pub hit : p (get_or l k d) ≡ true

  hit_from : {P : Type 0} (l : List A) (d : A) (i k : ℕ) → first_from p i l ≡ Some k → ((j : ℕ) → k ≡ i + j → Hit l d j → P) → P
  unfolding first_from
  hit_from [] d i k e f = absurd (none-some k e)
  hit_from (x ∷ l) d i k e f =
      by_test (p x)
      (λ t. let q : i ≡ k = same_Some i k (sym (pick_true (Some i) (first_from p (suc i) l) t) ∙ e) in
      f 0 (omega arith) (record { small = omega arith; hit = t }))
      (λ t. hit_from l d (suc i) k (sym (pick_false (Some i) (first_from p (suc i) l) t) ∙ e)
      (λ j q h. f (suc j) (omega arith) (record { small = omega (arith, h.small); hit = h.hit })))

  pub first_hit : (l : List A) (d : A) (k : ℕ) → first_from p 0 l ≡ Some k → Hit l d k
  first_hit l d k e = hit_from l d 0 k e (λ j q h. let z : k ≡ j = omega arith in rw z h)

-- ---- a loop that looks at one after another

pub first_here : {A : Type 0} (p : A → Bool) (l : List A) (i : ℕ) (d : A) → i < length l → p (get_or l i d) ≡ true → first_from p i (drop i l) ≡ Some i
unfolding first_from
first_here p l i d h e = ap (first_from p i) (drop-cons l i d h) ∙ pick_true (Some i) (first_from p (suc i) (drop (suc i) l)) e

-- ---- what the library's searches find

-- one element more in front
step : (b : Bool) (i m n : ℕ)
    → pick b (Some i) (cond (ltb m n) (Some (suc i + m)) None) ≡ cond (ltb (cond (not b) (1 + m) 0) (suc n)) (Some (i + cond (not b) (1 + m) 0)) None
unfolding pick
step true i m n =
    let z : ltb 0 (suc n) ≡ true = lt-ltb 0 (suc n) (omega arith) in
    let e : i + 0 ≡ i = omega arith in
    rw (z, e)
step false i m n =
    let e : i + (1 + m) ≡ suc i + m = omega arith in
    by_le n m
    (λ h. rw (e, le-ltb m n h, le-ltb (1 + m) (suc n) (omega arith)))
    (λ h. rw (e, lt-ltb m n h, lt-ltb (1 + m) (suc n) (omega arith)))

-- the first place, by how many elements stand before it
first_after : {A : Type 0} (p : A → Bool) (i : ℕ) (l : List A)
    → first_from p i l ≡ cond (ltb (position_or_len p l) (length l)) (Some (i + position_or_len p l)) None
unfolding first_from
first_after p i [] = refl
first_after p i (x ∷ l) = ap (pick (p x) (Some i)) (first_after p (suc i) l) ∙ step (p x) i (position_or_len p l) (length l)

-- `position` gives the first place
pub first_position : {A : Type 0} (p : A → Bool) (l : List A) → first_from p 0 l ≡ cond (ltb (position_or_len p l) (length l)) (Some (position_or_len p l)) None
first_position p l = let e : 0 + position_or_len p l ≡ position_or_len p l = omega arith in rw e at (first_after p 0 l)

-- `any` finds whether there is one
pub any_place : {A : Type 0} (p : A → Bool) (i : ℕ) (l : List A) → list_any p l ≡ is_place (first_from p i l)
unfolding first_from
any_place p i [] = refl
any_place p i (x ∷ l) =
    by_test (p x)
    (λ t. ap (λ (b : Bool). b || list_any p l) t ∙ ap is_place (sym (pick_true (Some i) (first_from p (suc i) l) t)))
    (λ t. ap (λ (b : Bool). b || list_any p l) t ∙ any_place p (suc i) l ∙ ap is_place (sym (pick_false (Some i) (first_from p (suc i) l) t)))
