-- The checks of the calls by name, case by case.
-- Assumes nothing.
use mathlib.Core.Path.{◌≡◌, refl, sym, ap, ◌∙◌}
use mathlib.Core.Bool.{Bool, true, false, ◌&&◌}
use mathlib.Core.List.{List, [], ◌∷◌}
use Rattle.std.proofs.Common.{Option, None, Some, Result}
use Prim.Native.Nat.{ℕ, ◌+◌, ◌≤◌, ◌<◌, max}
use native.Mathlib.Omega.{arith}
use native.Mathlib.Numerals.{add-one}
use lib.ListN.{length, get_or, drop, drop_of_length-le}
use lib.Seq.{drop-cons}
use lib.Dec.{ltb, eqb}
use lib.Pointwise.{pointwise}
use borrow.Author.Tests.{lt-ltb, ne_eqb}
use Rattle.laws.specs.Text.{same}
use Rattle.laws.proofs.Cases.{by_test, by_eq, by_option, pick_true, pick_false}
use Rattle.refusals.specs.Outcome.{refused, answer, number, outcome_of}
use Rattle.refusals.specs.declared.Refusal.{Refusal}
use Rattle.std.specs.Option.{ok_or}
use Rattle.refusals.proofs.OutcomeLaws.{answer_not, same_answer_lem}
use Rattle.kept.specs.Keep.{name_ok, is_under, place_under, or_else, place_for, free_slot, size_refusal, refusal_in, kept_refusal, lent_refusal, place_or, placed}
use Rattle.kept.specs.declared.Kept.{Kept}
use Rattle.kept.specs.declared.Slot.{Slot}
use Rattle.kept.proofs.Places.{first_hit}

-- ---- names

-- only no name is no name
pub same_none : (s : List ℕ) → same s [] ≡ eqb (length s) 0
unfolding same
same_none [] = refl
same_none (x ∷ s) = sym (ne_eqb (length (x ∷ s)) 0 (λ e. omega arith))

-- the library's test of slices is the same
pub same_bytes : (s t : List ℕ) → pointwise eqb s t ≡ same s t
unfolding same
same_bytes [] [] = refl
same_bytes [] (y ∷ t) = refl
same_bytes (x ∷ s) [] = refl
same_bytes (x ∷ s) (y ∷ t) = ap (λ (b : Bool). eqb x y && b) (same_bytes s t)

-- ---- the kept states, one after another

pub refusal_on : (n : ℕ) (ss : List Slot) (i : ℕ) (d : Slot) → i < length ss
    → max n (kept_refusal (drop i ss)) ≡ max (max n (refusal_in (get_or ss i d))) (kept_refusal (drop (i + 1) ss))
unfolding kept_refusal
refusal_on n ss i d h =
    let a = refusal_in (get_or ss i d) in
    let e : drop i ss ≡ get_or ss i d ∷ drop (i + 1) ss = drop-cons ss i d h ∙ ap (λ (j : ℕ). get_or ss i d ∷ drop j ss) (sym (add-one i)) in
    ap (λ (l : List Slot). max n (kept_refusal l)) e ∙ omega arith

pub refusal_end : (n : ℕ) (ss : List Slot) (i : ℕ) → length ss ≤ i → max n (kept_refusal (drop i ss)) ≡ n
unfolding kept_refusal
refusal_end n ss i h = ap (λ (l : List Slot). max n (kept_refusal l)) (drop_of_length-le ss h) ∙ omega arith

-- ---- sizes

-- where nothing is refused, there are as many bytes as there are to be
pub size_right : (len size : ℕ) → size_refusal len size ≡ 0 → len ≡ size
size_right len size e =
    by_eq len size (λ q. q)
    (λ q. let z : ◌≡◌ {A = ℕ} 17 0 = sym (pick_false 0 17 (ne_eqb len size q)) ∙ e in absurd (omega arith))

pub lent_right : (k : Kept) (lent : ℕ) → lent_refusal k lent ≡ 0 → lent ≡ 40000
unfolding lent_refusal
lent_right k lent e = size_right lent 40000 (omega arith)

-- ---- the place of a name

module _ (code len n : ℕ) (place : Option ℕ) where
  pub placed_bad : (code ≡ 0 → ⊥) → placed code len n place ≡ refused code
  unfolding placed
  placed_bad e = pick_true _ _ (lt-ltb 0 code (omega (arith, e)))

  pub placed_name : code ≡ 0 → name_ok len ≡ false → placed code len n place ≡ refused 20
  unfolding placed
  placed_name e t = pick_false _ _ (ap (ltb 0) e) ∙ pick_false _ _ t

  pub placed_at : code ≡ 0 → name_ok len ≡ true → placed code len n place ≡ place_or n place
  unfolding placed
  placed_at e t = pick_false _ _ (ap (ltb 0) e) ∙ pick_true _ _ t

  -- what holds where a place is answered
  pub record Placed (i : ℕ) : Type 0 where
    pub fine : code ≡ 0
    pub name : name_ok len ≡ true
    pub found : place ≡ Some i

  pub placed_is : (i : ℕ) → placed code len n place ≡ answer i → Placed i
  placed_is i e =
      by_eq code 0
      (λ z. by_test (name_ok len)
      (λ t. by_option place
      (λ o. absurd (answer_not (sym e ∙ placed_at z t ∙ ap (place_or n) o)))
      (λ j o. record { fine = z; name = t; found = o ∙ ap Some (sym (same_answer_lem (sym e ∙ placed_at z t ∙ ap (place_or n) o))) }))
      (λ t. absurd (answer_not (sym e ∙ placed_name z t))))
      (λ z. absurd (answer_not (sym e ∙ placed_bad z)))

-- a place, or the refusal in its stead
pub or_place : (place : Option ℕ) (n : Refusal) {r : Result ℕ Refusal} → r ≡ ok_or place n → outcome_of r ≡ place_or (number n) place
or_place None n e = ap outcome_of e
or_place (Some i) n e = ap outcome_of e

-- a place is one of the slots
pub under_small : (name : List ℕ) (ss : List Slot) (i : ℕ) → place_under name ss ≡ Some i → i < length ss
under_small name ss i e = (first_hit (is_under name) ss free_slot i e).small

of_two : (m n : List ℕ) (ss : List Slot) (i : ℕ) → or_else (place_under m ss) (place_under n ss) ≡ Some i → i < length ss
of_two m n ss i e = by_first (place_under m ss) refl e
  where
    by_first : (o : Option ℕ) → place_under m ss ≡ o → or_else o (place_under n ss) ≡ Some i → i < length ss
    by_first None q f = under_small n ss i f
    by_first (Some j) q f = under_small m ss i (q ∙ f)

pub for_small : (name : List ℕ) (ss : List Slot) (i : ℕ) → place_for name ss ≡ Some i → i < length ss
for_small name ss i e = of_two _ _ ss i e
