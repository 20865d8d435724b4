-- What the calls by name answer, from the parts that the code computes, and what holds where they answer a place.
-- Assumes nothing.
use mathlib.Core.Path.{◌≡◌, sym, ap, ap₂, ◌∙◌}
use mathlib.Core.List.{List}
use Rattle.std.proofs.Common.{Option}
use Prim.Native.Nat.{ℕ, ◌≤◌, ◌<◌, max}
use native.Mathlib.Omega.{arith}
use lib.ListN.{length}
use lib.Dec.{leb}
use borrow.Author.Tests.{leb-true}
use Rattle.laws.proofs.Cases.{and_right}
use Rattle.refusals.specs.Outcome.{Outcome, answer}
use Rattle.receiver.specs.Join.{refusal_of}
use Rattle.receiver.specs.declared.Reassembler.{Reassembler}
use Rattle.receiver.proofs.JoinLaws.{refused_none}
use Rattle.kept.specs.Keep.{place_under, place_for, size_refusal, lent_refusal, placed, kept_at, keep_of, returned_at, return_of, dropped_at, drop_of}
use Rattle.kept.specs.declared.Kept.{Kept}
use Rattle.kept.proofs.Checks.{size_right, lent_right, Placed, placed_is, under_small, for_small}

-- what is needed to write: a slot, 5,000 bytes and 40,000 bytes
pub record Fits (k : Kept) (size sizes : ℕ) (i : ℕ) : Type 0 where
  pub slot : i < length k.slots
  pub store : size ≡ 5000
  pub lent : sizes ≡ 40000

-- ---- keep

module _ (k : Kept) (r : Reassembler) (store lent name : List ℕ) {code : ℕ} {place : Option ℕ} {o : Outcome ℕ}
    (checked : code ≡ max (refusal_of r.state (length store)) (lent_refusal k (length lent)))
    (found : place ≡ place_for name k.slots) (said : o ≡ placed code (length name) 21 place) where
  pub keep_is : kept_at o k r store lent name ≡ keep_of k r store lent name
  unfolding keep_of
  keep_is =
      ap (λ (x : Outcome ℕ). kept_at x k r store lent name)
      (said ∙ ap₂ (λ (n : ℕ) (p : Option ℕ). placed n (length name) 21 p) checked found)

  keep_placed : (i : ℕ) → o ≡ answer i → Placed code (length name) 21 place i
  keep_placed i e = placed_is code (length name) 21 place i (sym said ∙ e)

  pub keep_fits : (i : ℕ) → o ≡ answer i → Fits k (length store) (length lent) i
  keep_fits i e =
      let p = keep_placed i e in
      let z = p.fine in
      record {
        slot = for_small name k.slots i (sym found ∙ p.found);
        store = (refused_none r.state (length store) (omega (arith, checked, z))).store;
        lent = lent_right k (length lent) (omega (arith, checked, z));
      }

  pub keep_name : (i : ℕ) → o ≡ answer i → length name ≤ 8
  keep_name i e = leb-true (length name) 8 (and_right (leb 1 (length name)) _ (keep_placed i e).name)

-- ---- return

module _ (k : Kept) (store lent name : List ℕ) {code : ℕ} {place : Option ℕ} {o : Outcome ℕ}
    (checked : code ≡ max (size_refusal (length store) 5000) (lent_refusal k (length lent)))
    (found : place ≡ place_under name k.slots) (said : o ≡ placed code (length name) 20 place) where
  pub return_is : returned_at o k store lent ≡ return_of k store lent name
  unfolding return_of
  return_is =
      ap (λ (x : Outcome ℕ). returned_at x k store lent)
      (said ∙ ap₂ (λ (n : ℕ) (p : Option ℕ). placed n (length name) 20 p) checked found)

  pub return_fits : (i : ℕ) → o ≡ answer i → Fits k (length store) (length lent) i
  return_fits i e =
      let p = placed_is code (length name) 20 place i (sym said ∙ e) in
      let z = p.fine in
      record {
        slot = under_small name k.slots i (sym found ∙ p.found);
        store = size_right (length store) 5000 (omega (arith, checked, z));
        lent = lent_right k (length lent) (omega (arith, checked, z));
      }

-- ---- drop

module _ (k : Kept) (lent name : List ℕ) {code : ℕ} {place : Option ℕ} {o : Outcome ℕ}
    (checked : code ≡ lent_refusal k (length lent)) (found : place ≡ place_under name k.slots) (said : o ≡ placed code (length name) 20 place) where
  pub drop_is : dropped_at o k ≡ drop_of k lent name
  unfolding drop_of
  drop_is =
      ap (λ (x : Outcome ℕ). dropped_at x k)
      (said ∙ ap₂ (λ (n : ℕ) (p : Option ℕ). placed n (length name) 20 p) checked found)

  pub drop_slot : (i : ℕ) → o ≡ answer i → i < length k.slots
  drop_slot i e = under_small name k.slots i (sym found ∙ (placed_is code (length name) 20 place i (sym said ∙ e)).found)
