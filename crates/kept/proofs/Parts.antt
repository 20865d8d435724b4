-- The 5,000 bytes of a slot among the lent bytes, where those of one slot are written.
-- Assumes nothing.
use mathlib.Core.Path.{◌≡◌, refl, sym, ap, ◌∙◌}
use mathlib.Core.List.{List, [], ◌∷◌, ◌++◌, append-nil}
use Prim.Native.Nat.{ℕ, suc, ◌+◌, ◌-◌, ◌*◌, ◌≤◌, ◌<◌}
use native.Mathlib.Omega.{arith}
use lib.ListN.{length, take, drop, set, drop_of_length-le}
use lib.Seq.{sets, sets-eq, take_at, drop-set-lt, drop-set-add, take-set-le}
use Rattle.laws.proofs.Cases.{by_le}
use Rattle.laws.proofs.ListLaws.{drop_stored}
use Rattle.kept.specs.Keep.{start_of, part_of}

module _ {A : Type 0} where
  -- stores before a place
  drop_sets : (n i : ℕ) (l vs : List A) → i + length vs ≤ n → drop n (sets l i vs) ≡ drop n l
  drop_sets n i l [] h = refl
  drop_sets n i l (v ∷ vs) h = drop_sets n (suc i) (set l i v) vs (omega arith) ∙ drop-set-lt n l i v (omega arith)

  part_set : (n m i : ℕ) (l : List A) (v : A) → n + m ≤ i → take m (drop n (set l i v)) ≡ take m (drop n l)
  part_set n m i l v h =
      let e : i ≡ n + (i - n) = omega arith in
      ap (λ (j : ℕ). take m (drop n (set l j v))) e
      ∙ ap (take m) (drop-set-add n l (i - n) v)
      ∙ take-set-le m (drop n l) (i - n) v (omega arith)

  -- stores past a part
  part_sets : (n m i : ℕ) (l vs : List A) → n + m ≤ i → take m (drop n (sets l i vs)) ≡ take m (drop n l)
  part_sets n m i l [] h = refl
  part_sets n m i l (v ∷ vs) h = part_sets n m (suc i) (set l i v) vs (omega arith) ∙ part_set n m i l v h

module _ (lent store : List ℕ) (i : ℕ) (whole : length store ≡ 5000) where
  -- the slot that is written has the store
  pub part_same : length lent ≡ 40000 → i < 8 → part_of (sets lent (start_of i) store) i ≡ store
  part_same size h =
      ap (take 5000) (drop_stored lent (i * 5000) store (omega arith)) ∙ take_at store (drop (i * 5000 + length store) lent) 5000 whole

  -- and every other what it had
  pub part_other : (j : ℕ) → (j ≡ i → ⊥) → part_of (sets lent (start_of i) store) j ≡ part_of lent j
  part_other j n =
      by_le (suc j) i
      (λ h. part_sets (j * 5000) 5000 (i * 5000) lent store (omega arith))
      (λ h. let g : i < j = omega (arith, n) in ap (take 5000) (drop_sets (j * 5000) (i * 5000) lent store (omega arith)))

-- a copy to the front of a list
pub front_copied : (l vs ys : List ℕ) → ys ≡ vs → length vs ≤ length l → ys ++ drop (length vs) l ≡ sets l 0 vs
front_copied l vs ys e h =
    let z : 0 + length vs ≡ length vs = omega arith in
    rw e (sym (sets-eq vs l 0 (omega arith) ∙ ap (λ (k : ℕ). vs ++ drop k l) z))

-- a store over all of a list
pub sets_whole : (l vs : List ℕ) → length vs ≡ length l → sets l 0 vs ≡ vs
sets_whole l vs e =
    sets-eq vs l 0 (omega arith)
    ∙ ap (λ (r : List ℕ). vs ++ r) (drop_of_length-le l {i = 0 + length vs} (omega arith))
    ∙ append-nil vs

-- what is stored so is what was given
pub stored_whole : {r ws : List ℕ} (l vs : List ℕ) → r ≡ sets l 0 vs → vs ≡ ws → length ws ≡ length l → r ≡ ws
stored_whole l vs e q size = e ∙ ap (sets l 0) q ∙ sets_whole l _ size
