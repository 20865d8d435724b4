-- Parts of a text, from a place on.
-- Assumes nothing.
use mathlib.Core.Path.{◌≡◌, refl, ap, sym, ◌∙◌}
use mathlib.Core.List.{List, [], ◌∷◌, ◌++◌}
use Prim.Native.Nat.{ℕ, zero, suc, ◌+◌, ◌-◌, ◌≤◌, ◌<◌}
use native.Mathlib.Nat.{not-suc-le-zero, le_of_suc-le-suc}
use native.Mathlib.Numerals.{add-one}
use native.Mathlib.Omega.{arith}
use lib.ListN.{length, get_or, take, drop, length-drop, drop_of_length-le}
use lib.Seq.{drop-cons, drop-drop, take-suc, take_all}
use lib.Dec.{eqb}
use borrow.Author.Tests.{eq-eqb, ne_eqb}
use Rattle.laws.specs.Bits.{num}
use Rattle.laws.specs.Pick.{pick}
use Rattle.laws.proofs.Cases.{by_test, pick_true, pick_false}
use Rattle.texts.specs.Part.{before, behind, piece_of, without_cr}

module _ (b : ℕ) (s : List ℕ) (i : ℕ) where
  pub before_end : length s ≤ i → before b (drop i s) ≡ []
  unfolding before
  before_end h = rw (drop_of_length-le s h)

  pub before_here : i < length s → get_or s i 0 ≡ b → before b (drop i s) ≡ []
  unfolding before pick
  before_here h e = rw (drop-cons s i 0 h, eq-eqb (get_or s i 0) b e)

  pub before_on : i < length s → (get_or s i 0 ≡ b → ⊥) → before b (drop i s) ≡ get_or s i 0 ∷ before b (drop (i + 1) s)
  unfolding before pick
  before_on h e = rw (drop-cons s i 0 h, ne_eqb (get_or s i 0) b e, add-one i)

-- what stands before b, and after it, by the length of the first
before_take : (b : ℕ) (s : List ℕ) → take (length (before b s)) s ≡ before b s
unfolding before pick
before_take b [] = refl
before_take b (x ∷ s) =
    by_test (eqb x b)
    (λ t. rw t)
    (λ t. rw (t, before_take b s))

behind_drop : (b : ℕ) (s : List ℕ) → length (before b s) < length s → drop (length (before b s) + 1) s ≡ behind b s
unfolding before behind pick
behind_drop b [] h = absurd (not-suc-le-zero h)
behind_drop b (x ∷ s) h =
    by_test (eqb x b)
    (λ t. rw t)
    (λ t. rw (t, add-one) (rw add-one at (behind_drop b s (le_of_suc-le-suc (rw t at h)))))

behind_none : (b : ℕ) (s : List ℕ) → length s ≤ length (before b s) → behind b s ≡ []
unfolding before behind pick
behind_none b [] h = refl
behind_none b (x ∷ s) h =
    by_test (eqb x b)
    (λ t. absurd (not-suc-le-zero (rw t at h)))
    (λ t. rw (t, behind_none b s (le_of_suc-le-suc (rw t at h))))

-- ---- from a place on

module _ (b : ℕ) (s : List ℕ) (from e : ℕ) (here : e ≡ from + length (before b (drop from s))) where
  pub next_here : e < length s → drop (e + 1) s ≡ behind b (drop from s)
  next_here h =
      let n : length (before b (drop from s)) < length (drop from s) = omega (arith, length-drop from s) in
      let k : e + 1 ≡ from + (length (before b (drop from s)) + 1) = omega arith in
      rw k (sym (drop-drop (length (before b (drop from s)) + 1) from s) ∙ behind_drop b (drop from s) n)

  pub next_end : length s ≤ e → drop e s ≡ behind b (drop from s)
  next_end h =
      let n : length (drop from s) ≤ length (before b (drop from s)) = omega (arith, length-drop from s) in
      drop_of_length-le s h ∙ sym (behind_none b (drop from s) n)

  -- the last piece
  pub piece_here : (k i : ℕ) → k ≤ i → take (e - from) (drop from s) ≡ piece_of b (k - i) (drop from s)
  unfolding piece_of
  piece_here k i h =
      let z : k - i ≡ 0 = omega arith in
      let n : e - from ≡ length (before b (drop from s)) = omega arith in
      rw (z, n) (before_take b (drop from s))

-- one piece is passed
pub piece_next : (b : ℕ) (s t : List ℕ) (k i : ℕ) → i < k → t ≡ behind b s → piece_of b (k - (i + 1)) t ≡ piece_of b (k - i) s
unfolding piece_of
piece_next b s t k i h e =
    let z : k - i ≡ suc (k - (i + 1)) = omega arith in
    rw (z, e)

-- ---- the CR at the end

cr_behind : (s : List ℕ) (x : ℕ) → without_cr (s ++ (x ∷ [])) ≡ pick (eqb x 13) s (s ++ (x ∷ []))
unfolding without_cr
cr_behind [] x = refl
cr_behind (y ∷ []) x = by_test (eqb x 13) (λ t. rw t (unfold pick in refl)) (λ t. rw t (unfold pick in refl))
cr_behind (y ∷ z ∷ s) x =
    ap (λ (l : List ℕ). y ∷ l) (cr_behind (z ∷ s) x)
    ∙ by_test (eqb x 13) (λ t. rw t (unfold pick in refl)) (λ t. rw t (unfold pick in refl))

module _ (s : List ℕ) (some : length s ≡ 0 → ⊥) where
  parted : s ≡ take (length s - 1) s ++ (get_or s (length s - 1) 0 ∷ [])
  parted =
      let h : length s - 1 < length s = omega arith in
      let z : suc (length s - 1) ≡ length s = omega arith in
      sym (take_all (length s) s (omega arith)) ∙ (rw z at (take-suc s (length s - 1) 0 h))

  pub cr_here : get_or s (length s - 1) 0 ≡ 13 → take (length s - 1) s ≡ without_cr s
  cr_here e =
      sym (ap without_cr parted ∙ cr_behind (take (length s - 1) s) (get_or s (length s - 1) 0) ∙ pick_true _ _ (eq-eqb (get_or s (length s - 1) 0) 13 e))

  pub cr_none : (get_or s (length s - 1) 0 ≡ 13 → ⊥) → s ≡ without_cr s
  cr_none e =
      parted
      ∙ sym (ap without_cr parted ∙ cr_behind (take (length s - 1) s) (get_or s (length s - 1) 0) ∙ pick_false _ _ (ne_eqb (get_or s (length s - 1) 0) 13 e))

pub cr_nothing : (s : List ℕ) → length s ≡ 0 → s ≡ without_cr s
unfolding without_cr
cr_nothing [] e = refl
cr_nothing (x ∷ s) e = absurd (omega arith)

-- ---- a piece is no longer than the text

before_length : (b : ℕ) (s : List ℕ) → length (before b s) ≤ length s
unfolding before pick
before_length b [] = omega arith
before_length b (x ∷ s) = by_test (eqb x b) (λ t. rw t (omega arith)) (λ t. rw t (omega (arith, before_length b s)))

behind_length : (b : ℕ) (s : List ℕ) → length (behind b s) ≤ length s
unfolding behind pick
behind_length b [] = omega arith
behind_length b (x ∷ s) = by_test (eqb x b) (λ t. rw t (omega arith)) (λ t. rw t (omega (arith, behind_length b s)))

pub piece_length : (b k : ℕ) (s : List ℕ) → length (piece_of b k s) ≤ length s
unfolding piece_of
piece_length b zero s = before_length b s
piece_length b (suc k) s = omega (arith, piece_length b k (behind b s), behind_length b s)

-- ---- past the last piece there is none

-- how often a byte stands in a text
unfoldable pub places : ℕ → List ℕ → ℕ
places b [] = 0
places b (x ∷ s) = num (eqb x b) + places b s

places_behind : (b : ℕ) (s : List ℕ) → places b (behind b s) ≡ places b s - 1
unfolding places behind pick num
places_behind b [] = refl
places_behind b (x ∷ s) = by_test (eqb x b) (λ t. rw t (omega arith)) (λ t. rw t (omega (arith, places_behind b s)))

behind_nothing : (b : ℕ) (s : List ℕ) → places b s ≡ 0 → behind b s ≡ []
unfolding places behind pick num
behind_nothing b [] h = refl
behind_nothing b (x ∷ s) h =
    by_test (eqb x b)
    (λ t. absurd (let k : 1 + places b s ≡ 0 = rw t at h in omega arith))
    (λ t. rw t (behind_nothing b s (omega (arith, rw t at h))))

pub piece_past : (b n : ℕ) (s : List ℕ) → places b s < n → piece_of b n s ≡ []
unfolding piece_of before
piece_past b zero s h = absurd (not-suc-le-zero h)
piece_past b (suc zero) s h = rw (behind_nothing b s (omega arith))
piece_past b (suc (suc n)) s h = piece_past b (suc n) (behind b s) (omega (arith, places_behind b s))
