-- Runs of stores into a list, and lists that were joined.
-- Assumes nothing.
use mathlib.Core.Path.{◌≡◌, refl, sym, ◌∙◌}
use mathlib.Core.List.{List, [], ◌∷◌, ◌++◌, append_assoc, append-nil}
use Prim.Native.Nat.{ℕ, suc, ◌+◌, ◌-◌, ◌≤◌, ◌<◌}
use native.Mathlib.Nat.{zero-add, add-zero, add-suc, suc-add}
use native.Mathlib.Numerals.{add-one}
use native.Mathlib.Omega.{arith}
use lib.ListN.{length, get_or, set, take, drop, length-append, length-drop, length-set, take-append-drop}
use lib.Seq.{take_at, drop_at, take_all, take-suc, length-take-le, drop-length, set_out, set-append_left, sets, sets-eq, length-sets}

module _ {A : Type 0} where
  pub set_past : (xs ys : List A) (n : ℕ) (a : A) → set (xs ++ ys) (length xs + n) a ≡ xs ++ set ys n a
  set_past [] ys n a = rw zero-add
  set_past (x ∷ xs) ys n a = rw (suc-add, set_past xs ys n a)

  pub sets_past : (xs ys : List A) (n : ℕ) (vs : List A) → sets (xs ++ ys) (length xs + n) vs ≡ xs ++ sets ys n vs
  sets_past xs ys n [] = refl
  sets_past xs ys n (v ∷ vs) = rw (set_past xs ys n v, ← add-suc (length xs) n) (sets_past xs (set ys n v) (suc n) vs)

  -- into an empty list nothing is stored
  pub sets_nil : (i : ℕ) (vs : List A) → sets [] i vs ≡ []
  sets_nil i [] = refl
  sets_nil i (v ∷ vs) = sets_nil (suc i) vs

  -- nor past the end
  pub sets_out : (l : List A) (i : ℕ) (vs : List A) → length l ≤ i → sets l i vs ≡ l
  sets_out l i [] h = refl
  sets_out l i (v ∷ vs) h = rw (set_out l i v h) (sets_out l (suc i) vs (omega arith))

  -- into the first of two lists
  pub sets_left : (xs ys : List A) (i : ℕ) (vs : List A) → i + length vs ≤ length xs → sets (xs ++ ys) i vs ≡ sets xs i vs ++ ys
  sets_left xs ys i [] h = refl
  sets_left xs ys i (v ∷ vs) h =
      rw (set-append_left xs ys i v (omega arith)) (sets_left (set xs i v) ys (suc i) vs (omega (arith, length-set xs i v)))

  -- over the middle of three
  pub sets_over : (p q r vs : List A) (n : ℕ) → length p ≡ n → length vs ≡ length q → sets ((p ++ q) ++ r) n vs ≡ (p ++ vs) ++ r
  sets_over p q r vs n e h =
      let whole : sets q 0 vs ≡ vs = sets-eq vs q 0 (omega arith) ∙ rw (zero-add, h, drop-length q) (append-nil vs) in
      let z : n ≡ length p + 0 = omega arith in
      rw (sets_left (p ++ q) r n vs (omega (arith, length-append p q)), z, sets_past p q 0 vs, whole)

  -- one run of stores after another
  pub sets_append : (l : List A) (i : ℕ) (vs ws : List A) → sets l i (vs ++ ws) ≡ sets (sets l i vs) (i + length vs) ws
  sets_append l i [] ws = rw add-zero
  sets_append l i (v ∷ vs) ws = rw (sets_append (set l i v) (suc i) vs ws, suc-add, add-suc)

  -- only what has room is stored
  pub sets_clip : (l : List A) (i k : ℕ) (vs : List A) → k ≤ length vs → length l ≤ i + k → sets l i (take k vs) ≡ sets l i vs
  sets_clip l i k vs h r =
      let parts = sets_append l i (take k vs) (drop k vs) in
      sym (rw (take-append-drop k vs, length-take-le k vs h) at parts
      ∙ sets_out (sets l i (take k vs)) (i + k) (drop k vs) (omega (arith, length-sets l i (take k vs))))

  -- one store more
  pub sets_take_suc : (l : List A) (at : ℕ) (vs : List A) (i : ℕ) (d : A) → i < length vs
      → sets l at (take (i + 1) vs) ≡ set (sets l at (take i vs)) (at + i) (get_or vs i d)
  sets_take_suc l at vs i d h =
      rw (add-one i, take-suc vs i d h, sets_append l at (take i vs) (get_or vs i d ∷ []), length-take-le i vs (omega arith))

  -- what stands up to the end of a run of stores
  pub take_sets : (l : List A) (i : ℕ) (vs : List A) → i + length vs ≤ length l → take (i + length vs) (sets l i vs) ≡ take i l ++ vs
  take_sets l i vs h =
      rw (sets-eq vs l i h)
      (take_at (take i l ++ vs) (drop (i + length vs) l) (i + length vs)
      (omega (arith, length-append (take i l) vs, length-take-le i l (omega arith))))

  -- what was stored stands there
  pub drop_stored : (l : List A) (i : ℕ) (vs : List A) → i + length vs ≤ length l → drop i (sets l i vs) ≡ vs ++ drop (i + length vs) l
  drop_stored l i vs h =
      rw (sets-eq vs l i h, append_assoc (take i l) vs (drop (i + length vs) l))
      (drop_at (take i l) (vs ++ drop (i + length vs) l) i (length-take-le i l (omega arith)))

  -- `&l[i..]`
  pub from_place : (l : List A) (i : ℕ) → take (length l - i) (drop i l) ≡ drop i l
  from_place l i = take_all (length l - i) (drop i l) (omega (arith, length-drop i l))
