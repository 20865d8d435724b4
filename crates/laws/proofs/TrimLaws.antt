-- Numbers in a range, and trimming: of a text with nothing to trim only blanks after it go.
-- Assumes nothing.
use mathlib.Core.Path.{◌≡◌, refl}
use mathlib.Core.Bool.{Bool, true, false}
use mathlib.Core.List.{List, [], ◌∷◌, ◌++◌, append-nil}
use Prim.Native.Nat.{ℕ, zero, suc, ◌+◌, ◌-◌, ◌≤◌, ◌<◌, suc-le-suc}
use native.Mathlib.Numerals.{add-one}
use native.Mathlib.Omega.{arith}
use lib.ListN.{length, get_or, drop, replicate, length-append, length-replicate}
use lib.Seq.{drop-cons}
use borrow.Author.Tests.{le-leb, lt-leb}
use Rattle.laws.specs.Pick.{pick}
use Rattle.laws.specs.Text.{between, filled, trim_front, keep_or, trim_end, trim}
use Rattle.laws.proofs.Cases.{by_test}

-- ---- a range

module _ (a e c : ℕ) where
  pub between_below : c < a → between a e c ≡ false
  unfolding between
  between_below h = rw (lt-leb a c h)

  pub between_yes : a ≤ c → c ≤ e → between a e c ≡ true
  unfolding between
  between_yes h k = rw (le-leb a c h, le-leb c e k)

  pub between_above : a ≤ c → e < c → between a e c ≡ false
  unfolding between
  between_above h k = rw (le-leb a c h, lt-leb c e k)

-- ---- nothing to trim

-- no byte passes the test
abbrev pub Solid : (ℕ → Bool) → List ℕ → Type 0
Solid w s = (i : ℕ) → i < length s → w (get_or s i 0) ≡ false

-- blanks do
module _ (w : ℕ → Bool) (blank : w 32 ≡ true) where
  front_blanks : (k : ℕ) → trim_front w (replicate k 32) ≡ []
  unfolding trim_front pick
  front_blanks zero = refl
  front_blanks (suc k) = rw blank (front_blanks k)

  end_blanks : (k : ℕ) → trim_end w (replicate k 32) ≡ []
  unfolding trim_end keep_or pick
  end_blanks zero = refl
  end_blanks (suc k) = rw (end_blanks k, blank)

  end_solid : (s : List ℕ) (k : ℕ) → Solid w s → trim_end w (s ++ replicate k 32) ≡ s
  unfolding trim_end keep_or pick
  end_solid [] k h = end_blanks k
  end_solid (c ∷ []) k h = rw (end_blanks k, h 0 (omega arith))
  end_solid (c ∷ d ∷ s) k h = rw (end_solid (d ∷ s) k (λ i l. h (suc i) (suc-le-suc l)))

  trim_blanks : (s : List ℕ) (k : ℕ) → Solid w s → trim w (s ++ replicate k 32) ≡ s
  unfolding trim trim_front trim_end pick
  trim_blanks [] k h = rw (front_blanks k)
  trim_blanks (c ∷ s) k h = rw (h 0 (omega arith)) (end_solid (c ∷ s) k h)

  pub trim_solid : (s : List ℕ) → Solid w s → trim w s ≡ s
  trim_solid s h = rw append-nil at (trim_blanks s 0 h)

  pub trim_filled : (n : ℕ) (s : List ℕ) → Solid w s → trim w (filled n s) ≡ s
  unfolding filled
  trim_filled n s h = trim_blanks s (n - length s) h

pub length_filled : (n : ℕ) (s : List ℕ) → length s ≤ n → length (filled n s) ≡ n
unfolding filled
length_filled n s h = rw (length-append, length-replicate) (omega arith)

-- ---- a trimmed text is no longer

keep_le : (t : Bool) (c : ℕ) (s : List ℕ) → length (keep_or t c s) ≤ suc (length s)
unfolding keep_or pick
keep_le true c [] = omega arith
keep_le false c [] = omega arith
keep_le t c (d ∷ s) = omega arith

module _ (w : ℕ → Bool) where
  front_le : (s : List ℕ) → length (trim_front w s) ≤ length s
  unfolding trim_front pick
  front_le [] = omega arith
  front_le (c ∷ s) = by_test (w c) (λ e. rw e (omega (arith, front_le s))) (λ e. rw e (omega arith))

  end_le : (s : List ℕ) → length (trim_end w s) ≤ length s
  unfolding trim_end
  end_le [] = omega arith
  end_le (c ∷ s) = omega (arith, keep_le (w c) c (trim_end w s), end_le s)

  pub trim_le : (s : List ℕ) → length (trim w s) ≤ length s
  unfolding trim
  trim_le s = omega (arith, end_le (trim_front w s), front_le s)

-- ---- trimming byte by byte

module _ (w : ℕ → Bool) where
  module _ (s : List ℕ) (i : ℕ) (h : i < length s) where
    pub front_on : w (get_or s i 0) ≡ true → trim_front w (drop i s) ≡ trim_front w (drop (i + 1) s)
    unfolding trim_front pick
    front_on e = rw (drop-cons s i 0 h, e, add-one i)

    pub front_here : w (get_or s i 0) ≡ false → trim_front w (drop i s) ≡ drop i s
    unfolding trim_front pick
    front_here e = rw (drop-cons s i 0 h, e)

  pub end_on : (s : List ℕ) (x : ℕ) → w x ≡ true → trim_end w (s ++ (x ∷ [])) ≡ trim_end w s
  unfolding trim_end keep_or pick
  end_on [] x e = rw e
  end_on (c ∷ s) x e = rw (end_on s x e)

  pub end_here : (s : List ℕ) (x : ℕ) → w x ≡ false → trim_end w (s ++ (x ∷ [])) ≡ s ++ (x ∷ [])
  unfolding trim_end keep_or pick
  end_here [] x e = rw e
  end_here (c ∷ []) x e = rw (end_here [] x e)
  end_here (c ∷ d ∷ s) x e = rw (end_here (d ∷ s) x e)
