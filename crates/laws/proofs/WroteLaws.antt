-- Clipped writes, one after another.
-- Assumes nothing.
use mathlib.Core.Path.{◌≡◌, refl, sym}
use mathlib.Core.List.{List, [], ◌∷◌, ◌++◌}
use Prim.Native.Nat.{ℕ, ◌+◌, ◌≤◌}
use native.Mathlib.Omega.{arith}
use lib.ListN.{length, set, length-append}
use lib.Seq.{sets}
use Rattle.laws.specs.Wrote.{Wrote}
use Rattle.laws.proofs.ListLaws.{sets_append, sets_out}

module _ {A : Type 0} where
  pub wrote_none : {b : List A} {at : ℕ} → Wrote b at [] b at
  wrote_none = record { stored = refl; next_is = omega arith }

  pub wrote_one : {b : List A} {at : ℕ} {a : A} → Wrote b at (a ∷ []) (set b at a) (at + 1)
  wrote_one = record { stored = refl; next_is = refl }

  pub wrote_then : {b : List A} {at : ℕ} {x c : List A} {p : ℕ} {y d : List A} {q : ℕ}
      → Wrote b at x c p → Wrote c p y d q → Wrote b at (x ++ y) d q
  wrote_then {b} {at} {x} {c} {p} {y} {d} {q} f g =
      record {
        stored = rw (g.stored, f.stored, f.next_is, sets_append b at x y);
        next_is = omega (arith, length-append x y);
      }

  -- at the end of the list nothing more is written
  pub stored_past : {b : List A} {at : ℕ} {x c : List A} {p : ℕ} (y : List A) → Wrote b at x c p → length c ≤ p → c ≡ sets b at (x ++ y)
  stored_past {b} {at} {x} {c} {p} y f h = rw (sets_append b at x y, ← f.stored, ← f.next_is) (sym (sets_out c p y h))

  -- a write of something else that is the same
  pub wrote_as : {b : List A} {at : ℕ} {x y c : List A} {p : ℕ} → x ≡ y → Wrote b at x c p → Wrote b at y c p
  wrote_as e f = rw (← e) f
