-- What the library's tests of slices say in the words of the definitions.
-- Assumes nothing.
use mathlib.Core.Path.{◌≡◌, refl, ap}
use mathlib.Core.Bool.{Bool, ◌&&◌}
use mathlib.Core.List.{List, [], ◌∷◌}
use Prim.Native.Nat.{ℕ, ◌-◌}
use lib.ListN.{length, take, drop}
use lib.Dec.{eqb}
use lib.Pointwise.{pointwise}
use Rattle.std.specs.List.{starts_with}
use Rattle.laws.specs.Text.{same, starts}
use Rattle.laws.proofs.ListLaws.{from_place}

-- `s == t`
pub same_is : (s t : List ℕ) → pointwise eqb s t ≡ same s t
unfolding same
same_is [] [] = refl
same_is [] (y ∷ t) = refl
same_is (x ∷ s) [] = refl
same_is (x ∷ s) (y ∷ t) = ap (λ (b : Bool). eqb x y && b) (same_is s t)

-- `s.starts_with(w)`
pub starts_is : (w s : List ℕ) → starts_with eqb s w ≡ starts w s
unfolding starts
starts_is [] s = refl
starts_is (c ∷ w) [] = refl
starts_is (c ∷ w) (d ∷ s) = ap (λ (b : Bool). eqb c d && b) (starts_is w s)

-- `s[i..].starts_with(w)`
pub starts_from : (w s : List ℕ) (i : ℕ) → starts_with eqb (take (length s - i) (drop i s)) w ≡ starts w (drop i s)
starts_from w s i = rw (from_place s i) (starts_is w (drop i s))
