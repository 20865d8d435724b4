-- `ax25_token::encode::starts` meets its contract.
-- Assumes nothing.
use mathlib.Core.Path.{◌≡◌, refl, ap, ◌∙◌}
use mathlib.Core.Bool.{Bool, ◌&&◌}
use mathlib.Core.List.{List, [], ◌∷◌}
use Prim.Native.Nat.{ℕ}
use lib.Dec.{eqb}
use lib.ListN.{length, take}
use Rattle.std.specs.Cmp.Lexicographic.{pointwise}
use Rattle.laws.specs.Text.{starts}
use Rattle.ax25_token.proofs.encode.starts.Goals as goal

front_is : (w c : List ℕ) → pointwise eqb w (take (length w) c) ≡ starts w c
unfolding starts
front_is [] c = refl
front_is (x ∷ w) [] = refl
front_is (x ∷ w) (y ∷ c) = ap (λ (b : Bool). eqb x y && b) (front_is w c)

pub returns : goal.returns
returns c = c.starts_with.ensures.value ∙ front_is c.args.w.now c.args.c.now
