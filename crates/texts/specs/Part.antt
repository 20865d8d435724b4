-- Parts of a text.
-- Assumes nothing.
use Rattle.std.specs.Prelude.{List, [], ◌∷◌, ℕ, zero, suc, eqb}
use Rattle.laws.specs.Pick.{pick}

-- what stands before the first b, all where there is none; and after it, nothing where there is none
unfoldable pub before : ℕ → List ℕ → List ℕ
before b [] = []
before b (x ∷ s) = pick (eqb x b) [] (x ∷ before b s)

unfoldable pub behind : ℕ → List ℕ → List ℕ
behind b [] = []
behind b (x ∷ s) = pick (eqb x b) s (behind b s)

-- piece k, counted from 0, of what b parts
unfoldable pub piece_of : ℕ → ℕ → List ℕ → List ℕ
piece_of b zero s = before b s
piece_of b (suc k) s = piece_of b k (behind b s)

-- a line without the CR at its end
unfoldable pub without_cr : List ℕ → List ℕ
without_cr [] = []
without_cr (x ∷ []) = pick (eqb x 13) [] (x ∷ [])
without_cr (x ∷ y ∷ s) = x ∷ without_cr (y ∷ s)
