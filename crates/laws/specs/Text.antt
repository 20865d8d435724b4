-- Texts as lists of bytes.
-- Assumes nothing.
use Rattle.std.specs.Prelude.{Bool, true, false, ◌&&◌, ◌||◌, List, [], ◌∷◌, ◌++◌, ℕ, suc, ◌-◌, length, replicate, eqb, leb}
use Rattle.std.specs.Prelude.{Option, None, Some}
use Prim.Native.Char.{code}
use Prim.Native.String as S
use Prim.Native.String.{String}
use Rattle.laws.specs.Pick.{pick}

-- a quoted text as its bytes
abbrev pub ascii : String → List ℕ
ascii S.[] = []
ascii (S.◌∷◌ c s) = code c ∷ ascii s

-- from a to e
unfoldable pub between : ℕ → ℕ → ℕ → Bool
between a e c = leb a c && leb c e

-- a decimal digit
unfoldable pub is_digit : ℕ → Bool
is_digit c = between 48 57 c

-- a small letter as its capital
unfoldable pub upper : ℕ → ℕ
upper c = pick (between 97 122 c) (c - 32) c

-- the same bytes
unfoldable pub same : List ℕ → List ℕ → Bool
same [] [] = true
same [] (y ∷ ys) = false
same (x ∷ xs) [] = false
same (x ∷ xs) (y ∷ ys) = eqb x y && same xs ys

-- one of these
unfoldable pub is_one_of : List ℕ → List (List ℕ) → Bool
is_one_of c [] = false
is_one_of c (n ∷ ns) = same c n || is_one_of c ns

-- s starts with w
unfoldable pub starts : List ℕ → List ℕ → Bool
starts [] s = true
starts (c ∷ w) [] = false
starts (c ∷ w) (d ∷ s) = eqb c d && starts w s

unfoldable pub later : Option ℕ → Option ℕ
later None = None
later (Some i) = Some (suc i)

-- the first place of a byte
unfoldable pub position : ℕ → List ℕ → Option ℕ
position x [] = None
position x (y ∷ ys) = pick (eqb x y) (Some 0) (later (position x ys))

-- blanks after a text up to n bytes
unfoldable pub filled : ℕ → List ℕ → List ℕ
filled n s = s ++ replicate (n - length s) 32

-- a text without the bytes at its front, or its end, that pass a test
unfoldable pub trim_front : (ℕ → Bool) → List ℕ → List ℕ
trim_front w [] = []
trim_front w (c ∷ cs) = pick (w c) (trim_front w cs) (c ∷ cs)

unfoldable pub keep_or : Bool → ℕ → List ℕ → List ℕ
keep_or white c [] = pick white [] (c ∷ [])
keep_or white c (d ∷ ds) = c ∷ d ∷ ds

unfoldable pub trim_end : (ℕ → Bool) → List ℕ → List ℕ
trim_end w [] = []
trim_end w (c ∷ cs) = keep_or (w c) c (trim_end w cs)

unfoldable pub trim : (ℕ → Bool) → List ℕ → List ℕ
trim w s = trim_end w (trim_front w s)
