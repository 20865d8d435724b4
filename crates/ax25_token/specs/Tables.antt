-- The tables of call tokens, as in the source.
-- Assumes nothing.
use Rattle.std.specs.Prelude.{List, [], ◌∷◌, ◌++◌, ℕ, ltb}
use Rattle.std.specs.Prelude.{Option, None, Some, unwrap_or}
use Prim.Native.Char.{Char, code}
use Prim.Native.String.{String}
use Rattle.laws.specs.Pick.{pick}
use Rattle.laws.specs.Text.{ascii, position}

-- CALL_ALPHABET
unfoldable pub call_alphabet : List ℕ
call_alphabet = ascii " ABCDEFGHIJKLMNOPQRSTUVWXYZ0123456789"

-- LONG
unfoldable pub long : List ℕ
long = ascii " ABCDEFGHIJKLMNOPQRSTUVWXYZ0123456789!:#$%&'()*+,-./;"

-- `sym`: the index of a symbol in LONG
unfoldable pub sym_of : ℕ → ℕ
sym_of s = unwrap_or (position s long) 0

-- `alpha`: the code of a letter
unfoldable pub alpha_of : ℕ → Option ℕ
alpha_of x = position x call_alphabet

-- "a table of 256 entries": a byte's letter code, or 255 for none, in rows of sixteen bytes
unfoldable pub letter_codes : List ℕ
letter_codes =
    255 ∷ 255 ∷ 255 ∷ 255 ∷ 255 ∷ 255 ∷ 255 ∷ 255 ∷ 255 ∷ 255 ∷ 255 ∷ 255 ∷ 255 ∷ 255 ∷ 255 ∷ 255
    ∷ 255 ∷ 255 ∷ 255 ∷ 255 ∷ 255 ∷ 255 ∷ 255 ∷ 255 ∷ 255 ∷ 255 ∷ 255 ∷ 255 ∷ 255 ∷ 255 ∷ 255 ∷ 255
    ∷ 0 ∷ 255 ∷ 255 ∷ 255 ∷ 255 ∷ 255 ∷ 255 ∷ 255 ∷ 255 ∷ 255 ∷ 255 ∷ 255 ∷ 255 ∷ 255 ∷ 255 ∷ 255
    ∷ 27 ∷ 28 ∷ 29 ∷ 30 ∷ 31 ∷ 32 ∷ 33 ∷ 34 ∷ 35 ∷ 36 ∷ 255 ∷ 255 ∷ 255 ∷ 255 ∷ 255 ∷ 255
    ∷ 255 ∷ 1 ∷ 2 ∷ 3 ∷ 4 ∷ 5 ∷ 6 ∷ 7 ∷ 8 ∷ 9 ∷ 10 ∷ 11 ∷ 12 ∷ 13 ∷ 14 ∷ 15
    ∷ 16 ∷ 17 ∷ 18 ∷ 19 ∷ 20 ∷ 21 ∷ 22 ∷ 23 ∷ 24 ∷ 25 ∷ 26 ∷ 255 ∷ 255 ∷ 255 ∷ 255 ∷ 255
    ∷ 255 ∷ 255 ∷ 255 ∷ 255 ∷ 255 ∷ 255 ∷ 255 ∷ 255 ∷ 255 ∷ 255 ∷ 255 ∷ 255 ∷ 255 ∷ 255 ∷ 255 ∷ 255
    ∷ 255 ∷ 255 ∷ 255 ∷ 255 ∷ 255 ∷ 255 ∷ 255 ∷ 255 ∷ 255 ∷ 255 ∷ 255 ∷ 255 ∷ 255 ∷ 255 ∷ 255 ∷ 255
    ∷ 255 ∷ 255 ∷ 255 ∷ 255 ∷ 255 ∷ 255 ∷ 255 ∷ 255 ∷ 255 ∷ 255 ∷ 255 ∷ 255 ∷ 255 ∷ 255 ∷ 255 ∷ 255
    ∷ 255 ∷ 255 ∷ 255 ∷ 255 ∷ 255 ∷ 255 ∷ 255 ∷ 255 ∷ 255 ∷ 255 ∷ 255 ∷ 255 ∷ 255 ∷ 255 ∷ 255 ∷ 255
    ∷ 255 ∷ 255 ∷ 255 ∷ 255 ∷ 255 ∷ 255 ∷ 255 ∷ 255 ∷ 255 ∷ 255 ∷ 255 ∷ 255 ∷ 255 ∷ 255 ∷ 255 ∷ 255
    ∷ 255 ∷ 255 ∷ 255 ∷ 255 ∷ 255 ∷ 255 ∷ 255 ∷ 255 ∷ 255 ∷ 255 ∷ 255 ∷ 255 ∷ 255 ∷ 255 ∷ 255 ∷ 255
    ∷ 255 ∷ 255 ∷ 255 ∷ 255 ∷ 255 ∷ 255 ∷ 255 ∷ 255 ∷ 255 ∷ 255 ∷ 255 ∷ 255 ∷ 255 ∷ 255 ∷ 255 ∷ 255
    ∷ 255 ∷ 255 ∷ 255 ∷ 255 ∷ 255 ∷ 255 ∷ 255 ∷ 255 ∷ 255 ∷ 255 ∷ 255 ∷ 255 ∷ 255 ∷ 255 ∷ 255 ∷ 255
    ∷ 255 ∷ 255 ∷ 255 ∷ 255 ∷ 255 ∷ 255 ∷ 255 ∷ 255 ∷ 255 ∷ 255 ∷ 255 ∷ 255 ∷ 255 ∷ 255 ∷ 255 ∷ 255
    ∷ 255 ∷ 255 ∷ 255 ∷ 255 ∷ 255 ∷ 255 ∷ 255 ∷ 255 ∷ 255 ∷ 255 ∷ 255 ∷ 255 ∷ 255 ∷ 255 ∷ 255 ∷ 255 ∷ []

-- "a byte's letter code or none": what an entry stands for
unfoldable pub entry_code : ℕ → Option ℕ
entry_code e = pick (ltb e 37) (Some e) None

-- WIDE_TOKENS
unfoldable pub wide_tokens : List (List ℕ)
wide_tokens =
    ascii "WIDE1-1" ∷ ascii "WIDE1" ∷ ascii "WIDE1-2" ∷ ascii "WIDE1-3"
    ∷ ascii "WIDE2" ∷ ascii "WIDE2-1" ∷ ascii "WIDE2-2" ∷ ascii "WIDE2-3" ∷ []

-- a row of PAIRS: the symbol, the name, where the digit and the number stand, and the bits of the number
pub record Pair : Type 0 where
  pub sym : ℕ
  pub name : List ℕ
  pub digit : ℕ
  pub number : ℕ
  pub width : ℕ

abbrev pair : Char → String → ℕ → ℕ → ℕ → Pair
pair s n d k w = record { sym = code s; name = ascii n; digit = d; number = k; width = w }

-- PAIRS[0], and PAIRS[1..]
unfoldable pub wide_row : Pair
wide_row = pair "!" "WIDE" 4 6 2

unfoldable pub pair_rows : List Pair
pair_rows = pair ":" "PNW" 3 5 1 ∷ pair "#" "MW" 2 4 1 ∷ pair "$" "OR" 2 4 1 ∷ pair "%" "WA" 2 4 1 ∷ []

-- the texts that a row of PAIRS[1..] takes
unfoldable pub pair_texts : List ℕ → List (List ℕ)
pair_texts n = (n ++ ascii "1-1") ∷ (n ++ ascii "1") ∷ (n ++ ascii "2") ∷ (n ++ ascii "2-1") ∷ []

-- a row of FIXED: the name and the symbol
pub record Fixed : Type 0 where
  pub name : List ℕ
  pub sym : ℕ

abbrev fixed : String → Char → Fixed
fixed n s = record { name = ascii n; sym = code s }

-- FIXED
unfoldable pub fixed_rows : List Fixed
fixed_rows =
    fixed "ALL" "&" ∷ fixed "CQ" "'" ∷ fixed "APBPQ1" "+" ∷ fixed "APJYC1" ","
    ∷ fixed "APOPYT" "-" ∷ fixed "APU25N" "." ∷ fixed "APVARA" "/" ∷ []

-- a row of NUMBERED: the symbol, the name, the numbers from and up to which, and the bits of the number
pub record Numbered : Type 0 where
  pub sym : ℕ
  pub name : List ℕ
  pub low : ℕ
  pub high : ℕ
  pub width : ℕ

abbrev numbered : Char → String → ℕ → ℕ → ℕ → Numbered
numbered s n lo hi w = record { sym = code s; name = ascii n; low = lo; high = hi; width = w }

-- NUMBERED
unfoldable pub numbered_rows : List Numbered
numbered_rows = numbered "(" "APIN" 20 36 4 ∷ numbered ")" "APWW" 11 19 3 ∷ numbered "*" "APDR" 16 48 5 ∷ []
