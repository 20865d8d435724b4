-- What the answers of the coder of a call stand for.
-- Assumes nothing.
use Rattle.std.specs.Prelude.{Bool, ◌&&◌, List, [], ◌∷◌, ◌++◌, ℕ, ◌+◌, ◌≤◌, get_or, eqb, ltb, leb}
use Rattle.std.specs.Prelude.{Option, None, Some}
use Rattle.laws.specs.Bits.{num, bits_of}
use Rattle.laws.specs.Pick.{pick}
use Rattle.laws.specs.Text.{ascii, upper, starts}
use Rattle.laws.specs.Wrote.{Wrote}
use Rattle.ax25_token.specs.Tables.{fixed_rows, numbered_rows}
use Rattle.ax25_token.specs.Token.{number_at, fixed_bits, numbered_bits, plain_ap, ap_bits, spelled_bits, or_else}

-- a byte, in upper case where that is asked for
unfoldable pub cased_of : Bool → ℕ → ℕ
cased_of up x = pick up (upper x) x

-- where there are bits, they are written at a position and the answer is the next one; else a bad call, and nothing is said of what is left
abbrev pub Puts : List Bool → ℕ → Option (List Bool) → List Bool → Option ℕ → Type 0
Puts b at None d (Some p) = ⊥
Puts b at None d None = Unit {0}
Puts b at (Some x) d (Some p) = Wrote b at x d p
Puts b at (Some x) d None = ⊥

-- what stands after WIDE in WIDE_TOKENS
unfoldable pub wide_ends : List (List ℕ)
wide_ends =
    ascii "1-1" ∷ ascii "1" ∷ ascii "1-2" ∷ ascii "1-3"
    ∷ ascii "2" ∷ ascii "2-1" ∷ ascii "2-2" ∷ ascii "2-3" ∷ []

-- the bits of a row of PAIRS with index i, a name of k bytes and a number of w bits
unfoldable pub paired_bits : ℕ → ℕ → ℕ → List ℕ → List Bool
paired_bits i k w c = bits_of 6 i ++ (bits_of 1 (num (eqb (get_or c k 0) 50)) ++ bits_of w (number_at c (k + 2) 1))

-- the bits that a row of PAIRS stands for
unfoldable pub row_bits : Option (ℕ × ℕ × ℕ) → List ℕ → Option (List Bool)
row_bits (Some (i, k, w)) c = Some (paired_bits i k w c)
row_bits None c = None

-- a name of at most 4 bytes, and a number of at most 2 bits
abbrev pub SmallRow : Option (ℕ × ℕ × ℕ) → Type 0
SmallRow (Some (i, k, w)) = (k ≤ 4) × (w ≤ 2)
SmallRow None = Unit {0}

-- the bits that an index stands for
unfoldable pub coded_bits : Option ℕ → Option (List Bool)
coded_bits (Some v) = Some (bits_of 6 v)
coded_bits None = None

-- the bits that a row of NUMBERED stands for
unfoldable pub counted_bits : Option (ℕ × ℕ × ℕ) → Option (List Bool)
counted_bits (Some (i, v, w)) = Some (bits_of 6 i ++ bits_of w v)
counted_bits None = None

-- a number of at most 5 bits
abbrev pub SmallCount : Option (ℕ × ℕ × ℕ) → Type 0
SmallCount (Some (i, v, w)) = w ≤ 5
SmallCount None = Unit {0}

-- a call starts with n, and its number v is in the range
unfoldable pub in_range : List ℕ → ℕ → ℕ → ℕ → List ℕ → Bool
in_range n low high v c = starts n c && (leb low v && ltb v high)

-- the bits of a call without a whole name
unfoldable pub unnamed_bits : ℕ → List ℕ → Option (List Bool)
unnamed_bits l c = or_else (numbered_bits numbered_rows c) (pick (plain_ap c) (ap_bits l c) (spelled_bits l c))

-- the bits of a call that no row of PAIRS takes
unfoldable pub unpaired_bits : ℕ → List ℕ → Option (List Bool)
unpaired_bits l c = or_else (fixed_bits fixed_rows c) (unnamed_bits l c)
