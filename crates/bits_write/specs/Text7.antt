-- `push_text7` of bits.rs: text of seven bits a byte, closed by a pad.
-- Assumes nothing.
use Rattle.std.specs.Prelude.{Bool, not, List, [], ◌∷◌, ◌++◌, ℕ, ◌+◌, ◌-◌, ◌*◌, ◌%◌, ◌<◌, length, get_or, replicate}
use Rattle.laws.specs.Bits.{bits_of}

-- every byte is below 80
abbrev pub Sevens : List ℕ → Type 0
Sevens s = (i : ℕ) → i < length s → get_or s i 0 < 128

-- the low n bits of each byte
unfoldable pub bits_each : ℕ → List ℕ → List Bool
bits_each n [] = []
bits_each n (c ∷ cs) = bits_of n c ++ bits_each n cs

-- "7 bits a byte"
unfoldable pub sevens : List ℕ → List Bool
sevens [] = []
sevens (c ∷ cs) = bits_of 7 c ++ sevens cs

-- the last bit, or d where there is none
unfoldable pub last_or : Bool → List Bool → Bool
last_or d [] = d
last_or d (x ∷ xs) = last_or x xs

-- what `push_text7` writes after `at` bits, the last of which is `last` (false where there is none): the text, "then one or more pad bits
-- up to a whole byte; the pad is the opposite of the last bit written, or 1 if there is none"
unfoldable pub text7_bits : ℕ → Bool → List ℕ → List Bool
text7_bits at last cs = sevens cs ++ replicate (8 - (at + length cs * 7) % 8) (not (last_or last (sevens cs)))
