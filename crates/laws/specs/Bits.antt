-- Bytes and bits as lists. Bits go most significant first.
-- Assumes nothing.
use Rattle.std.specs.Prelude.{Bool, true, false, List, [], ◌∷◌, ◌++◌, ℕ, zero, suc, ◌+◌, ◌*◌, ◌/◌, ◌%◌, ◌^◌, ◌<◌, length, get_or, drop, eqb}

-- every element is a byte
abbrev pub Bytes : List ℕ → Type 0
Bytes s = (i : ℕ) → i < length s → get_or s i 0 < 256

-- the last bit of a number
unfoldable pub odd : ℕ → Bool
odd n = eqb (n % 2) 1

-- a bit as a number
unfoldable pub num : Bool → ℕ
num true = 1
num false = 0

-- the low n bits of v
unfoldable pub bits_of : ℕ → ℕ → List Bool
bits_of zero v = []
bits_of (suc n) v = odd (v / 2 ^ n) ∷ bits_of n v

-- the number whose bits these are
unfoldable pub value_of : List Bool → ℕ
value_of [] = 0
value_of (b ∷ bs) = num b * 2 ^ length bs + value_of bs

-- the first n bits, with zeros for those that are missing
unfoldable pub fit : ℕ → List Bool → List Bool
fit zero b = []
fit (suc n) [] = false ∷ fit n []
fit (suc n) (x ∷ xs) = x ∷ fit n xs

-- the first k bytes of bits, filled up with zeros
unfoldable pub pack_n : ℕ → List Bool → List ℕ
pack_n zero b = []
pack_n (suc k) b = value_of (fit 8 b) ∷ pack_n k (drop 8 b)

-- as many bytes as the bits take
unfoldable pub pack : List Bool → List ℕ
pack b = pack_n ((length b + 7) / 8) b

-- the bits of bytes
unfoldable pub unpack : List ℕ → List Bool
unpack [] = []
unpack (x ∷ xs) = bits_of 8 x ++ unpack xs
