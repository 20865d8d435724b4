-- The table that takes eight bytes a step, and two bytes on their way through the division, apart from all others.
-- Assumes nothing.
use Rattle.std.specs.Prelude.{List, [], ◌∷◌, ◌++◌, ℕ, zero, suc, ◌+◌, ◌*◌}
use Rattle.std.specs.Int.Bits.{bit_xor}
use Rattle.crc.specs.Crc.{crc_steps}

-- n times four bits at the top, from v on
unfoldable pub tops : ℕ → ℕ → List ℕ
tops zero v = []
tops (suc n) v = v ∷ tops n (v + 4096)

-- each four steps on
unfoldable pub four_on : List ℕ → List ℕ
four_on [] = []
four_on (x ∷ xs) = crc_steps 4 x ∷ four_on xs

-- n rows, each four steps on from the one before
unfoldable pub rows_from : ℕ → List ℕ → List ℕ
rows_from zero xs = []
rows_from (suc n) xs = four_on xs ++ rows_from n (four_on xs)

-- sixteen rows for each of sixteen
unfoldable pub rows : List ℕ
rows = rows_from 16 (tops 16 0)

-- what the bytes a and b come to, each in the high half when its turn comes, with k bytes of zeros after them
unfoldable pub pair_of : ℕ → ℕ → ℕ → ℕ
pair_of k a b = bit_xor (crc_steps ((k + 2) * 8) (a * 256)) (crc_steps ((k + 1) * 8) (b * 256))
