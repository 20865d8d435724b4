-- CRC-16/GENIBUS, bit by bit from the catalogue's parameters: width 16, no reflection.
-- Assumes nothing.
use Rattle.std.specs.Prelude.{List, [], ◌∷◌, ℕ, zero, suc, ◌*◌, ◌/◌, ◌%◌, leb}
use Rattle.std.specs.Int.Bits.{bit_xor, bit_and}
use Rattle.laws.specs.Pick.{pick}

-- "polynomial 1021"
abbrev pub poly : ℕ
poly = 0x1021

-- "start FFFF"
abbrev pub start : ℕ
start = 0xFFFF

-- "final exclusive-or FFFF"
abbrev pub final : ℕ
final = 0xFFFF

-- one step of the division: the top bit is shifted out, and where it was set the polynomial is taken off
unfoldable pub crc_bit : ℕ → ℕ
crc_bit c = pick (leb 0x8000 c) (bit_xor (c * 2 % 0x10000) poly) (c * 2 % 0x10000)

unfoldable pub crc_steps : ℕ → ℕ → ℕ
crc_steps zero c = c
crc_steps (suc k) c = crc_bit (crc_steps k c)

-- a byte goes into the high half, and eight steps follow
unfoldable pub crc_byte : ℕ → ℕ → ℕ
crc_byte c b = crc_steps 8 (bit_xor c (b * 256))

unfoldable pub crc_from : ℕ → List ℕ → ℕ
crc_from c [] = c
crc_from c (b ∷ bs) = crc_from (crc_byte c b) bs

-- the CRC of bytes
unfoldable pub crc_of : List ℕ → ℕ
crc_of bs = bit_xor (crc_from start bs) final

-- the CRC's high byte under a mask
unfoldable pub crc_bits : List ℕ → ℕ → ℕ
crc_bits bs mask = bit_and (crc_of bs / 256) mask
