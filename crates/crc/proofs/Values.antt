-- The catalogue's check value, that of 123456789, and the CRC of no bytes.
-- Assumes nothing.
use mathlib.Core.Path.{◌≡◌, refl}
use mathlib.Core.List.{[], ◌∷◌}
use Rattle.laws.specs.Pick.{pick}
use Rattle.crc.specs.Crc.{crc_of, crc_from, crc_byte, crc_steps, crc_bit}

pub check_value : (crc_of (0x31 ∷ 0x32 ∷ 0x33 ∷ 0x34 ∷ 0x35 ∷ 0x36 ∷ 0x37 ∷ 0x38 ∷ 0x39 ∷ []) ≡ 0xD64E) × (crc_of [] ≡ 0)
unfolding crc_of crc_from crc_byte crc_steps crc_bit pick
check_value = (refl, refl)
