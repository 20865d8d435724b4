-- A flag as a byte.
-- Assumes nothing.
use mathlib.Core.Bool.{Bool, true, false}
use mathlib.Core.Path.{◌≡◌, refl}
use mir.Val.{bool_byte}
use Rattle.laws.specs.Bits.{num}

-- what `u8::from` gives
pub byte_num : (b : Bool) → bool_byte b ≡ num b
unfolding num
byte_num true = refl
byte_num false = refl
