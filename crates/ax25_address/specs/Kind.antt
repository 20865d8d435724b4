-- The number of a type.
-- Assumes nothing.
use Rattle.std.specs.Prelude.{ℕ}
use Rattle.ax25_address.specs.Types as types
use Rattle.ax25_address.specs.declared.classify.AprsType.{AprsType}
use Rattle.ax25_address.specs.declared.classify.AprsType.TheVariants.{Text, Binary, Position, TimestampedPosition, Message, ThirdParty}

abbrev pub type_number : AprsType → ℕ
type_number Text = types.Text
type_number Binary = types.Binary
type_number Position = types.Position
type_number TimestampedPosition = types.TimestampedPosition
type_number Message = types.Message
type_number ThirdParty = types.ThirdParty
