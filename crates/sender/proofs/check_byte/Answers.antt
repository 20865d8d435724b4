-- `sender::check_byte` meets its contract.
-- Assumes nothing.
use mathlib.Core.Path.{ap}
use Prim.Native.Nat.{◌-◌}
use lib.Bits.{bit_or}
use Rattle.sender.specs.Send.{check_of}
use Rattle.sender.proofs.check_byte.Goals as goal

pub returns : goal.returns
unfolding check_of
returns c = ap (bit_or (c.args.count - 2)) c.crc_bits.ensures
