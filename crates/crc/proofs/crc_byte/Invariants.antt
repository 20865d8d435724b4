-- `crc::crc_byte` meets its contract: so many of the eight steps are made.
-- Assumes nothing.
use mathlib.Core.Path.{◌≡◌}
use Prim.Native.Nat.{◌*◌}
use lib.Bits.{bit_xor}
use Rattle.crc.specs.Crc.{crc_steps}
use Rattle.crc.proofs.crc_byte.Given as goal

abbrev pub invariant-loop : goal.invariant-loop
invariant-loop l = l.x ≡ crc_steps l.counter (bit_xor l.c (l.b * 256))
