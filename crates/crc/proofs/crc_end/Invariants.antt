-- `crc::crc_end` meets its contract: the first i bytes are in.
-- Assumes nothing.
use mathlib.Core.Path.{◌≡◌}
use lib.ListN.{take}
use Rattle.crc.specs.Crc.{start, crc_from}
use Rattle.crc.proofs.crc_end.Given as goal

abbrev pub invariant-loop-i : goal.invariant-loop-i
invariant-loop-i l = l.c ≡ crc_from start (take l.i l.«data»)
