-- `bits::read::end_of` meets its contract. The bits from e on are a run of the pad.
-- Assumes nothing.
use mathlib.Core.Path.{◌≡◌}
use lib.ListN.{take}
use Rattle.laws.specs.Bits.{odd, unpack}
use Rattle.bits.specs.Text7.{end_of}
use Rattle.bits.proofs.read.end_of.Given as goal

abbrev pub invariant-loop-i : goal.invariant-loop-i
invariant-loop-i l = end_of (odd l.pad) (unpack l.s) ≡ end_of (odd l.pad) (take l.i (unpack l.s))
