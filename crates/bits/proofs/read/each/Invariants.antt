-- `bits::read::each` meets its contract. The first i numbers are written.
-- Assumes nothing.
use mathlib.Core.Path.{◌≡◌}
use Prim.Native.Nat.{◌+◌}
use lib.ListN.{length, drop}
use Rattle.laws.specs.Bits.{unpack}
use Rattle.laws.specs.Wrote.{Wrote}
use Rattle.bits.specs.Read.{numbers}
use Rattle.bits.proofs.read.each.Given as goal

abbrev pub invariant-loop-i : goal.invariant-loop-i
invariant-loop-i l = (length l.out ≡ length l.initial.out) × Wrote l.initial.out l.to (numbers l.w l.i (drop l.at (unpack l.s))) l.out (l.to + l.i)
