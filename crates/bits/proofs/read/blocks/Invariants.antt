-- `bits::read::blocks` meets its contract. The first k blocks of eight numbers are written.
-- Assumes nothing.
use mathlib.Core.Path.{◌≡◌}
use Prim.Native.Nat.{◌+◌, ◌*◌}
use lib.ListN.{length, drop}
use Rattle.laws.specs.Bits.{unpack}
use Rattle.laws.specs.Wrote.{Wrote}
use Rattle.bits.specs.Read.{numbers}
use Rattle.bits.proofs.read.blocks.Given as goal

abbrev pub invariant-loop-k : goal.invariant-loop-k
invariant-loop-k l = (length l.out ≡ length l.initial.out) × Wrote l.initial.out l.to (numbers 7 (l.k * 8) (drop l.at (unpack l.s))) l.out (l.to + l.k * 8)
