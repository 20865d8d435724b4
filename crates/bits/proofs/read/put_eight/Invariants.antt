-- `bits::read::put_eight` meets its contract. The first k numbers are written.
-- Assumes nothing.
use mathlib.Core.Path.{◌≡◌}
use Prim.Native.Nat.{◌+◌}
use lib.ListN.{length}
use Rattle.laws.specs.Bits.{bits_of}
use Rattle.laws.specs.Wrote.{Wrote}
use Rattle.bits.specs.Read.{numbers}
use Rattle.bits.proofs.read.put_eight.Given as goal

abbrev pub invariant-loop-k : goal.invariant-loop-k
invariant-loop-k l = (length l.out ≡ length l.initial.out) × Wrote l.initial.out l.to (numbers 7 l.k (bits_of 56 l.v)) l.out (l.to + l.k)
