-- `bits::read::words` meets its contract. The first k words are written.
-- Assumes nothing.
use mathlib.Core.Path.{◌≡◌}
use Prim.Native.Nat.{◌*◌}
use lib.ListN.{length, take, drop}
use lib.Seq.{sets}
use Rattle.laws.specs.Bits.{unpack}
use Rattle.bits.proofs.read.words.Given as goal

abbrev pub invariant-loop-k : goal.invariant-loop-k
invariant-loop-k l = (length l.out ≡ length l.initial.out) × (unpack l.out ≡ sets (unpack l.initial.out) (l.to * 8) (take (l.k * 64) (drop l.at (unpack l.s))))
