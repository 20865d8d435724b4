-- `bits::read::digits` meets its contract. The loop has read the first i digits.
-- Assumes nothing.
use mathlib.Core.Path.{◌≡◌}
use mathlib.Core.List.{map}
use Prim.Native.Nat.{◌-◌, ◌≤◌}
use lib.ListN.{take, drop}
use Rattle.laws.specs.Bits.{unpack}
use Rattle.laws.specs.Digits.{number_of}
use Rattle.bits.specs.Read.{letter}
use Rattle.bits.proofs.read.digits.Given as goal

abbrev pub invariant-loop-i : goal.invariant-loop-i
invariant-loop-i l = (l.i ≤ l.n) × (l.v ≡ number_of (map letter (take l.i (drop l.at (unpack l.s)))))

abbrev pub decreases-loop-i : goal.decreases-loop-i
decreases-loop-i l = l.n - l.i
