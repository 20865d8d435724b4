-- `bits_write::push` meets its contract. The loop has written all but the last `left` bits of v.
-- Assumes nothing.
use mathlib.Core.Path.{◌≡◌}
use Prim.Native.Nat.{◌+◌, ◌-◌, ◌/◌, ◌^◌, ◌≤◌}
use lib.ListN.{length}
use lib.Seq.{sets}
use Rattle.laws.specs.Bits.{bits_of, unpack}
use Rattle.bits_write.proofs.push.Given as goal

abbrev pub invariant-loop-left : goal.invariant-loop-left
invariant-loop-left l = (l.left ≤ l.n) × (l.pos ≡ l.at + (l.n - l.left)) × (length l.out ≡ length l.initial.out) × (unpack l.out ≡ sets (unpack l.initial.out) l.at (bits_of (l.n - l.left) (l.v / 2 ^ l.left)))

abbrev pub decreases-loop-left : goal.decreases-loop-left
decreases-loop-left l = l.left
