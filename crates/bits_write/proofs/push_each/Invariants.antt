-- `bits_write::push_each` meets its contract: so many bytes are written.
-- Assumes nothing.
use mathlib.Core.Path.{◌≡◌}
use Prim.Native.Nat.{◌+◌, ◌*◌}
use lib.ListN.{take}
use Rattle.laws.specs.Bits.{unpack}
use Rattle.laws.specs.Wrote.{Wrote}
use Rattle.bits_write.specs.Text7.{bits_each}
use Rattle.bits_write.proofs.push_each.Given as goal

abbrev pub invariant-loop-x : goal.invariant-loop-x
invariant-loop-x l = (l.pos ≡ l.at + l.x-index * l.n) × Wrote (unpack l.initial.out) l.at (bits_each l.n (take l.x-index l.s)) (unpack l.out) l.pos
