-- `texts::hex::put_hex` meets its contract. The digits of the first bytes are written.
-- Assumes nothing.
use mathlib.Core.List.{flat_map}
use Prim.Native.Nat.{◌+◌, ◌*◌, ◌≤◌}
use lib.ListN.{take}
use Rattle.laws.specs.Wrote.{Wrote}
use Rattle.texts.specs.Hex.{hex_byte}
use Rattle.texts.proofs.hex.put_hex.Given as goal

abbrev pub invariant-loop-x : goal.invariant-loop-x
invariant-loop-x l = (l.next ≤ l.at + l.x-index * 2) × Wrote l.initial.out l.at (flat_map hex_byte (take l.x-index l.s)) l.out l.next
