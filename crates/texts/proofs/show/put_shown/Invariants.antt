-- `texts::show::put_shown` meets its contract. The first bytes are shown.
-- Assumes nothing.
use mathlib.Core.List.{flat_map}
use Prim.Native.Nat.{◌+◌, ◌*◌, ◌≤◌}
use lib.ListN.{take}
use Rattle.laws.specs.Wrote.{Wrote}
use Rattle.texts.specs.Show.{shown_byte}
use Rattle.texts.proofs.show.put_shown.Given as goal

abbrev pub invariant-loop-x : goal.invariant-loop-x
invariant-loop-x l = (l.next ≤ l.at + l.x-index * 6) × Wrote l.initial.out l.at (flat_map shown_byte (take l.x-index l.s)) l.out l.next
