-- `texts::part::piece` meets its contract. After some pieces the rest starts at the place.
-- Assumes nothing.
use mathlib.Core.Path.{◌≡◌}
use Prim.Native.Nat.{◌-◌, ◌≤◌}
use lib.ListN.{length, drop}
use Rattle.texts.specs.Part.{piece_of}
use Rattle.texts.proofs.part.piece.Given as goal

abbrev pub invariant-loop : goal.invariant-loop
invariant-loop l = (l.at ≤ length l.s) × (piece_of l.b (l.k - l.counter) (drop l.at l.s) ≡ piece_of l.b l.k l.s)
