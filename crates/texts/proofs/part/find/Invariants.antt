-- `texts::part::find` meets its contract. No byte that was passed is b.
-- Assumes nothing.
use mathlib.Core.Path.{◌≡◌}
use Prim.Native.Nat.{◌+◌}
use lib.ListN.{length, drop}
use Rattle.texts.specs.Part.{before}
use Rattle.texts.proofs.part.find.Given as goal

abbrev pub invariant-loop-i : goal.invariant-loop-i
invariant-loop-i l = l.from + length (before l.b (drop l.from l.s)) ≡ l.i + length (before l.b (drop l.i l.s))
