-- `ax25_aprs::third::collect` meets its contract: none of the bytes before j is a stop byte.
-- Assumes nothing.
use Prim.Native.Nat.{◌-◌, ◌≤◌}
use lib.ListN.{length}
use Rattle.ax25_aprs.proofs.FieldLaws.{Free}
use Rattle.ax25_aprs.proofs.third.collect.Given as goal

abbrev pub invariant-loop-j : goal.invariant-loop-j
invariant-loop-j l = (l.j ≤ l.k) × (l.j ≤ length l.d) × Free l.stop l.j l.d

abbrev pub decreases-loop-j : goal.decreases-loop-j
decreases-loop-j l = length l.d - l.j
