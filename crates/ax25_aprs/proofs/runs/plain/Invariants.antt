-- `ax25_aprs::runs::plain` meets its contract. Before i all is plain.
-- Assumes nothing.
use mathlib.Core.Path.{◌≡◌}
use Prim.Native.Nat.{◌+◌, ◌-◌, ◌≤◌}
use lib.ListN.{length, drop}
use Rattle.ax25_aprs.specs.Runs.{plain_len}
use Rattle.ax25_aprs.proofs.runs.plain.Given as goal

abbrev pub invariant-loop-i : goal.invariant-loop-i
invariant-loop-i l = (l.i ≤ length l.s) × (l.i + plain_len (drop l.i l.s) ≡ plain_len l.s)

abbrev pub decreases-loop-i : goal.decreases-loop-i
decreases-loop-i l = length l.s - l.i
