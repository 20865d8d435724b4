-- `ax25_aprs::runs::plain_to` meets its contract. From the first place to i all is plain.
-- Assumes nothing.
use mathlib.Core.Path.{◌≡◌}
use Prim.Native.Nat.{◌+◌}
use lib.ListN.{drop}
use Rattle.ax25_aprs.specs.Runs.{plain_len}
use Rattle.ax25_aprs.proofs.runs.plain_to.Given as goal

abbrev pub invariant-loop-i : goal.invariant-loop-i
invariant-loop-i l = l.i + plain_len (drop l.i l.s) ≡ l.from + plain_len (drop l.from l.s)
