-- `ax25_aprs::runs::calm` meets its contract. Where no byte of the first k may stop the run, it goes on there.
-- Assumes nothing.
use mathlib.Core.Path.{◌≡◌}
use mathlib.Core.Bool.{false}
use Prim.Native.Nat.{◌+◌}
use lib.ListN.{drop}
use Rattle.ax25_aprs.specs.Runs.{plain_len}
use Rattle.ax25_aprs.proofs.runs.calm.Given as goal

abbrev pub invariant-loop-k : goal.invariant-loop-k
invariant-loop-k l = l.stop ≡ false → plain_len (drop l.i l.s) ≡ l.k + plain_len (drop (l.i + l.k) l.s)
