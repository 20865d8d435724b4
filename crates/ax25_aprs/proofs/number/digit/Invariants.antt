-- `ax25_aprs::number::digit` meets its contract. The loop has dropped as many digits as it has run.
-- Assumes nothing.
use mathlib.Core.Path.{◌≡◌}
use Prim.Native.Nat.{◌/◌, ◌^◌}
use Rattle.ax25_aprs.proofs.number.digit.Given as goal

abbrev pub invariant-loop : goal.invariant-loop
invariant-loop l = l.w ≡ l.v / 10 ^ l.counter
