-- `ax25_aprs::number::digit` meets its contract. The loop has dropped as many digits as it has run.
-- Assumes nothing.
use native.Mathlib.Numerals.{add-one}
use native.Mathlib.Nat.{pow-suc, div-div-eq-div-mul}
use Prim.Native.Nat.{◌^◌}
use Rattle.ax25_aprs.proofs.number.digit.Goals as goal

pub loop-preserved : goal.loop-preserved
loop-preserved c = rw (add-one, pow-suc, ← div-div-eq-div-mul c.args.v (10 ^ c.loop.counter) 10, ← c.loop.invariant)
