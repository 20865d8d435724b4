-- `ax25_aprs::runs::calm` meets its contract. Where no byte of the first k may stop the run, it goes on there.
-- Assumes nothing.
use native.Mathlib.Omega.{arith}
use mathlib.Core.Path.{◌≡◌, sym, ap, ◌∙◌}
use Prim.Native.Nat.{ℕ, ◌+◌}
use lib.ListN.{drop}
use Rattle.laws.proofs.Cases.{or_left, or_right}
use Rattle.ax25_aprs.specs.Runs.{plain_len}
use Rattle.ax25_aprs.proofs.RunLaws.{run_calm}
use Rattle.ax25_aprs.proofs.runs.calm.Goals as goal

pub loop-k-preserved : goal.loop-k-preserved
loop-k-preserved c =
    let a = c.args in
    let s = a.s.now in
    let k = c.loop-k.k in
    let stop = c.loop-k.stop in
    let r = c.may_stop-stop.result in
    let next : a.i + k + 1 ≡ a.i + (k + 1) = omega arith in
    λ e.
    let here = run_calm s (a.i + k) (omega arith) (sym c.may_stop-stop.ensures ∙ or_right stop r e) in
    omega (arith, c.loop-k.invariant (or_left stop r e), here, ap (λ (j : ℕ). plain_len (drop j s)) next)
