-- `ax25_aprs::runs::plain` meets its contract. Before i all is plain.
-- Assumes nothing.
use native.Mathlib.Omega.{arith}
use mathlib.Core.Path.{◌≡◌, ap}
use Prim.Native.Nat.{ℕ, ◌+◌}
use lib.ListN.{drop}
use Rattle.ax25_aprs.specs.Runs.{plain_len}
use Rattle.ax25_aprs.proofs.RunLaws.{run_le, run_later}
use Rattle.ax25_aprs.proofs.runs.plain.Goals as goal

pub loop-i-preserved : goal.loop-i-preserved
loop-i-preserved c =
    let s = c.args.s.now in
    let i = c.loop-i.i in
    let block = c.plain_block-n in
    let on : block.result ≡ i + 16 = omega (arith, block.ensures, c.if-n-i.false) in
    let more = run_later s i 16 (omega (arith, block.ensures, c.if-n-i.false)) in
    (omega arith, omega (arith, c.loop-i.invariant.1, more, on, ap (λ (j : ℕ). plain_len (drop j s)) on))

pub returns : goal.returns
returns c =
    let s = c.args.s.now in
    let all : c.plain_to.result ≡ plain_len s = omega (arith, c.plain_to.ensures, c.loop-i.invariant.1, run_le s) in
    (all, omega (arith, all, run_le s))
