-- `ax25_aprs::text::with_altitude` meets its contract.
-- Assumes nothing.
use mathlib.Core.Path.{◌≡◌, sym, ◌∙◌}
use Rattle.std.proofs.Common.{None, Some}
use lib.ListN.{take, drop}
use Rattle.ax25_aprs.specs.Text.{altitude, altitude_bits}
use Rattle.laws.proofs.WroteLaws.{wrote_then}
use Rattle.ax25_aprs.proofs.Steps.{stepped}
use Rattle.ax25_aprs.proofs.text.with_altitude.Goals as goal

pub returns-in_err-a : goal.returns-in_err-a
unfolding altitude_bits
returns-in_err-a c =
    let no : altitude (take 4 (drop 5 c.args.s.now)) ≡ None = sym c.read.ensures ∙ c.in_err-a.was in
    rw no c.from_residual.ensures

pub returns : goal.returns
unfolding altitude_bits
returns c =
    let yes : altitude (take 4 (drop 5 c.args.s.now)) ≡ Some c.in_ok-a.a = sym c.read.ensures ∙ c.in_ok-a.was in
    rw yes (stepped 9 (wrote_then c.push-next.ensures.wrote c.push_bfi.ensures.wrote))
