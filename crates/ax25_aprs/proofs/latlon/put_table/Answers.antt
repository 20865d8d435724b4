-- `ax25_aprs::latlon::put_table` meets its contract.
-- Assumes nothing.
use native.Mathlib.Omega.{arith}
use Prim.Native.Nat.{◌≤◌, ◌<◌}
use Rattle.laws.proofs.WroteLaws.{wrote_then}
use Rattle.ax25_aprs.specs.LatLon.{table_code}
use Rattle.ax25_aprs.proofs.PlaceLaws.{table_listed, table_other}
use Rattle.ax25_aprs.proofs.latlon.put_table.Goals as goal

pub returns-in-Some : goal.returns-in-Some
returns-in-Some c =
    let a = c.args in
    let told = c.in-Some.ensures in
    let h : table_code a.c < 8 = omega (arith, told) in
    rw (table_listed a.c h, told.0) (wrote_then c.bit-next.ensures c.push.ensures.wrote)

pub returns-in-None : goal.returns-in-None
returns-in-None c =
    let a = c.args in
    let h : 8 ≤ table_code a.c = omega (arith, c.in-None.ensures) in
    rw (table_other a.c h, ← c.from.ensures) (wrote_then c.bit-next-in-None.ensures c.push_bfi.ensures.wrote)
