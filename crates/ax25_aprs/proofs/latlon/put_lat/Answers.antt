-- `ax25_aprs::latlon::put_lat` meets its contract.
-- Assumes nothing.
use native.Mathlib.Omega.{arith}
use lib.ListN.{get_or}
use Rattle.laws.proofs.WroteLaws.{wrote_then}
use Rattle.ax25_aprs.specs.LatLon.{lat_bits}
use Rattle.ax25_aprs.proofs.Sizes.{side_size}
use Rattle.ax25_aprs.proofs.latlon.put_lat.Goals as goal

pub put_table-requires : goal.put_table-requires
put_table-requires c =
    let s = c.args.s.now in
    omega (arith, c.push_bfi-p.ensures.value, c.put_side-q.ensures.next_is, side_size 0x4E 0x53 (get_or s 7 0))

pub returns : goal.returns
unfolding lat_bits
returns c =
    rw (← c.lat.ensures)
    (wrote_then c.push_bfi-p.ensures.wrote (wrote_then c.put_side-q.ensures c.put_table.ensures))
