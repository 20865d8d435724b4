-- `ax25_aprs::latlon::put_lon` meets its contract.
-- Assumes nothing.
use native.Mathlib.Omega.{arith}
use lib.ListN.{get_or}
use Rattle.laws.proofs.WroteLaws.{wrote_then}
use Rattle.ax25_aprs.specs.LatLon.{lon_bits}
use Rattle.ax25_aprs.proofs.Sizes.{side_size}
use Rattle.ax25_aprs.proofs.latlon.put_lon.Goals as goal

pub push_bfi-requires : goal.push_bfi-requires
push_bfi-requires c =
    let s = c.args.s.now in
    omega (arith, c.push_bfi-p.ensures.value, c.put_side-q.ensures.next_is, side_size 0x57 0x45 (get_or s 17 0))

pub returns : goal.returns
unfolding lon_bits
returns c =
    rw (← c.lon.ensures, ← c.from.ensures)
    (wrote_then c.push_bfi-p.ensures.wrote (wrote_then c.put_side-q.ensures c.push_bfi.ensures.wrote))
