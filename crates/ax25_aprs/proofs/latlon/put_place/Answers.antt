-- `ax25_aprs::latlon::put_place` meets its contract.
-- Assumes nothing.
use native.Mathlib.Omega.{arith}
use borrow.Author.Rules.{rules}
use Rattle.laws.proofs.WroteLaws.{wrote_then}
use Rattle.ax25_aprs.specs.Place.{place_text}
use Rattle.ax25_aprs.proofs.PlacedLaws.{half_size}
use Rattle.ax25_aprs.proofs.latlon.put_place.Goals as goal

pub put_half-requires : goal.put_half-requires
put_half-requires c =
    let x = c.args.x in
    (search rules, search rules, search rules, omega (arith, c.put_half-p.ensures.next_is, half_size 4 6 x.lat c.side_of-north.result c.table_of-table.result))

pub returns : goal.returns
unfolding place_text
returns c =
    rw (← c.side_of-north.ensures, ← c.table_of-table.ensures, ← c.side_of-west.ensures)
    (wrote_then c.put_half-p.ensures c.put_half.ensures)
