-- `ax25_aprs::body::timestamped_encode` meets its contract.
-- Assumes nothing.
use mathlib.Core.Path.{refl}
use lib.ListN.{drop}
use Rattle.laws.proofs.ListLaws.{from_place}
use Rattle.ax25_aprs.specs.LatLon.{latlon_bits}
use Rattle.ax25_aprs.proofs.PartLaws.{does_then}
use Rattle.ax25_aprs.proofs.PlaceLaws.{timestamped_short, timestamped_is}
use Rattle.ax25_aprs.proofs.body.timestamped_encode.Goals as goal

pub returns-then-s-lt7 : goal.returns-then-s-lt7
returns-then-s-lt7 c = rw (timestamped_short c.args.s.now c.if-s-lt7.true) refl

pub returns : goal.returns
returns c =
    let s = c.args.s.now in
    rw (timestamped_is s, ← c.vb_val.ensures)
    (does_then c.push_bfi-p.ensures.wrote (latlon_bits (drop 7 s)) _ _ (rw (from_place s 7) at c.latlon_encode.ensures))
