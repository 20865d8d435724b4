-- `ax25_aprs::latlon::latlon_encode` meets its contract.
-- Assumes nothing.
use native.Mathlib.Omega.{arith}
use mathlib.Core.Path.{refl}
use mathlib.Core.Bool.{true}
use lib.ListN.{drop, length-drop}
use Rattle.laws.proofs.ListLaws.{from_place}
use Rattle.laws.proofs.WroteLaws.{wrote_then}
use Rattle.ax25_aprs.specs.Coded.{or_refused}
use Rattle.ax25_aprs.specs.Text.{text_bits}
use Rattle.ax25_aprs.proofs.PartLaws.{does_then}
use Rattle.ax25_aprs.proofs.PlaceLaws.{latlon_short, latlon_long}
use Rattle.ax25_aprs.proofs.Sizes.{lat_size, lon_size}
use Rattle.ax25_aprs.proofs.latlon.latlon_encode.Goals as goal

pub returns-then-s-lt19 : goal.returns-then-s-lt19
returns-then-s-lt19 c = rw (latlon_short c.args.s.now c.if-s-lt19.true) refl

pub put_lon-q-requires : goal.put_lon-q-requires
put_lon-q-requires c =
    omega (arith, c.put_lat-p.ensures.next_is, lat_size c.args.s.now)

pub text_encode-requires : goal.text_encode-requires
text_encode-requires c =
    let s = c.args.s.now in
    rw (from_place s 19) (omega (arith, length-drop 19 s, c.put_lat-p.ensures.next_is, lat_size s, c.put_lon-q.ensures.next_is, lon_size s))

pub returns : goal.returns
returns c =
    let s = c.args.s.now in
    rw (latlon_long s c.if-s-lt19.false)
    (does_then (wrote_then c.put_lat-p.ensures c.put_lon-q.ensures) (or_refused 5 (text_bits true (drop 19 s))) _ _ (rw (from_place s 19) at c.text_encode.ensures))
