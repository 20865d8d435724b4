-- `ax25_aprs::latlon::latlon_decode` meets its contract.
-- Assumes nothing.
use native.Mathlib.Omega.{arith}
use borrow.Author.Rules.{rules}
use mathlib.Core.Path.{subst}
use lib.ListN.{drop}
use Rattle.laws.specs.Bits.{unpack}
use Rattle.laws.proofs.WroteLaws.{wrote_then}
use Rattle.ax25_aprs.specs.Place.{Placed}
use Rattle.ax25_aprs.proofs.PlaceLaws.{latlon_none}
use Rattle.ax25_aprs.proofs.PlacedLaws.{table_small, listed_small, symbol_small, place_size, latlon_found}
use Rattle.ax25_aprs.proofs.PartLaws.{reads}
use Rattle.ax25_aprs.proofs.latlon.latlon_decode.Goals as goal

pub returns-in_err-x : goal.returns-in_err-x
returns-in_err-x c =
    let a = c.args in
    let u = unpack a.s.now in
    rw (latlon_none (drop a.at u) (subst (λ f. Placed u a.at f) c.in_err-x.was c.place_at.ensures)) c.from_residual.ensures

pub put_place-p-requires : goal.put_place-p-requires
put_place-p-requires c =
    let a = c.args in
    let u = unpack a.s.now in
    let h = subst (λ f. Placed u a.at f) c.in_ok-x.was c.place_at.ensures in
    (table_small _ _ _ h, listed_small _ _ _ h, symbol_small _ _ _ h, search rules)

pub text_decode-requires : goal.text_decode-requires
text_decode-requires c = (search rules, omega (arith, c.put_place-p.ensures.next_is, place_size c.in_ok-x.x))

pub returns : goal.returns
returns c =
    let a = c.args in
    let u = unpack a.s.now in
    let h = subst (λ f. Placed u a.at f) c.in_ok-x.was c.place_at.ensures in
    rw (latlon_found u a.at _ h) (reads (wrote_then c.put_place-p.ensures c.text_decode.ensures))
