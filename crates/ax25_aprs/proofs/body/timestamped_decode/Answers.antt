-- `ax25_aprs::body::timestamped_decode` meets its contract.
-- Assumes nothing.
use native.Mathlib.Omega.{arith}
use borrow.Author.Rules.{rules}
use mathlib.Core.Path.{sym, ◌∙◌}
use Rattle.laws.proofs.WroteLaws.{wrote_then}
use native.Mathlib.Nat.{add-zero}
use lib.ListN.{drop}
use lib.Seq.{drop-drop}
use Rattle.laws.specs.Bits.{unpack}
use Rattle.ax25_aprs.proofs.TextLaws.{length_padded}
use Rattle.ax25_aprs.specs.LatLon.{read_latlon}
use Rattle.ax25_aprs.proofs.PlaceLaws.{field_at, timestamped_none, timestamped_some}
use Rattle.ax25_aprs.proofs.PartLaws.{reads_then}
use Rattle.ax25_aprs.proofs.ValueLaws.{told_is, told_few}
use Rattle.ax25_aprs.proofs.body.timestamped_decode.Goals as goal

pub returns-in_err-time : goal.returns-in_err-time
returns-in_err-time c =
    let a = c.args in
    let u = unpack a.s.now in
    rw (timestamped_none (drop a.at u) (told_few u a.at 20 (sym c.take_at.ensures ∙ c.in_err-time.was))) c.from_residual.ensures

pub byte-after-requires : goal.byte-after-requires
byte-after-requires c =
    omega (arith, c.byte-p.ensures.next_is, c.put_padded-q.ensures.next_is, length_padded 6 c.in_ok-time.time)

pub latlon_decode-requires : goal.latlon_decode-requires
latlon_decode-requires c =
    let got = told_is (unpack c.args.s.now) c.args.at 20 _ _ (sym c.take_at.ensures ∙ c.in_ok-time.was) in
    (search rules, omega (arith, got.next_is), omega (arith, c.byte-p.ensures.next_is, c.put_padded-q.ensures.next_is, length_padded 6 c.in_ok-time.time, c.byte-after.ensures.next_is))

pub returns : goal.returns
returns c =
    let a = c.args in
    let u = unpack a.s.now in
    let got = told_is u a.at 20 _ _ (sym c.take_at.ensures ∙ c.in_ok-time.was) in
    rw (timestamped_some (drop a.at u) got.enough, field_at a.at 0 20 u, add-zero a.at, ← got.value_is, drop-drop 20 a.at u, ← got.next_is)
    (reads_then (wrote_then c.byte-p.ensures (wrote_then c.put_padded-q.ensures c.byte-after.ensures)) (read_latlon (drop c.in_ok-time.next u)) _ _ c.latlon_decode.ensures)
