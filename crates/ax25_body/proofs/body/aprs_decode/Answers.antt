-- `ax25_body::body::aprs_decode` meets its contract.
-- Assumes nothing.
use Rattle.ax25_aprs.proofs.PartLaws.{reads}
use lib.ListN.{drop}
use Rattle.laws.specs.Bits.{unpack}
use Rattle.ax25_body.proofs.BodyLaws.{read_text_lem, read_position_lem, read_timestamped_lem, read_other}
use borrow.Author.Rules.{rules}
use Rattle.ax25_body.proofs.body.aprs_decode.Goals as goal

pub returns-in-Text : goal.returns-in-Text
returns-in-Text c =
    let a = c.args in
    rw (read_text_lem a.mended a.typ a.l (drop a.at (unpack a.s.now)) c.in-Text.is) (reads c.text_decode.ensures)

pub returns-in-Position : goal.returns-in-Position
returns-in-Position c =
    let a = c.args in
    rw (read_position_lem a.mended a.typ a.l (drop a.at (unpack a.s.now)) c.in-Position.is) c.position_decode.ensures

pub returns-in-TimestampedPosition : goal.returns-in-TimestampedPosition
returns-in-TimestampedPosition c =
    let a = c.args in
    rw (read_timestamped_lem a.mended a.typ a.l (drop a.at (unpack a.s.now)) c.in-TimestampedPosition.is) c.timestamped_decode.ensures

pub returns-in_default : goal.returns-in_default
returns-in_default c =
    let a = c.args in
    rw (read_other a.mended a.typ a.l (drop a.at (unpack a.s.now)) (c.in_default.not-Text, c.in_default.not-Position, c.in_default.not-TimestampedPosition)) c.message_decode.ensures
