-- `ax25_body::body::aprs_encode` meets its contract: `&s[1..]` is what follows the type byte.
-- Assumes nothing.
use Rattle.laws.proofs.ListLaws.{from_place}
use Rattle.ax25_body.proofs.CodeLaws.{code_text_lem, code_position, code_timestamped, code_other}
use borrow.Author.Rules.{rules}
use Rattle.ax25_body.proofs.body.aprs_encode.Goals as goal

pub returns-in-Text : goal.returns-in-Text
returns-in-Text c =
    let a = c.args in
    rw (code_text_lem a.typ a.l a.s.now c.in-Text.is) c.text_encode.ensures

pub returns-in-Position : goal.returns-in-Position
returns-in-Position c =
    let a = c.args in
    rw (code_position a.typ a.l a.s.now c.in-Position.is) (rw (from_place a.s.now 1) at c.latlon_encode.ensures)

pub returns-in-TimestampedPosition : goal.returns-in-TimestampedPosition
returns-in-TimestampedPosition c =
    let a = c.args in
    rw (code_timestamped a.typ a.l a.s.now c.in-TimestampedPosition.is) (rw (from_place a.s.now 1) at c.timestamped_encode.ensures)

pub returns-in_default : goal.returns-in_default
returns-in_default c =
    let a = c.args in
    rw (code_other a.typ a.l a.s.now (c.in_default.not-Text, c.in_default.not-Position, c.in_default.not-TimestampedPosition)) (rw (from_place a.s.now 1) at c.message_encode.ensures)
