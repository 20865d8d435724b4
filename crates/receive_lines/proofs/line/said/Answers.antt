-- `receive_lines::line::said` meets its contract, test by test.
-- Assumes nothing.
use mathlib.Core.Path.{◌≡◌, sym, ◌∙◌}
use lib.ListN.{length}
use borrow.Author.Tests.{eqb-true, eqb-false}
use Rattle.laws.proofs.WroteLaws.{wrote_none}
use Rattle.texts.specs.Hex.{read_of}
use Rattle.texts.specs.Say.{line_room}
use Rattle.texts.proofs.HexLaws.{read_front}
use Rattle.receive_lines.proofs.LineLaws.{paired, line_none, line_unread, line_heard, left_none, left_unread, left_heard}
use Rattle.receive_lines.proofs.line.said.Goals as goal

pub returns-then-is_empty : goal.returns-then-is_empty
returns-then-is_empty c =
    let a = c.args in
    let empty = eqb-true (length a.line.now) 0 (sym c.is_empty.ensures ∙ c.if-is_empty.true) in
    (rw (line_none a.reading.mended a.reading.field a.number a.receiver a.store.now a.line.now empty) wrote_none, left_none a.reading.field a.receiver a.store.now a.line.now empty)

pub returns-in-Err : goal.returns-in-Err
returns-in-Err c =
    let read = c.read_hex-read in
    let a = c.args in
    let some = eqb-false (length a.line.now) 0 (sym c.is_empty.ensures ∙ c.if-is_empty.false) in
    let told = c.in-Err.is in
    let is : read.result ≡ read_of line_room a.line.now = rw (← c.zeros-frame.ensures) at read.ensures.0 in (
      rw (line_unread a.reading.mended a.reading.field a.number a.receiver a.store.now a.line.now some read.result is _ told) c.put_unread.ensures,
      left_unread a.reading.field a.receiver a.store.now a.line.now some read.result is _ told,
    )

pub returns-in-Ok : goal.returns-in-Ok
returns-in-Ok c =
    let read = c.read_hex-read in
    let a = c.args in
    let some = eqb-false (length a.line.now) 0 (sym c.is_empty.ensures ∙ c.if-is_empty.false) in
    let told = c.in-Ok.is in
    let is : read.result ≡ read_of line_room a.line.now = rw (← c.zeros-frame.ensures) at read.ensures.0 in
    let bytes = read_front line_room a.line.now _ _ read.result _ is read.ensures.1 told (sym c.zeros-frame.ensures) in
    let left = rw (c.front.ensures ∙ bytes) at c.heard.ensures in (
      rw (line_heard a.reading.mended a.reading.field a.number a.receiver a.store.now a.line.now some read.result is _ told) left.0,
      paired left.1 left.2 (left_heard a.reading.field a.receiver a.store.now a.line.now some read.result is _ told),
    )
