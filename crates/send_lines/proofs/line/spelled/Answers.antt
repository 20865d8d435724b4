-- `send_lines::line::spelled` meets its contract.
-- Assumes nothing.
use mathlib.Core.Path.{◌≡◌, sym, ◌∙◌}
use Rattle.texts.specs.Hex.{read_of}
use Rattle.texts.proofs.HexLaws.{read_front}
use Rattle.texts.specs.Say.{line_room, read_or}
use Rattle.send_lines.specs.Line.{spelled_text}
use Rattle.send_lines.proofs.line.spelled.Goals as goal

pub returns-in-Ok : goal.returns-in-Ok
unfolding spelled_text read_or
returns-in-Ok c =
    let read = c.read_hex-read in
    let text = c.args.text.now in
    let told = c.in-Ok.is in
    let is : read.result ≡ read_of line_room text = rw (← c.zeros-data.ensures) at read.ensures.0 in
    let bytes = read_front line_room text _ _ read.result _ is read.ensures.1 told (sym c.zeros-data.ensures) in
    rw (← is, told) (rw (c.front.ensures ∙ bytes) at c.of_data.ensures)

pub returns-in-Err : goal.returns-in-Err
unfolding spelled_text read_or
returns-in-Err c =
    let read = c.read_hex-read in
    let is : read.result ≡ read_of line_room c.args.text.now = rw (← c.zeros-data.ensures) at read.ensures.0 in
    rw (← is, c.in-Err.is) (rw c.in-Err.is at c.put_unread.ensures)
