-- What `receive` says of a line, by the reading in which it decodes messages.
-- Assumes nothing.
use Rattle.std.specs.Prelude.{Result, Ok, Err, Bool, List, [], ◌∷◌, ◌++◌, ℕ, length, eqb}
use Rattle.laws.specs.Pick.{pick}
use Rattle.laws.specs.Text.{ascii}
use Rattle.refusals.specs.Outcome.{Outcome, refused, answer}
use Rattle.ax25_address.specs.Types.{call_len}
use Rattle.kiss.specs.Codec.{Decoded, decode_of}
use Rattle.receiver.specs.Join.{After, Heard, dropped, more, done}
use Rattle.receiver.specs.Join as join
use Rattle.receiver.specs.Tally.{push_tallied}
use Rattle.receiver.specs.declared.Reassembler.{Reassembler}
use Rattle.texts.specs.Hex.{bytes_of, read_of}
use Rattle.texts.specs.Say.{line_room, spelled_of, refusal_line, read_or}
use Rattle.texts.specs.Show.{shown}
use Rattle.texts.specs.declared.hex.HexError.{HexError}
use Rattle.monitor.specs.Monitor.{monitor_of}

-- ---- a finished message

-- generic bytes as they are shown, frames as a monitor prints them
unfoldable pub readable_of : ℕ → List ℕ → List ℕ
readable_of command d = pick (eqb command 2) (shown d) (monitor_of (call_len command) d)

-- "done" and the line that `send` takes; then, after two blanks, what people read
unfoldable pub done_text : ℕ → List ℕ → List ℕ
done_text command d =
    ascii "done " ++ (spelled_of command d ++ ((10 ∷ 32 ∷ 32 ∷ []) ++ (readable_of command d ++ (10 ∷ []))))

unfoldable pub decoded_text : Outcome Decoded → List ℕ
decoded_text (refused n) = refusal_line n
decoded_text (answer d) = done_text d.command d.bytes

-- ---- what the receiver answers

unfoldable pub heard_text : Bool → Heard → List ℕ
heard_text mended (join.refused n) = refusal_line n
heard_text mended (dropped c) = ascii "dropped" ++ (10 ∷ [])
heard_text mended more = ascii "more" ++ (10 ∷ [])
heard_text mended (done n m) = decoded_text (decode_of mended m)

-- ---- a line

-- nothing is said of an empty line
unfoldable pub line_text : Bool → ℕ → ℕ → Reassembler → List ℕ → List ℕ → List ℕ
line_text mended field number r store line =
    pick (eqb (length line) 0) []
    (read_or number (heard_text mended (push_tallied r store (bytes_of line) field).heard) (read_of line_room line))

-- the receiver and the store afterwards: as they were where no frame was read
unfoldable pub left_by : Reassembler × List ℕ → After Reassembler → Result ℕ HexError → Reassembler × List ℕ
left_by before a (Ok n) = (a.receiver, a.store)
left_by before a (Err e) = before

unfoldable pub line_left : ℕ → Reassembler → List ℕ → List ℕ → Reassembler × List ℕ
line_left field r store line =
    pick (eqb (length line) 0) (r, store) (left_by (r, store) (push_tallied r store (bytes_of line) field) (read_of line_room line))
