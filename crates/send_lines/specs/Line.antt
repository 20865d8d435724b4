-- What `send` and `price` say of a line.
-- Assumes nothing.
use Rattle.std.specs.Prelude.{◌≡◌, Result, Ok, Err, Bool, true, false, List, [], ◌∷◌, ◌++◌, ℕ, zero, suc, ◌+◌, ◌≤◌, length, eqb, ltb}
use Rattle.laws.specs.Pick.{pick}
use Rattle.laws.specs.Text.{ascii, same}
use Rattle.laws.specs.Wrote.{Wrote}
use Rattle.refusals.specs.Outcome.{Outcome, refused, answer, number}
use Rattle.refusals.specs.declared.Refusal.{Refusal}
use Rattle.frame.specs.Frame.{build_of}
use Rattle.frame.specs.declared.Control.{Control}
use Rattle.sender.specs.Send.{count_for, send_of}
use Rattle.ax25.specs.Encode.{Coded}
use Rattle.kiss.specs.Codec.{code_of}
use Rattle.preview.specs.declared.Price.{Price}
use Rattle.preview.specs.Preview.{preview_of}
use Rattle.texts.specs.Hex.{hex_of, bytes_of, read_of}
use Rattle.texts.specs.Number.{numeral_of}
use Rattle.texts.specs.Part.{before, behind}
use Rattle.texts.specs.Say.{command_of, line_room, refusal_line, error_line, read_or}
use Rattle.send_lines.specs.declared.Task.{Task}
use Rattle.send_lines.specs.declared.Task.TheVariants as task

-- frames are built with reply 0, not compressed, hint 0
abbrev pub plain : Control
plain = record { reply = 0; compressed = false; hint = 0 }

-- and marker 01
abbrev pub marker : ℕ
marker = 1

-- ---- a message

-- the frame of fragment k
unfoldable pub framed_of : ℕ → Outcome (List ℕ) → Outcome (List ℕ)
framed_of field (refused n) = refused n
framed_of field (answer f) = build_of field f plain marker

-- a frame as a line before the others, or a refusal instead of all of them
unfoldable pub lined_by : Outcome (List ℕ) → List ℕ → List ℕ
lined_by (refused n) others = refusal_line n
lined_by (answer f) others = (hex_of f ++ (10 ∷ [])) ++ others

-- n frames from fragment k on
unfoldable pub frames_of : List ℕ → ℕ → ℕ → ℕ → ℕ → List ℕ
frames_of message field mask zero k = []
frames_of message field mask (suc n) k = lined_by (framed_of field (send_of message field mask k)) (frames_of message field mask n (k + 1))

unfoldable pub counted_text : List ℕ → ℕ → ℕ → Outcome ℕ → List ℕ
counted_text message field mask (refused n) = refusal_line n
counted_text message field mask (answer count) = frames_of message field mask count 0

unfoldable pub coded_text : ℕ → ℕ → Outcome Coded → List ℕ
coded_text field mask (refused n) = refusal_line n
coded_text field mask (answer c) = counted_text c.bytes field mask (count_for (length c.bytes) field)

-- data under a command: the frames of all fragments, or the first refusal
unfoldable pub data_text : ℕ → ℕ → ℕ → List ℕ → List ℕ
data_text field mask command d = coded_text field mask (code_of command d)

-- ---- what `price` says of data

-- "N bytes, K frames", always the plural
unfoldable pub price_line : Price → List ℕ
price_line p = numeral_of p.length ++ (ascii " bytes, " ++ (numeral_of p.count ++ (ascii " frames" ++ (10 ∷ []))))

-- a price as a line, or its refusal
unfoldable pub priced_text : Outcome Price → List ℕ
priced_text (refused n) = refusal_line n
priced_text (answer p) = price_line p

-- data under a command: the price, or the first refusal
unfoldable pub price_text : ℕ → ℕ → ℕ → List ℕ → List ℕ
price_text field mask command d = priced_text (preview_of command d field mask)

-- ---- a line

-- `price` and not `send`
abbrev pub is_price : Task → Bool
is_price task.Send = false
is_price task.Price = true

-- what `price` says of data under a command where `priced` is true, else what `send` says
unfoldable pub said_of : Bool → ℕ → ℕ → ℕ → List ℕ → List ℕ
said_of priced field mask command d = pick priced (price_text field mask command d) (data_text field mask command d)

-- bytes in hexadecimal under a command
unfoldable pub spelled_text : Bool → ℕ → ℕ → ℕ → ℕ → List ℕ → List ℕ
spelled_text priced field mask number command s = read_or number (said_of priced field mask command (bytes_of s)) (read_of line_room s)

-- `text TEXT`, or a command and hexadecimal. Nothing is said of an empty line
unfoldable pub line_text : Bool → ℕ → ℕ → ℕ → List ℕ → List ℕ
line_text priced field mask number line =
    pick (eqb (length line) 0) []
    (pick (same (before 32 line) (ascii "text")) (said_of priced field mask 2 (behind 32 line))
    (pick (ltb 2 (command_of (before 32 line))) (error_line number (ascii "unknown command"))
    (spelled_text priced field mask number (command_of (before 32 line)) (behind 32 line))))

-- ---- what `one` and `framed` answer: a line is written, of at most 1,031 bytes, or the refusal is told and nothing is written

abbrev pub Sends : List ℕ → ℕ → Outcome (List ℕ) → List ℕ → Result ℕ Refusal → Type 0
Sends b at (refused n) d (Err e) = (n ≡ number e) × (d ≡ b)
Sends b at (refused n) d (Ok p) = ⊥
Sends b at (answer f) d (Err e) = ⊥
Sends b at (answer f) d (Ok p) = Wrote b at (hex_of f ++ (10 ∷ [])) d p × (p ≤ at + 1031)
