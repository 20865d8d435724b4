-- What is said of a line.
-- Assumes nothing.
use Rattle.std.specs.Prelude.{List, [], ◌∷◌, ◌++◌, ℕ, length, eqb, ltb}
use Rattle.std.specs.Prelude.{Option, None, Some, Result, Ok, Err}
use Rattle.laws.specs.Pick.{pick}
use Rattle.laws.specs.Text.{ascii, same}
use Rattle.texts.specs.Hex.{hex_of}
use Rattle.texts.specs.Number.{numeral_of}
use Rattle.texts.specs.Part.{piece_of}
use Rattle.texts.specs.declared.hex.HexError.{HexError}
use Rattle.texts.specs.declared.hex.HexError.TheVariants.{NoDigit, Odd, TooLong}

-- the word of a command: 0 `Ax25`, 1 `Ax25Long`, 2 `Generic`
unfoldable pub word_of : ℕ → List ℕ
word_of command = piece_of 124 command (ascii "ax25|long|generic")

-- the command of a word, 3 where it is none
unfoldable pub command_of : List ℕ → ℕ
command_of w =
    pick (same w (ascii "ax25")) 0
    (pick (same w (ascii "long")) 1
    (pick (same w (ascii "generic")) 2 3))

-- the command of a word, if it names one
unfoldable pub named_of : List ℕ → Option ℕ
named_of w = pick (ltb 2 (command_of w)) None (Some (command_of w))

-- a blank and the digits of bytes, where there are any
unfoldable pub digits_of : List ℕ → List ℕ
digits_of d = pick (eqb (length d) 0) [] (32 ∷ hex_of d)

-- the line of bytes under a command, which `receive` writes after `done ` and `send` takes
unfoldable pub spelled_of : ℕ → List ℕ → List ℕ
spelled_of command d = word_of command ++ digits_of d

-- the refusals of documents 01 and 02 in short: the reason of a number
unfoldable pub reason_of : ℕ → List ℕ
reason_of n = piece_of 124 n (ascii "|unknown command|data over 4,999 bytes or message over 5,000|frame too short|bad call|bad format|output too short|message cannot be decoded|field not 3 to 512|mask not the top 1 to 7 bits of a byte|empty message|first byte 0x80 or more|too many fragments for the mask|no such fragment|fragment empty or over the field|marker 0x14|reply over 3 or hint over 7|store or state out of bounds|||name not 1 to 8 bytes or not kept|eight states are kept already||||||a tally is already the largest 64-bit number")

-- an opening, a number, a colon and a text
unfoldable pub numbered_line : List ℕ → ℕ → List ℕ → List ℕ
numbered_line opening n text = opening ++ (numeral_of n ++ (ascii ": " ++ (text ++ (10 ∷ []))))

-- "refused N: reason"
unfoldable pub refusal_line : ℕ → List ℕ
refusal_line n = numbered_line (ascii "refused ") n (reason_of n)

-- "error: line N: what"
unfoldable pub error_line : ℕ → List ℕ → List ℕ
error_line number what = numbered_line (ascii "error: line ") number what

-- what is wrong with a text that spells no bytes
unfoldable pub fault_of : HexError → List ℕ
fault_of NoDigit = ascii "no hexadecimal digit"
fault_of Odd = ascii "an odd number of digits"
fault_of TooLong = ascii "too long"

-- the error of a text that spells no bytes
unfoldable pub unread_line : ℕ → Result ℕ HexError → List ℕ
unread_line number (Ok n) = []
unread_line number (Err e) = error_line number (fault_of e)

-- what is said where a text spells bytes, or the error
unfoldable pub read_or : ℕ → List ℕ → Result ℕ HexError → List ℕ
read_or number text (Ok n) = text
read_or number text (Err e) = unread_line number (Err e)

-- the longest line
abbrev pub line_room : ℕ
line_room = 16384
