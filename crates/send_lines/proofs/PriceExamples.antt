-- The laws of PriceLaws at a frame of CQ from K1A with the text A, under mask F0: 7 bytes and 2 frames for fields of 5 bytes, refused for fields
-- of 2; and at the line `generic 80`. Their premises are met there.
-- Assumes nothing.
use mathlib.Core.Path.{◌≡◌, refl, ap, ◌∙◌}
use mathlib.Core.Bool.{true, false}
use mathlib.Core.List.{List, [], ◌∷◌, ◌++◌, flat_map}
use Prim.Native.Nat.{ℕ, ◌<◌}
use lib.ListN.{length}
use Rattle.laws.specs.Bits.{odd, num, bits_of, value_of}
use Rattle.laws.specs.Pick.{pick}
use Rattle.laws.specs.Text.{ascii, same, between, starts}
use Rattle.crc.specs.Crc.{crc_bit, crc_steps, crc_byte, crc_from, crc_of, crc_bits}
use Rattle.refusals.specs.Limits.{top_of}
use Rattle.refusals.specs.Outcome.{Outcome, refused, answer}
use Rattle.frame.specs.Frame.{fill_of, body_of, control_byte, with_crc, frame_of, build_of}
use Rattle.sender.specs.Send.{ceiling, count_of, count_for, check_of, lead_of, fragment_of, most_of, send_of}
use Rattle.ax25_address.specs.Types.{Ax25}
use Rattle.ax25_address.specs.Classify.{any_high}
use Rattle.ax25.specs.Encode.{Coded}
use Rattle.kiss.specs.Generic.{generic_of}
use Rattle.kiss.specs.Codec.{code_of}
use Rattle.preview.specs.Preview.{coded_price, preview_of}
use Rattle.preview.proofs.Edges.{frame, coded, price, frame_coded, frame_priced}
use Rattle.texts.specs.Hex.{digit_of, hex_byte, hex_of, hex_value, is_hex, bytes_of, read_of}
use Rattle.texts.specs.Number.{numeral_from, numeral_of}
use Rattle.texts.specs.Part as part
use Rattle.texts.specs.Say.{command_of, numbered_line, refusal_line, read_or}
use Rattle.send_lines.specs.Line.{framed_of, lined_by, frames_of, counted_text, coded_text, data_text, price_line, priced_text, price_text, said_of, spelled_text, line_text}
use Rattle.send_lines.proofs.PriceLaws.{refusing, refusal_refuses, lines_in, price_refused, price_accepted, price_lines, refused_same}

-- ---- fields of 5 bytes

-- what `price` says
pub frame_price : price_text 5 0xF0 Ax25 frame ≡ ascii "7 bytes, 2 frames" ++ (10 ∷ [])
unfolding price_text priced_text price_line numeral_of numeral_from pick
frame_price = ap priced_text frame_priced

-- what `send` says
frames_text : coded_text 5 0xF0 (answer coded) ≡ ascii "C040ACB70101A38C" ++ (10 ∷ (ascii "4000104014005242" ++ (10 ∷ [])))
unfolding odd num bits_of value_of top_of pick crc_bit crc_steps crc_byte crc_from crc_of crc_bits ceiling count_of count_for check_of lead_of fragment_of most_of send_of fill_of body_of control_byte with_crc frame_of build_of digit_of hex_byte hex_of flat_map framed_of lined_by frames_of counted_text coded_text
frames_text = refl

pub frame_frames : data_text 5 0xF0 Ax25 frame ≡ ascii "C040ACB70101A38C" ++ (10 ∷ (ascii "4000104014005242" ++ (10 ∷ [])))
unfolding data_text
frame_frames = ap (coded_text 5 0xF0) frame_coded ∙ frames_text

-- both frames are built
pub frame_accepted : (k : ℕ) → k < 2 → (f : List ℕ) × (framed_of 5 (send_of coded.bytes 5 0xF0 k) ≡ answer f) × (length f ≡ 8)
frame_accepted = (price_accepted 5 0xF0 Ax25 frame coded price frame_coded frame_priced).1

pub frame_lines : lines_in (data_text 5 0xF0 Ax25 frame) ≡ 2
frame_lines = price_lines 5 0xF0 Ax25 frame price frame_priced

-- ---- fields of 2 bytes

none_priced : coded_price (answer coded) 2 0xF0 ≡ refused 8
unfolding pick send_of
none_priced = refl

frame_refused : preview_of Ax25 frame 2 0xF0 ≡ refused 8
unfolding preview_of
frame_refused = ap (λ (o : Outcome Coded). coded_price o 2 0xF0) frame_coded ∙ none_priced

pub frame_none : data_text 2 0xF0 Ax25 frame ≡ refusal_line 8
frame_none = price_refused 2 0xF0 Ax25 frame 8 frame_refused

-- the premise of `send_refused`
pub frame_refuses : refusing (data_text 2 0xF0 Ax25 frame) ≡ true
frame_refuses = ap refusing frame_none ∙ refusal_refuses 8

-- ---- lines

pub line_priced : line_text true 5 0xF0 1 (ascii "generic 80") ≡ ascii "2 bytes, 1 frames" ++ (10 ∷ [])
unfolding same part.before part.behind command_of between hex_value is_hex bytes_of read_of read_or any_high generic_of code_of top_of pick count_of most_of fragment_of send_of preview_of numeral_from numeral_of price_line priced_text price_text said_of spelled_text line_text
line_priced = refl

line_refused : refusing (line_text true 2 0xF0 1 (ascii "generic 80")) ≡ true
unfolding starts same part.before part.behind command_of between hex_value is_hex bytes_of read_of read_or any_high generic_of code_of pick send_of preview_of numeral_from numeral_of numbered_line refusal_line priced_text price_text said_of spelled_text line_text refusing
line_refused = refl

pub line_same : line_text true 2 0xF0 1 (ascii "generic 80") ≡ line_text false 2 0xF0 1 (ascii "generic 80")
line_same = refused_same 2 0xF0 1 (ascii "generic 80") line_refused
