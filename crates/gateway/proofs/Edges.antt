-- Document 01's edges marked P, masks of 1 to 7 check bits (02, E11), the lengths of fragments (02, E1), polled frames (02, E4), letters
-- of calls (02, E2) and WIDE calls under both readings (02, E5): six tables that hold of the definitions as a whole.
-- Assumes nothing.
use mathlib.Core.Path.{◌≡◌, refl}
use mathlib.Core.Bool.{Bool, true, false, ◌&&◌}
use mathlib.Core.List.{List, [], ◌∷◌, ◌++◌, map}
use Rattle.std.proofs.Common.{Option, None, Some}
use Prim.Native.Nat.{ℕ, zero, suc, ◌+◌, ◌%◌}
use Prim.Native.String.{String}
use lib.Bits.{bit_and}
use lib.Count.{count_leading_zeros}
use lib.ListN.{length, take, replicate}
use lib.Dec.{leb, eqb}
use Rattle.laws.specs.Bits.{odd, num, bits_of, value_of, fit, pack_n, pack, unpack}
use Rattle.laws.specs.Pick.{pick}
use Rattle.laws.specs.Text.{ascii, same, between, is_digit, upper, filled, is_one_of, starts, later, position, trim_front, keep_or, trim_end, trim}
use Rattle.laws.proofs.Cases.{alike}
use Rattle.laws.proofs.TextLaws.{below}
use Rattle.crc.specs.Crc.{crc_bit, crc_steps, crc_byte, crc_from, crc_of, crc_bits}
use Rattle.bits.specs.Read.{letter, take_bits, take_text}
use Rattle.bits_write.specs.Write.{top_bits, width_of}
use Rattle.bits_write.specs.Text7.{sevens, last_or, text7_bits}
use Rattle.bits.specs.Read.{numbers}
use Rattle.bits.specs.Text7.{differ, counted, end_of, text7_of}
use Rattle.bits.specs.Val.{stops, next_val, val_from, val_of}
use Rattle.refusals.specs.Limits.{top_of}
use Rattle.refusals.specs.Outcome.{Outcome, refused, answer, accepted}
use Rattle.sender.specs.Send.{count_for, send_of, ceiling, count_of, check_of, lead_of, fragment_of, most_of}
use Rattle.ax25_token.specs.Tables.{call_alphabet, long, sym_of, alpha_of, wide_tokens, wide_row, pair_rows, pair_texts, fixed_rows, numbered_rows}
use Rattle.ax25_token.specs.Token.{token_bits, read_token, hyphened, base_of, behind, number_at, two_digits, decimal, suffix, pair_bits, pairs_bits, fixed_bits, takes, numbered_bits, spell, ending, plain_ap, ap_bits, spelled_bits, or_else, after, pair_form, fixed_form, numbered_form, symbol_form, form_of, wide_number, read_pair, read_number, letter_of, go_on, read_letters, read_spelled, read_form}
use Rattle.ax25_address.specs.Types.{Ax25, Ax25Long, Generic, Text, Binary}
use Rattle.ax25_address.specs.Address.{white, half, addr_call, double, cut_to, ssid_of, call_bytes}
use Rattle.ax25_address.specs.Classify.{any_high, marks_at, is_position, is_timestamped, is_message, stops_at, ends_at, tally, scan_third, is_third, classify_of}
use Rattle.ax25_address.specs.Parse.{split_off, digi_fields, parse_of, type_of, aliases, alias_calls, same_all, alias_from, alias_of}
use Rattle.ax25_aprs.specs.Words.{words, word, first_of, word_at}
use Rattle.ax25_aprs.specs.Text.{before, joined, all_digits, unsigned, no_plus, altitude, altitude_bits, altitude_at, front_bits, front_size, text_from, text_bits, padded, altitude_text, code_text, code_span, read_from, read_text}
use Rattle.ax25_aprs.specs.Body.{call_of, message_bits, read_message, body_bits, read_body}
use Rattle.ax25_aprs.specs.Third.{collect_of, call_part, call_field, inner_bits, last_field, path_field, third_bits, read_third}
use Rattle.ax25.specs.Encode.{Coded, header_of, body_bytes, tokens_bits, digi_bits, head_bits, info_bits, frame_bits, code_parsed, encode_of}
use Rattle.ax25.specs.Decode.{name_at, marked, read_alias, read_tokens, read_aliased, read_digis, read_head, read_info, addresses, read_frame}
use Rattle.kiss.specs.Generic.{generic_of, generic_back}
use Rattle.kiss.specs.Codec.{code_of, Summary, summary_of, Decoded, decode_of, decode_message, decode_some}

pub data Edge : Type 0 where
  codes : ℕ → List ℕ → List ℕ → Edge  -- command and data, the message
  no_message_lem : ℕ → List ℕ → ℕ → Edge  -- command and data, the number that the coder refuses them with
  decodes : Bool → List ℕ → ℕ → List ℕ → Edge  -- whether the reading is mended, a message, command and data
  no_data : Bool → List ℕ → ℕ → Edge  -- whether the reading is mended, a message, the number that the decoder refuses it with
  travels : List ℕ → List ℕ → List ℕ → Edge  -- a frame, its message, what the original reading makes of that; the mended one gives the frame
  sums : ℕ → List ℕ → ℕ → ℕ → Bool → Edge  -- command and data, the summary: type, digipeaters and UI
  no_sum : ℕ → List ℕ → ℕ → Edge  -- command and data, the number that the summary is refused with
  counts : ℕ → ℕ → ℕ → Edge  -- field and bytes, the count
  refuses : List ℕ → ℕ → ℕ → ℕ → ℕ → Edge  -- a message, field, mask and k, the number that it is refused with
  longest : ℕ → ℕ → Edge  -- a mask, the bytes of the longest message at field 3: so many are sent, and one more is refused with 12
  leaves : ℕ → ℕ → Edge  -- a mask, the largest count: a byte has no bit of the mask exactly where it is at most that count − 2
  sends : List ℕ → ℕ → ℕ → ℕ → List ℕ → Edge  -- a message, field, mask and k, fragment k
  lengths : List ℕ → ℕ → ℕ → List ℕ → Edge  -- a message, field and mask, the lengths of all its fragments: after the last comes 13
  token : String → String → Edge  -- a call, its bits
  reads : Bool → String → String → Edge  -- whether the reading is mended, bits, the call

-- a frame of CQ from K1A with this control byte, PID and information
with_end : List ℕ → List ℕ
with_end e = 0x86 ∷ 0xA2 ∷ 0x40 ∷ 0x40 ∷ 0x40 ∷ 0x40 ∷ 0x60 ∷ 0x96 ∷ 0x62 ∷ 0x82 ∷ 0x40 ∷ 0x40 ∷ 0x40 ∷ 0x61 ∷ e

-- the same with calls of seven letters
with_long_end : List ℕ → List ℕ
with_long_end e =
    0x86 ∷ 0xA2 ∷ 0x40 ∷ 0x40 ∷ 0x40 ∷ 0x40 ∷ 0x40 ∷ 0x60 ∷ 0x96 ∷ 0x62 ∷ 0x82 ∷ 0x40 ∷ 0x40 ∷ 0x40 ∷ 0x40 ∷ 0x61 ∷ e

-- the same with the digipeater WIDE1-1
with_digi_end : List ℕ → List ℕ
with_digi_end e =
    0x86 ∷ 0xA2 ∷ 0x40 ∷ 0x40 ∷ 0x40 ∷ 0x40 ∷ 0x60 ∷ 0x96 ∷ 0x62 ∷ 0x82 ∷ 0x40 ∷ 0x40 ∷ 0x40 ∷ 0x60
    ∷ 0xAE ∷ 0x92 ∷ 0x88 ∷ 0x8A ∷ 0x62 ∷ 0x40 ∷ 0x63 ∷ e

-- a frame of CQ from a call of these three letters, with 03, F0 and A
with_source : List ℕ → List ℕ
with_source c =
    0x86 ∷ 0xA2 ∷ 0x40 ∷ 0x40 ∷ 0x40 ∷ 0x40 ∷ 0x60 ∷ (c ++ (0x40 ∷ 0x40 ∷ 0x40 ∷ 0x61 ∷ 0x03 ∷ 0xF0 ∷ 0x41 ∷ []))

-- the same from a call of K, this byte and A
with_letter : ℕ → List ℕ
with_letter b = with_source (0x96 ∷ b ∷ 0x82 ∷ [])

-- the same from K1A through a digipeater of these four letters
with_digi : List ℕ → List ℕ
with_digi c =
    0x86 ∷ 0xA2 ∷ 0x40 ∷ 0x40 ∷ 0x40 ∷ 0x40 ∷ 0x60 ∷ 0x96 ∷ 0x62 ∷ 0x82 ∷ 0x40 ∷ 0x40 ∷ 0x40 ∷ 0x60
    ∷ (c ++ (0x40 ∷ 0x40 ∷ 0x61 ∷ 0x03 ∷ 0xF0 ∷ 0x41 ∷ []))

-- the seventeen-byte frame, and its message
frame : List ℕ
frame = with_end (0x03 ∷ 0xF0 ∷ 0x41 ∷ [])

message : List ℕ
message = 0x40 ∷ 0xAC ∷ 0xB7 ∷ 0x01 ∷ 0x00 ∷ 0x10 ∷ 0x40 ∷ []

-- n bytes: i, i + 1 and so on, 00 after FF
from : ℕ → ℕ → List ℕ
from i zero = []
from i (suc n) = i % 256 ∷ from (suc i) n

pub table : List Edge
table =
    codes Generic [] (0x21 ∷ 0xFF ∷ [])
    ∷ codes Generic (ascii "A") (0x21 ∷ 0x82 ∷ [])
    ∷ codes Generic (ascii "B") (0x21 ∷ 0x85 ∷ [])
    ∷ codes Generic (0x80 ∷ []) (0x20 ∷ 0x80 ∷ [])
    ∷ decodes false (0x21 ∷ []) Generic []
    ∷ counts 5 5 1
    ∷ counts 5 6 2
    ∷ counts 5 8 2
    ∷ counts 5 9 3
    ∷ counts 3 34 17
    ∷ sends (from 1 34) 3 0xF0 0 (0x81 ∷ 0xEF ∷ 0x02 ∷ [])
    ∷ sends (from 1 34) 3 0xF0 16 (0x01 ∷ 0x21 ∷ 0x22 ∷ [])
    ∷ refuses (from 1 34) 3 0xF0 17 13
    ∷ counts 3 35 18
    ∷ refuses (from 1 35) 3 0xF0 0 12
    ∷ leaves 0xF0 17
    ∷ counts 3 18 9
    ∷ sends (from 1 18) 3 0xF8 0 (0x81 ∷ 0xE7 ∷ 0x02 ∷ [])
    ∷ sends (from 1 18) 3 0xF8 8 (0x01 ∷ 0x11 ∷ 0x12 ∷ [])
    ∷ refuses (from 1 18) 3 0xF8 9 13
    ∷ counts 3 19 10
    ∷ refuses (from 1 19) 3 0xF8 0 12
    ∷ leaves 0xF8 9
    ∷ token "WIDE1-1" "100101001"
    ∷ token "WIDE2-2" "100101110"
    ∷ reads false "100101110" "WIDE2-10"
    ∷ codes Ax25 frame message
    ∷ decodes false message Ax25 frame
    ∷ counts 5 7 2
    ∷ sends message 5 0xF0 0 (0xC0 ∷ 0x40 ∷ 0xAC ∷ 0xB7 ∷ 0x01 ∷ [])
    ∷ sends message 5 0xF0 1 (0x40 ∷ 0x00 ∷ 0x10 ∷ 0x40 ∷ [])
    ∷ []

-- "The mask may be the top 1 to 7 bits of the byte. With w check bits the sender accepts counts to 2^(8 − w) + 1."
pub masks : List Edge
masks =
    longest 0x80 258
    ∷ longest 0xC0 130
    ∷ longest 0xE0 66
    ∷ longest 0xF0 34
    ∷ longest 0xF8 18
    ∷ longest 0xFC 10
    ∷ longest 0xFE 6
    ∷ counts 3 258 129
    ∷ counts 3 259 130
    ∷ sends (from 1 258) 3 0x80 0 (0x81 ∷ 0xFF ∷ 0x02 ∷ [])
    ∷ sends (from 1 258) 3 0x80 128 (0x01 ∷ 0x01 ∷ 0x02 ∷ [])
    ∷ refuses (from 1 258) 3 0x80 129 13
    ∷ sends (from 1 6) 3 0xFE 0 (0x81 ∷ 0x29 ∷ 0x02 ∷ [])
    ∷ sends (from 1 6) 3 0xFE 2 (0x01 ∷ 0x05 ∷ 0x06 ∷ [])
    ∷ refuses (from 1 6) 3 0xFE 3 13
    ∷ leaves 0x80 129
    ∷ leaves 0xC0 65
    ∷ leaves 0xE0 33
    ∷ leaves 0xFC 5
    ∷ leaves 0xFE 3
    ∷ refuses [] 2 0x00 0 8
    ∷ refuses [] 3 0x00 0 9
    ∷ refuses (from 1 6) 3 0x00 0 9
    ∷ refuses (from 1 6) 3 0x7F 0 9
    ∷ refuses (from 1 6) 3 0xB0 0 9
    ∷ refuses (from 1 6) 3 0xFF 0 9
    ∷ sends message 5 0x80 0 (0xC0 ∷ 0x00 ∷ 0xAC ∷ 0xB7 ∷ 0x01 ∷ [])
    ∷ sends message 5 0xC0 0 (0xC0 ∷ 0x40 ∷ 0xAC ∷ 0xB7 ∷ 0x01 ∷ [])
    ∷ sends message 5 0xE0 0 (0xC0 ∷ 0x40 ∷ 0xAC ∷ 0xB7 ∷ 0x01 ∷ [])
    ∷ sends message 5 0xF0 0 (0xC0 ∷ 0x40 ∷ 0xAC ∷ 0xB7 ∷ 0x01 ∷ [])
    ∷ sends message 5 0xF8 0 (0xC0 ∷ 0x48 ∷ 0xAC ∷ 0xB7 ∷ 0x01 ∷ [])
    ∷ sends message 5 0xFC 0 (0xC0 ∷ 0x4C ∷ 0xAC ∷ 0xB7 ∷ 0x01 ∷ [])
    ∷ sends message 5 0xFE 0 (0xC0 ∷ 0x4C ∷ 0xAC ∷ 0xB7 ∷ 0x01 ∷ [])
    ∷ sends message 5 0x80 1 (0x40 ∷ 0x00 ∷ 0x10 ∷ 0x40 ∷ [])
    ∷ sends message 5 0xC0 1 (0x40 ∷ 0x00 ∷ 0x10 ∷ 0x40 ∷ [])
    ∷ sends message 5 0xE0 1 (0x40 ∷ 0x00 ∷ 0x10 ∷ 0x40 ∷ [])
    ∷ sends message 5 0xF0 1 (0x40 ∷ 0x00 ∷ 0x10 ∷ 0x40 ∷ [])
    ∷ sends message 5 0xF8 1 (0x40 ∷ 0x00 ∷ 0x10 ∷ 0x40 ∷ [])
    ∷ sends message 5 0xFC 1 (0x40 ∷ 0x00 ∷ 0x10 ∷ 0x40 ∷ [])
    ∷ sends message 5 0xFE 1 (0x40 ∷ 0x00 ∷ 0x10 ∷ 0x40 ∷ [])
    ∷ counts 3 7 4
    ∷ sends message 3 0x80 0 (0xC0 ∷ 0x02 ∷ 0xAC ∷ [])
    ∷ sends message 3 0xC0 0 (0xC0 ∷ 0x42 ∷ 0xAC ∷ [])
    ∷ sends message 3 0xE0 0 (0xC0 ∷ 0x42 ∷ 0xAC ∷ [])
    ∷ sends message 3 0xF0 0 (0xC0 ∷ 0x42 ∷ 0xAC ∷ [])
    ∷ sends message 3 0xF8 0 (0xC0 ∷ 0x4A ∷ 0xAC ∷ [])
    ∷ sends message 3 0xFC 0 (0xC0 ∷ 0x4E ∷ 0xAC ∷ [])
    ∷ refuses message 3 0xFE 0 12
    ∷ []

-- 21, and n zeros after it
with_zeros : ℕ → List ℕ
with_zeros n = 0x21 ∷ replicate n 0x00

-- "of several fragments each one before the last has exactly field bytes, .. and .. the last has at least 2": the first of several with its
-- check byte is full, too, and one fragment alone may have one byte
pub booked : List Edge
booked =
    sends (with_zeros 5) 5 0xF0 0 (0xA1 ∷ 0x80 ∷ 0x00 ∷ 0x00 ∷ 0x00 ∷ [])
    ∷ sends (with_zeros 5) 5 0xF0 1 (0x21 ∷ 0x00 ∷ 0x00 ∷ [])
    ∷ sends (with_zeros 8) 5 0xF0 0 (0xA1 ∷ 0xA1 ∷ 0x00 ∷ 0x00 ∷ 0x00 ∷ [])
    ∷ sends (with_zeros 8) 5 0xF0 1 (0xA1 ∷ 0x00 ∷ 0x00 ∷ 0x00 ∷ 0x00 ∷ [])
    ∷ sends (with_zeros 8) 5 0xF0 2 (0x21 ∷ 0x00 ∷ [])
    ∷ lengths (with_zeros 4) 5 0xF0 (5 ∷ [])
    ∷ lengths (with_zeros 5) 5 0xF0 (5 ∷ 3 ∷ [])
    ∷ lengths (with_zeros 7) 5 0xF0 (5 ∷ 5 ∷ [])
    ∷ lengths (with_zeros 8) 5 0x80 (5 ∷ 5 ∷ 2 ∷ [])
    ∷ lengths (with_zeros 8) 5 0xC0 (5 ∷ 5 ∷ 2 ∷ [])
    ∷ lengths (with_zeros 8) 5 0xE0 (5 ∷ 5 ∷ 2 ∷ [])
    ∷ lengths (with_zeros 8) 5 0xF0 (5 ∷ 5 ∷ 2 ∷ [])
    ∷ lengths (with_zeros 8) 5 0xF8 (5 ∷ 5 ∷ 2 ∷ [])
    ∷ lengths (with_zeros 8) 5 0xFC (5 ∷ 5 ∷ 2 ∷ [])
    ∷ lengths (with_zeros 8) 5 0xFE (5 ∷ 5 ∷ 2 ∷ [])
    ∷ lengths (with_zeros 23) 10 0xF0 (10 ∷ 10 ∷ 7 ∷ [])
    ∷ lengths (with_zeros 23) 24 0xF0 (24 ∷ [])
    ∷ lengths (with_zeros 24) 24 0xF0 (24 ∷ 3 ∷ [])
    ∷ lengths (with_zeros 0) 3 0xF0 (1 ∷ [])
    ∷ lengths (with_zeros 2) 3 0xF0 (3 ∷ [])
    ∷ lengths (with_zeros 3) 3 0xF0 (3 ∷ 3 ∷ [])
    ∷ lengths (with_zeros 4) 3 0xF0 (3 ∷ 3 ∷ 2 ∷ [])
    ∷ []

-- "UI in the summary now means control 03 or 13. The coder goes on treating only 03 with PID F0 as the short header": a frame with 13 F0 is
-- coded with both bytes in its body, as letters of seven bits
pub polled : List Edge
polled =
    sums Ax25 (with_end (0x03 ∷ 0xF0 ∷ 0x41 ∷ [])) Text 0 true
    ∷ sums Ax25 (with_end (0x13 ∷ 0xF0 ∷ 0x41 ∷ [])) Text 0 true
    ∷ sums Ax25 (with_end (0x0F ∷ 0xF0 ∷ 0x41 ∷ [])) Text 0 false
    ∷ sums Ax25 (with_end (0x23 ∷ 0xF0 ∷ 0x41 ∷ [])) Text 0 false
    ∷ sums Ax25 (with_end (0x93 ∷ 0xF0 ∷ 0x41 ∷ [])) Text 0 false
    ∷ sums Ax25 (with_end (0x83 ∷ 0xF0 ∷ 0x41 ∷ [])) Text 0 false
    ∷ sums Ax25 (with_end (0x13 ∷ 0x00 ∷ [])) Text 0 true
    ∷ sums Ax25Long (with_long_end (0x03 ∷ 0xF0 ∷ 0x41 ∷ [])) Text 0 true
    ∷ sums Ax25Long (with_long_end (0x13 ∷ 0xF0 ∷ 0x41 ∷ [])) Text 0 true
    ∷ sums Ax25Long (with_long_end (0x93 ∷ 0xF0 ∷ 0x41 ∷ [])) Text 0 false
    ∷ sums Ax25 (with_digi_end (0x13 ∷ 0xF0 ∷ 0x41 ∷ [])) Text 1 true
    ∷ sums Ax25 (with_digi_end (0x93 ∷ 0xF0 ∷ 0x41 ∷ [])) Text 1 false
    ∷ sums Ax25 (with_end (0x13 ∷ 0xF0 ∷ 0x80 ∷ [])) Binary 0 true
    ∷ sums Generic (with_end (0x13 ∷ 0xF0 ∷ 0x41 ∷ [])) Text 0 false
    ∷ sums Generic [] Text 0 false
    ∷ no_sum 3 (with_end (0x13 ∷ 0xF0 ∷ 0x41 ∷ [])) 1
    ∷ no_sum 3 (replicate 5000 0x13) 1
    ∷ no_sum Ax25 (replicate 5000 0x13) 2
    ∷ no_sum Generic (replicate 5000 0x13) 2
    ∷ no_sum Ax25 (with_end (0x13 ∷ [])) 3
    ∷ no_sum Ax25Long (with_end (0x13 ∷ 0xF0 ∷ 0x41 ∷ [])) 3
    ∷ codes Ax25 (with_end (0x13 ∷ 0xF0 ∷ 0x41 ∷ [])) (0x00 ∷ 0xAC ∷ 0xB7 ∷ 0x01 ∷ 0x00 ∷ 0x04 ∷ 0xF8 ∷ 0x41 ∷ 0x00 ∷ [])
    ∷ decodes false (0x00 ∷ 0xAC ∷ 0xB7 ∷ 0x01 ∷ 0x00 ∷ 0x04 ∷ 0xF8 ∷ 0x41 ∷ 0x00 ∷ []) Ax25 (with_end (0x13 ∷ 0x70 ∷ 0x41 ∷ []))
    ∷ []

-- "let a table of 256 entries give a byte's letter code or none": a blank, the first and the last digit and letter; small letters, which are
-- coded as their capitals; and the bytes beside all these, which have no code. Command, length and a frame that is cut short are refused
-- before a letter. A digipeater of the AP form has no small letters.
pub lettered : List Edge
lettered =
    codes Ax25 (with_letter 0x40) (0x40 ∷ 0xAC ∷ 0xB0 ∷ 0x01 ∷ 0x00 ∷ 0x10 ∷ 0x40 ∷ [])
    ∷ codes Ax25 (with_letter 0x60) (0x40 ∷ 0xAC ∷ 0xB6 ∷ 0xC1 ∷ 0x00 ∷ 0x10 ∷ 0x40 ∷ [])
    ∷ codes Ax25 (with_letter 0x72) (0x40 ∷ 0xAC ∷ 0xB9 ∷ 0x01 ∷ 0x00 ∷ 0x10 ∷ 0x40 ∷ [])
    ∷ codes Ax25 (with_letter 0x82) (0x40 ∷ 0xAC ∷ 0xB0 ∷ 0x41 ∷ 0x00 ∷ 0x10 ∷ 0x40 ∷ [])
    ∷ codes Ax25 (with_letter 0xB4) (0x40 ∷ 0xAC ∷ 0xB6 ∷ 0x81 ∷ 0x00 ∷ 0x10 ∷ 0x40 ∷ [])
    ∷ codes Ax25 (with_letter 0xF4) (0x40 ∷ 0xAC ∷ 0xB6 ∷ 0x81 ∷ 0x00 ∷ 0x10 ∷ 0x40 ∷ [])
    ∷ codes Ax25 (with_source (0xD6 ∷ 0x62 ∷ 0xC2 ∷ [])) message
    ∷ no_message_lem Ax25 (with_letter 0x3E) 4
    ∷ no_message_lem Ax25 (with_letter 0x42) 4
    ∷ no_message_lem Ax25 (with_letter 0x5E) 4
    ∷ no_message_lem Ax25 (with_letter 0x74) 4
    ∷ no_message_lem Ax25 (with_letter 0x80) 4
    ∷ no_message_lem Ax25 (with_letter 0xB6) 4
    ∷ no_message_lem Ax25 (with_letter 0xC0) 4
    ∷ no_message_lem Ax25 (with_letter 0xF6) 4
    ∷ no_message_lem Ax25 (with_source (0x96 ∷ 0xBE ∷ 0x62 ∷ [])) 4
    ∷ no_message_lem Ax25 (with_source (0xD6 ∷ 0xBE ∷ 0x62 ∷ [])) 4
    ∷ no_message_lem 3 (with_source (0x96 ∷ 0xBE ∷ 0x62 ∷ [])) 1
    ∷ no_message_lem Ax25 (with_source (0x96 ∷ 0xBE ∷ 0x62 ∷ []) ++ replicate 4983 0x41) 2
    ∷ no_message_lem Ax25 (take 15 (with_source (0x96 ∷ 0xBE ∷ 0x62 ∷ []))) 3
    ∷ no_message_lem Ax25 (with_digi (0x96 ∷ 0xBE ∷ 0x62 ∷ 0x40 ∷ [])) 4
    ∷ no_message_lem Ax25 (with_digi (0x82 ∷ 0xA0 ∷ 0xE4 ∷ 0xE6 ∷ [])) 4
    ∷ codes Ax25 (with_digi (0x82 ∷ 0xA0 ∷ 0xA4 ∷ 0xA6 ∷ [])) (0x48 ∷ 0x56 ∷ 0x5B ∷ 0x80 ∷ 0x80 ∷ 0x1A ∷ 0x24 ∷ 0x98 ∷ 0x08 ∷ 0x20 ∷ [])
    ∷ []

-- a frame of CQ from K1A, and one of APRS from K1A, from the source's SSID byte on
from_k1a : List ℕ → List ℕ
from_k1a e = 0x86 ∷ 0xA2 ∷ 0x40 ∷ 0x40 ∷ 0x40 ∷ 0x40 ∷ 0x60 ∷ 0x96 ∷ 0x62 ∷ 0x82 ∷ 0x40 ∷ 0x40 ∷ 0x40 ∷ e

aprs_from_k1a : List ℕ → List ℕ
aprs_from_k1a e = 0x82 ∷ 0xA0 ∷ 0xA4 ∷ 0xA6 ∷ 0x40 ∷ 0x40 ∷ 0x60 ∷ 0x96 ∷ 0x62 ∷ 0x82 ∷ 0x40 ∷ 0x40 ∷ 0x40 ∷ e

-- an address of WIDE1 or WIDE2 by its digit's byte, with its SSID byte
wide1 : ℕ → List ℕ → List ℕ
wide1 ssid e = 0xAE ∷ 0x92 ∷ 0x88 ∷ 0x8A ∷ 0x62 ∷ 0x40 ∷ ssid ∷ e

wide2 : ℕ → List ℕ → List ℕ
wide2 ssid e = 0xAE ∷ 0x92 ∷ 0x88 ∷ 0x8A ∷ 0x64 ∷ 0x40 ∷ ssid ∷ e

-- control, PID and A; control, PID and information
with_a : List ℕ
with_a = 0x03 ∷ 0xF0 ∷ 0x41 ∷ []

with_info : String → List ℕ
with_info s = 0x03 ∷ 0xF0 ∷ ascii s

-- "a mended reading in which the last two bits of a WIDE token are a binary number": in a digipeater, in two, after the alias's bit, in
-- destination and source, in a message's addressee, in the three calls of a third party. WIDE2-10 that is spelled, and an alias, are read
-- alike. What one reading refuses the other does.
pub readings : List Edge
readings =
    reads false "100101110" "WIDE2-10"
    ∷ reads true "100101110" "WIDE2-2"
    ∷ reads false "100101011" "WIDE1-11"
    ∷ reads true "100101011" "WIDE1-3"
    ∷ reads false "100101001" "WIDE1-1"
    ∷ reads true "100101001" "WIDE1-1"
    ∷ travels (from_k1a (0x62 ∷ wide2 0x65 with_a)) (0x48 ∷ 0x56 ∷ 0x5B ∷ 0x80 ∷ 0x80 ∷ 0x32 ∷ 0xE4 ∷ 0x10 ∷ []) (from_k1a (0x62 ∷ wide2 0x75 with_a))
    ∷ travels (from_k1a (0x60 ∷ wide1 0x66 (wide2 0x67 with_a))) (0x49 ∷ 0x2B ∷ 0x2D ∷ 0xC0 ∷ 0x40 ∷ 0x09 ∷ 0x5C ∷ 0xBD ∷ 0x04 ∷ [])
    (from_k1a (0x60 ∷ wide1 0x76 (wide2 0x77 with_a)))
    ∷ travels (aprs_from_k1a (0x60 ∷ wide1 0xE2 (wide2 0x65 (with_info ">hi"))))
    (0x49 ∷ 0xB4 ∷ 0x49 ∷ 0x30 ∷ 0x0B ∷ 0x70 ∷ 0x10 ∷ 0x01 ∷ 0x29 ∷ 0x97 ∷ 0x07 ∷ 0xDA ∷ 0x34 ∷ 0x80 ∷ [])
    (aprs_from_k1a (0x60 ∷ wide1 0xE2 (wide2 0x75 (with_info ">hi"))))
    ∷ travels (wide2 0x64 (wide1 0x67 with_a)) (0x40 ∷ 0x97 ∷ 0x4A ∷ 0xD0 ∷ 0x40 ∷ []) (wide2 0x74 (wide1 0x77 with_a))
    ∷ travels (aprs_from_k1a (0x61 ∷ with_info ":WIDE2-2  :hi")) (0x40 ∷ 0xD1 ∷ 0x24 ∷ 0xC0 ∷ 0x2D ∷ 0xC0 ∷ 0x40 ∷ 0x09 ∷ 0x2E ∷ 0xD1 ∷ 0xA4 ∷ [])
    (aprs_from_k1a (0x61 ∷ with_info ":WIDE2-10 :hi"))
    ∷ travels (aprs_from_k1a (0x61 ∷ with_info "}WIDE2-2>WIDE1-3,TCPIP,WIDE2-3*:>hi"))
    (0x40 ∷ 0xD1 ∷ 0x24 ∷ 0xC0 ∷ 0x2D ∷ 0xC0 ∷ 0x40 ∷ 0x0D ∷ 0x2E ∷ 0x95 ∷ 0xCB ∷ 0xF7 ∷ 0xDA ∷ 0x34 ∷ 0x80 ∷ [])
    (aprs_from_k1a (0x61 ∷ with_info "}WIDE2-10>WIDE1-11,TCPIP,WIDE2-11*:>hi"))
    ∷ travels (from_k1a (0x60 ∷ wide2 0x75 with_a))
    (0x48 ∷ 0x56 ∷ 0x5B ∷ 0x80 ∷ 0x80 ∷ 0x0B ∷ 0x92 ∷ 0x20 ∷ 0xAE ∷ 0x81 ∷ 0x48 ∷ 0x20 ∷ [])
    (from_k1a (0x60 ∷ wide2 0x75 with_a))
    ∷ travels (aprs_from_k1a (0x60 ∷ wide1 0xE2 (wide2 0x63 (with_info ">hi"))))
    (0x49 ∷ 0xB4 ∷ 0x49 ∷ 0x30 ∷ 0x0B ∷ 0x70 ∷ 0x10 ∷ 0x02 ∷ 0x43 ∷ 0xED ∷ 0x1A ∷ 0x40 ∷ [])
    (aprs_from_k1a (0x60 ∷ wide1 0xE2 (wide2 0x63 (with_info ">hi"))))
    ∷ no_data false [] 7
    ∷ no_data true [] 7
    ∷ no_data false (0x48 ∷ 0x56 ∷ 0x5B ∷ 0x80 ∷ 0x80 ∷ 0x32 ∷ []) 7
    ∷ no_data true (0x48 ∷ 0x56 ∷ 0x5B ∷ 0x80 ∷ 0x80 ∷ 0x32 ∷ []) 7
    ∷ no_data false (replicate 5001 0x48) 2
    ∷ no_data true (replicate 5001 0x48) 2
    ∷ []

-- ---- tests of answers

gives_message : Outcome Coded → List ℕ → Bool
gives_message (refused n) m = false
gives_message (answer c) m = same c.bytes m

gives_data : Outcome Decoded → ℕ → List ℕ → Bool
gives_data (refused n) command d = false
gives_data (answer r) command d = eqb r.command command && same r.bytes d

gives_summary : Outcome Summary → ℕ → ℕ → Bool → Bool
gives_summary (refused n) typ digis ui = false
gives_summary (answer s) typ digis ui = eqb s.typ typ && (eqb s.digis digis && alike s.ui ui)

gives_count : Outcome ℕ → ℕ → Bool
gives_count (refused n) count = false
gives_count (answer k) count = eqb k count

is_refused : {A : Type 0} → Outcome A → ℕ → Bool
is_refused (refused n) k = eqb n k
is_refused (answer b) k = false

gives_fragment : Outcome (List ℕ) → List ℕ → Bool
gives_fragment (refused n) f = false
gives_fragment (answer b) f = same b f

gives_length : Outcome (List ℕ) → ℕ → Bool
gives_length (refused n) size = false
gives_length (answer b) size = eqb (length b) size

-- of the fragments from k on
gives_lengths : List ℕ → ℕ → ℕ → ℕ → List ℕ → Bool
gives_lengths m field mask k [] = is_refused (send_of m field mask k) 13
gives_lengths m field mask k (n ∷ ns) = gives_length (send_of m field mask k) n && gives_lengths m field mask (suc k) ns

gives_bits : Option (List Bool) → List ℕ → Bool
gives_bits None t = false
gives_bits (Some b) t = same (map letter b) t

gives_call : Option (List ℕ × List Bool) → List ℕ → Bool
gives_call None c = false
gives_call (Some (t, [])) c = same t c
gives_call (Some (t, x ∷ b)) c = false

pub holds : Edge → Bool
holds (codes command d m) = gives_message (code_of command d) m
holds (no_message_lem command d n) = is_refused (code_of command d) n
holds (decodes mended m command d) = gives_data (decode_of mended m) command d
holds (no_data mended m n) = is_refused (decode_of mended m) n
holds (travels d m o) = gives_message (code_of Ax25 d) m && (gives_data (decode_of false m) Ax25 o && gives_data (decode_of true m) Ax25 d)
holds (sums command d typ digis ui) = gives_summary (summary_of command d) typ digis ui
holds (no_sum command d n) = is_refused (summary_of command d) n
holds (counts field bytes count) = gives_count (count_for bytes field) count
holds (refuses m field mask k n) = is_refused (send_of m field mask k) n
holds (longest mask n) = accepted (send_of (from 1 n) 3 mask 0) && is_refused (send_of (from 1 (suc n)) 3 mask 0) 12
holds (leaves mask most) = eqb (most_of mask) most && below (λ x. alike (leb (x + 2) most) (eqb (bit_and x mask) 0)) 256
holds (sends m field mask k f) = gives_fragment (send_of m field mask k) f
holds (lengths m field mask ns) = gives_lengths m field mask 0 ns
holds (token c b) = gives_bits (token_bits 6 (ascii c)) (ascii b)
holds (reads mended b c) = gives_call (read_token mended 6 (map (λ x. eqb x 49) (ascii b))) (ascii c)

pub all : List Edge → Bool
all [] = true
all (e ∷ es) = holds e && all es

pub table_holds : all table ≡ true
unfolding top_of with_end frame message from table alike below gives_message gives_data gives_count is_refused gives_fragment gives_bits gives_call holds all odd num bits_of value_of fit pack_n pack unpack pick between upper same is_one_of starts later position trim_front keep_or trim_end trim crc_bit crc_steps crc_byte crc_from crc_of crc_bits take_bits take_text sevens numbers last_or text7_bits differ counted end_of text7_of stops next_val val_from val_of ceiling count_of count_for check_of lead_of fragment_of most_of send_of call_alphabet long sym_of alpha_of wide_tokens wide_row pair_rows pair_texts fixed_rows numbered_rows hyphened base_of behind number_at two_digits decimal suffix pair_bits pairs_bits fixed_bits takes numbered_bits spell ending plain_ap ap_bits spelled_bits or_else token_bits after pair_form fixed_form numbered_form symbol_form form_of wide_number read_pair read_number letter_of go_on read_letters read_spelled read_form read_token white half addr_call double cut_to ssid_of call_bytes any_high classify_of split_off digi_fields parse_of type_of header_of body_bytes tokens_bits digi_bits head_bits info_bits frame_bits code_parsed encode_of marked read_tokens read_digis read_head read_info addresses read_frame generic_of generic_back code_of decode_message decode_some decode_of
table_holds = refl

pub masks_hold : all masks ≡ true
unfolding top_of message from masks alike below gives_count is_refused gives_fragment holds all odd num bits_of value_of pick same crc_bit crc_steps crc_byte crc_from crc_of crc_bits ceiling count_of count_for check_of lead_of fragment_of most_of send_of
masks_hold = refl

pub booked_holds : all booked ≡ true
unfolding top_of with_zeros booked is_refused gives_fragment gives_length gives_lengths holds all odd num bits_of value_of pick same crc_bit crc_steps crc_byte crc_from crc_of crc_bits ceiling count_of check_of lead_of fragment_of most_of send_of
booked_holds = refl

pub polled_holds : all polled ≡ true
unfolding with_end with_long_end with_digi_end polled gives_summary summary_of is_refused alike gives_message gives_data holds all odd num bits_of value_of fit pack_n pack unpack pick between upper same is_one_of starts later position trim_front keep_or trim_end trim take_bits take_text sevens numbers last_or text7_bits differ counted end_of text7_of val_from val_of call_alphabet long sym_of alpha_of wide_tokens wide_row pair_rows pair_texts fixed_rows numbered_rows hyphened base_of behind number_at suffix pair_bits pairs_bits fixed_bits takes numbered_bits spell ending plain_ap ap_bits spelled_bits or_else token_bits after pair_form fixed_form numbered_form symbol_form form_of wide_number letter_of go_on read_letters read_spelled read_form read_token white half addr_call double cut_to ssid_of call_bytes any_high classify_of split_off digi_fields parse_of type_of header_of body_bytes tokens_bits digi_bits head_bits info_bits frame_bits code_parsed encode_of marked read_tokens read_digis read_head read_info addresses read_frame code_of decode_message decode_some decode_of
polled_holds = refl

pub lettered_holds : all lettered ≡ true
unfolding with_source with_letter with_digi message lettered is_refused gives_message holds all odd num bits_of value_of fit pack_n pack unpack pick between upper same is_one_of starts later position trim_front keep_or trim_end trim sevens last_or text7_bits val_from val_of call_alphabet long sym_of alpha_of wide_tokens wide_row pair_rows pair_texts fixed_rows numbered_rows hyphened base_of behind number_at suffix pair_bits pairs_bits fixed_bits takes numbered_bits spell ending plain_ap ap_bits spelled_bits or_else token_bits white half addr_call ssid_of any_high classify_of split_off digi_fields parse_of type_of header_of body_bytes tokens_bits digi_bits head_bits info_bits frame_bits code_parsed encode_of code_of
lettered_holds = refl

pub readings_hold : all readings ≡ true
unfolding count_leading_zeros width_of top_bits from_k1a aprs_from_k1a wide1 wide2 with_a with_info readings gives_message gives_data is_refused gives_call holds all odd num bits_of value_of fit pack_n pack unpack pick between upper same is_one_of starts later position trim_front keep_or trim_end trim take_bits take_text sevens numbers last_or text7_bits differ counted end_of text7_of stops next_val val_from val_of call_alphabet long sym_of alpha_of wide_tokens wide_row pair_rows pair_texts fixed_rows numbered_rows hyphened base_of behind number_at two_digits decimal suffix pair_bits pairs_bits fixed_bits takes numbered_bits spell ending plain_ap ap_bits spelled_bits or_else token_bits after pair_form fixed_form numbered_form symbol_form form_of wide_number read_pair read_number letter_of go_on read_letters read_spelled read_form read_token white half addr_call double cut_to ssid_of call_bytes any_high classify_of split_off digi_fields parse_of type_of header_of body_bytes tokens_bits digi_bits head_bits info_bits frame_bits code_parsed encode_of marked read_tokens read_digis read_head read_info addresses read_frame code_of decode_message decode_some decode_of filled is_digit before joined all_digits unsigned no_plus altitude altitude_bits altitude_at front_bits front_size text_from text_bits padded altitude_text code_text code_span read_from read_text words word first_of word_at call_of message_bits read_message body_bits read_body collect_of call_part call_field inner_bits last_field path_field third_bits read_third marks_at is_position is_timestamped is_message stops_at ends_at tally scan_third is_third aliases alias_calls same_all alias_from alias_of name_at read_alias read_aliased
readings_hold = refl
