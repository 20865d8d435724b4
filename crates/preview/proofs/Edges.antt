-- The worked examples of the preview (02, E3), a table that holds of the definitions as a whole, and what meets the premises of its laws.
-- Assumes nothing.
use mathlib.Core.Path.{◌≡◌, refl, ap, ◌∙◌}
use mathlib.Core.Bool.{Bool, true, false, ◌&&◌}
use mathlib.Core.List.{List, [], ◌∷◌}
use Prim.Native.Nat.{ℕ}
use native.Mathlib.Omega.{arith}
use lib.ListN.{take, replicate, length-replicate}
use lib.Dec.{eqb}
use Rattle.laws.specs.Bits.{odd, num, bits_of, value_of, fit, pack_n, pack}
use Rattle.laws.specs.Pick.{pick}
use Rattle.laws.specs.Text.{same, between, upper, is_one_of, starts, later, position, trim_front, keep_or, trim_end, trim}
use Rattle.bits_write.specs.Text7.{sevens, last_or, text7_bits}
use Rattle.bits.specs.Val.{stops, next_val, val_from, val_of}
use Rattle.crc.specs.Crc.{crc_bit, crc_steps, crc_byte, crc_from, crc_of, crc_bits}
use Rattle.refusals.specs.Limits.{top_of}
use Rattle.refusals.specs.Outcome.{Outcome, refused, answer}
use Rattle.sender.specs.Send.{ceiling, count_of, check_of, lead_of, fragment_of, most_of, send_of}
use Rattle.ax25_token.specs.Tables.{call_alphabet, long, sym_of, alpha_of, wide_tokens, wide_row, pair_rows, pair_texts, fixed_rows, numbered_rows}
use Rattle.ax25_token.specs.Token.{token_bits, hyphened, base_of, behind, number_at, suffix, pair_bits, pairs_bits, fixed_bits, takes, numbered_bits, spell, ending, plain_ap, ap_bits, spelled_bits, or_else}
use Rattle.ax25_address.specs.Types.{Ax25, Generic, Text}
use Rattle.ax25_address.specs.Address.{white, half, addr_call, ssid_of}
use Rattle.ax25_address.specs.Classify.{any_high, classify_of}
use Rattle.ax25_address.specs.Parse.{split_off, digi_fields, parse_of, type_of}
use Rattle.ax25.specs.Encode.{Coded, header_of, body_bytes, tokens_bits, digi_bits, head_bits, info_bits, frame_bits, code_parsed, encode_of}
use Rattle.kiss.specs.Generic.{generic_of}
use Rattle.kiss.specs.Codec.{code_of}
use Rattle.kiss.specs.Told.{code_into}
use Rattle.preview.specs.Preview.{coded_price, preview_of, priced_in}
use Rattle.preview.specs.declared.Price.{Price}
use Rattle.preview.proofs.PreviewLaws.{preview_is, preview_count}

pub data Edge : Type 0 where
  costs : ℕ → List ℕ → ℕ → ℕ → ℕ → ℕ → Edge  -- command, data, field and mask, the coded length and the count
  refuses : ℕ → List ℕ → ℕ → ℕ → ℕ → Edge  -- command, data, field and mask, the number that they are refused with

-- a frame of CQ from K1A, and one from k_1, with 03, F0 and A
pub frame : List ℕ
frame = 0x86 ∷ 0xA2 ∷ 0x40 ∷ 0x40 ∷ 0x40 ∷ 0x40 ∷ 0x60 ∷ 0x96 ∷ 0x62 ∷ 0x82 ∷ 0x40 ∷ 0x40 ∷ 0x40 ∷ 0x61 ∷ 0x03 ∷ 0xF0 ∷ 0x41 ∷ []

small : List ℕ
small = 0x86 ∷ 0xA2 ∷ 0x40 ∷ 0x40 ∷ 0x40 ∷ 0x40 ∷ 0x60 ∷ 0xD6 ∷ 0xBE ∷ 0x62 ∷ 0x40 ∷ 0x40 ∷ 0x40 ∷ 0x61 ∷ 0x03 ∷ 0xF0 ∷ 0x41 ∷ []

pub table : List Edge
table =
    costs Ax25 frame 5 0xF0 7 2
    ∷ costs Generic [] 3 0xF0 2 1
    ∷ costs Generic (replicate 33 0x80) 3 0xF0 34 17
    ∷ refuses Generic (replicate 34 0x80) 3 0xF0 12
    ∷ costs Generic (replicate 17 0x80) 3 0xF8 18 9
    ∷ refuses Generic (replicate 18 0x80) 3 0xF8 12
    ∷ refuses 3 frame 2 0x00 1
    ∷ refuses Ax25 (take 10 frame) 2 0x00 3
    ∷ refuses Ax25 frame 2 0x00 8
    ∷ refuses Ax25 frame 3 0x00 9
    ∷ costs Generic (replicate 4999 0x80) 512 0xF0 5000 10
    ∷ costs Generic (replicate 4999 0x41) 512 0xF0 4376 9
    ∷ refuses Generic (replicate 5000 0x80) 2 0x00 2
    ∷ refuses Ax25 small 513 0xF1 4
    ∷ []

is_refused : ℕ → Outcome Price → Bool
is_refused n (refused m) = eqb m n
is_refused n (answer p) = false

gives_price : ℕ → ℕ → Outcome Price → Bool
gives_price length count (refused m) = false
gives_price length count (answer p) = eqb p.length length && eqb p.count count

holds : Edge → Bool
holds (costs command d field mask length count) = gives_price length count (preview_of command d field mask)
holds (refuses command d field mask n) = is_refused n (preview_of command d field mask)

pub all : List Edge → Bool
all [] = true
all (e ∷ es) = holds e && all es

pub table_holds : all table ≡ true
unfolding top_of frame small table is_refused gives_price holds all preview_of odd num bits_of value_of fit pack_n pack pick between upper same is_one_of starts later position trim_front keep_or trim_end trim crc_bit crc_steps crc_byte crc_from crc_of crc_bits sevens last_or text7_bits stops next_val val_from val_of ceiling count_of check_of lead_of fragment_of most_of send_of call_alphabet long sym_of alpha_of wide_tokens wide_row pair_rows pair_texts fixed_rows numbered_rows hyphened base_of behind number_at suffix pair_bits pairs_bits fixed_bits takes numbered_bits spell ending plain_ap ap_bits spelled_bits or_else token_bits white half addr_call ssid_of any_high classify_of split_off digi_fields parse_of type_of header_of body_bytes tokens_bits digi_bits head_bits info_bits frame_bits code_parsed encode_of generic_of code_of
table_holds = refl

-- ---- what meets the premises of the laws

abbrev pub coded : Coded
coded = record { bytes = 0x40 ∷ 0xAC ∷ 0xB7 ∷ 0x01 ∷ 0x00 ∷ 0x10 ∷ 0x40 ∷ []; typ = Text }

abbrev pub price : Price
price = record { length = 7; count = 2 }

pub frame_coded : code_of Ax25 frame ≡ answer coded
unfolding frame odd num bits_of value_of fit pack_n pack pick between upper same is_one_of starts later position trim_front keep_or trim_end trim sevens last_or text7_bits stops next_val val_from val_of call_alphabet long sym_of alpha_of wide_tokens wide_row pair_rows pair_texts fixed_rows numbered_rows hyphened base_of behind number_at suffix pair_bits pairs_bits fixed_bits takes numbered_bits spell ending plain_ap ap_bits spelled_bits or_else token_bits white half addr_call ssid_of any_high classify_of split_off digi_fields parse_of type_of header_of body_bytes tokens_bits digi_bits head_bits info_bits frame_bits code_parsed encode_of generic_of code_of
frame_coded = refl

coded_priced : coded_price (answer coded) 5 0xF0 ≡ answer price
unfolding top_of pick ceiling count_of most_of send_of
coded_priced = refl

pub frame_priced : preview_of Ax25 frame 5 0xF0 ≡ answer price
unfolding preview_of
frame_priced = ap (λ (o : Outcome Coded). coded_price o 5 0xF0) frame_coded ∙ coded_priced

-- two fragments of seven bytes, and no third
pub frame_sent : (send_of coded.bytes 5 0xF0 1 ≡ answer (fragment_of coded.bytes 5 0xF0 1)) × (send_of coded.bytes 5 0xF0 2 ≡ refused 13)
frame_sent =
    let q = preview_count Ax25 frame 5 0xF0 coded price frame_coded frame_priced in
    (q.1.0 1 (omega arith), q.1.1 2 (omega arith))

-- the same frame, coded to 5,000 zeros and sent to 512
pub frame_in : preview_of Ax25 frame 5 0xF0 ≡ priced_in (code_into (code_of Ax25 frame) (replicate 5000 0)) 5 0xF0 (replicate 512 0)
frame_in = preview_is Ax25 frame 5 0xF0 (replicate 5000 0) (replicate 512 0) (omega (arith, length-replicate {A = ℕ} 5000 0)) (omega (arith, length-replicate {A = ℕ} 512 0))

-- a preview that is refused, as `preview_never` has it
pub crowded : preview_of Generic (replicate 34 0x80) 3 0xF0 ≡ refused 12
unfolding top_of pick ceiling count_of most_of send_of any_high generic_of code_of preview_of
crowded = refl
