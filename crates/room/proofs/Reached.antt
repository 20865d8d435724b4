-- The numbers are reached: a message that decodes to 45,764 bytes, data that are coded into 5,000, and for every field and mask messages
-- whose fragments have field, field and 2 bytes.
-- Assumes nothing.
use mathlib.Core.Path.{◌≡◌, refl, ap, ◌∙◌}
use mathlib.Core.Bool.{Bool, true, false}
use mathlib.Core.List.{List, [], ◌∷◌, ◌++◌}
use Rattle.std.proofs.Common.{Some}
use Prim.Native.Nat.{ℕ, zero, suc, ◌+◌, ◌*◌, ◌<◌}
use native.Mathlib.Omega.{arith}
use lib.ListN.{length, drop, length-append, length-replicate, replicate, get_or}
use borrow.Author.Tests.{le-ltb}
use Rattle.laws.specs.Bits.{num, odd, bits_of, pack}
use Rattle.laws.specs.Pick.{pick}
use Rattle.laws.specs.Text.{ascii, starts, filled}
use Rattle.laws.proofs.BitLaws.{length_bits}
use Rattle.laws.proofs.TrimLaws.{length_filled}
use Rattle.laws.proofs.ByteLaws.{length_pack, unpack_whole}
use Rattle.bits.specs.Val.{stops, next_val, val_from, val_of}
use Rattle.bits.proofs.ReadLaws.{take_bits_lem, text_yes}
use Rattle.refusals.specs.Limits.{field_ok, mask_ok}
use Rattle.refusals.specs.Outcome.{Outcome, answer}
use Rattle.refusals.proofs.LimitLaws.{field_low, field_high, mask_top}
use Rattle.sender.specs.Send.{count_of, fragment_of, send_of}
use Rattle.sender.proofs.CountLaws.{count_three}
use Rattle.sender.proofs.FullLaws.{shortest_last}
use Rattle.sender.proofs.MaskLaws.{most_three}
use Rattle.sender.proofs.SendLaws.{Sendable, send_answer}
use Rattle.ax25_token.specs.Token.{two_digits, decimal, suffix, after, wide_number, read_token}
use Rattle.ax25_token.proofs.Cases as cases
use Rattle.ax25_token.proofs.Cases.{pair_whole, form_wide, form_ap_name, token_form, read_pair_lem, read_name}
use Rattle.ax25_address.specs.Classify.{any_high}
use Rattle.ax25_address.specs.Parse.{aliases, alias_calls}
use Rattle.ax25_address.specs.Types.{Text, Message, ThirdParty, Ax25Long, Generic}
use Rattle.ax25_address.proofs.ParseLaws.{split_off_lem}
use Rattle.ax25_aprs.specs.Body.{read_message, read_body}
use Rattle.ax25_aprs.specs.Third.{read_third}
use Rattle.ax25_aprs.specs.Words.{words, word}
use Rattle.ax25_aprs.specs.Text.{read_text}
use Rattle.ax25_aprs.proofs.TextLaws.{code_word, span_text, read_short, read_code}
use Rattle.ax25.specs.Decode.{name_at, Head, is_empty, read_alias, read_aliased, read_digis, read_head, read_info, addresses, read_frame}
use Rattle.ax25_decode.specs.Put.{field_of}
use Rattle.ax25_decode.proofs.ReaderLaws.{field_size, alias_count}
use Rattle.kiss.specs.Generic.{generic_of}
use Rattle.kiss.specs.Codec.{code_of, decode_message, decode_some, decode_of}
use Rattle.room.specs.Room.{most_decoded, most_message}
use Rattle.room.proofs.BodyRoom.{party_of, party_size}
use Rattle.room.proofs.SendRoom.{sent_full}

-- ---- the text: a word of eight letters over and over, and a bit that is left

many : ℕ → List Bool
many zero = false ∷ []
many (suc k) = bits_of 7 3 ++ many k

length_many : (k : ℕ) → length (many k) ≡ 7 * k + 1
unfolding many
length_many zero = refl
length_many (suc k) = omega (arith, length-append (bits_of 7 3) (many k), length_bits 7 3, length_many k)

third_word : length (word 3) ≡ 8
unfolding word words
third_word = refl

text_size : (k : ℕ) → length (read_text false (many k)) ≡ 8 * k
unfolding many
text_size zero = ap length (read_short false (false ∷ []) (omega arith))
text_size (suc k) =
    let t = read_text false (many k) in
    let q : read_text false (bits_of 7 3 ++ many k) ≡ word 3 ++ t =
    read_code false 3 (many k) (omega arith) ∙ rw (code_word false 3 (many k) (omega arith) (omega arith), span_text 3) in
    omega (arith, ap length q, length-append (word 3) t, third_word, text_size k)

-- ---- the calls

named_reads : (l : ℕ) (r : List Bool) → read_token false l (bits_of 6 47 ++ r) ≡ Some (ascii "APBPQ1", r)
unfolding cases.name_at
named_reads l r =
    token_form false l (bits_of 6 47 ++ r) 47 r (take_bits_lem 6 47 r) ∙ rw (form_ap_name 47 (omega arith) (omega arith), read_name false l r (ascii "APBPQ1"))

-- WIDE2-3 is read so, under the original reading
wide_number_lem : (r : List Bool) → wide_number false 2 (bits_of 2 3 ++ r) ≡ Some (11, r)
unfolding wide_number bits_of odd num val_of val_from stops next_val pick
wide_number_lem r = text_yes 2 (true ∷ true ∷ r) (omega arith)

wide_reads : (l : ℕ) (r : List Bool) → read_token false l (bits_of 6 37 ++ (bits_of 1 1 ++ (bits_of 2 3 ++ r))) ≡ Some (ascii "WIDE2-11", r)
unfolding cases.name_at after suffix decimal two_digits pick
wide_reads l r =
    let s = bits_of 2 3 ++ r in
    let b = bits_of 1 1 ++ s in
    token_form false l (bits_of 6 37 ++ b) 37 b (take_bits_lem 6 37 b)
    ∙ rw (form_wide 37 refl, read_pair_lem false l b (ascii "WIDE") 2, pair_whole false 2 b 1 s (take_bits_lem 1 1 s) 11 r (wide_number_lem r))

-- ---- the body

abbrev call : List ℕ
call = ascii "APBPQ1"

abbrev theirs : List ℕ → List ℕ
theirs t = 0x3A ∷ filled 9 call ++ 0x3A ∷ t

message_reads : (b : List Bool) → read_body false Message 7 (bits_of 6 47 ++ b) ≡ Some (theirs (read_text false b))
unfolding read_body read_message pick
message_reads b = rw (named_reads 7 b)

abbrev body : List Bool → List Bool
body b = bits_of 6 37 ++ (bits_of 1 1 ++ (bits_of 2 3 ++ (bits_of 6 47 ++ (bits_of 6 47 ++ (bits_of 2 2 ++ (bits_of 6 47 ++ b))))))

third_reads : (b : List Bool) → read_third false 7 (body b) ≡ Some (party_of (ascii "WIDE2-11") call call (theirs (read_text false b)))
unfolding read_third pick
third_reads b =
    let x = bits_of 6 47 ++ b in
    let y = bits_of 2 2 ++ x in
    rw (wide_reads 7 (bits_of 6 47 ++ (bits_of 6 47 ++ y)), named_reads 7 (bits_of 6 47 ++ y), named_reads 7 y, take_bits_lem 2 2 x, message_reads b)

-- ---- the head

abbrev digis : List (List ℕ)
digis = alias_calls (ascii "WIDE") 1 8

digis_reads : (b : List Bool) → read_digis false 7 true 8 (true ∷ (bits_of 3 1 ++ b)) ≡ Some (digis, b)
unfolding read_digis read_aliased read_alias name_at aliases pick
digis_reads b = rw (take_bits_lem 3 1 b)

abbrev head : Head
head = record { dest = call; src = call; digis = digis; heard = replicate 8 false; typ = ThirdParty }

abbrev frame : List Bool → List Bool
frame b = replicate 8 false ++ (bits_of 6 47 ++ (bits_of 6 47 ++ (true ∷ (bits_of 3 1 ++ (bits_of 3 6 ++ b)))))

head_reads : (b : List Bool) → read_head false 7 8 (frame b) ≡ Some (head, b)
unfolding read_head starts pick
head_reads b =
    let x = bits_of 3 6 ++ b in
    let y = true ∷ (bits_of 3 1 ++ x) in
    rw (split_off_lem 8 (replicate 8 false) (bits_of 6 47 ++ (bits_of 6 47 ++ y)) refl, named_reads 7 (bits_of 6 47 ++ y), named_reads 7 y, digis_reads x, take_bits_lem 3 6 b)

-- ---- the frame

abbrev party : List ℕ → List ℕ
party t = party_of (ascii "WIDE2-11") call call (theirs t)

abbrev fields : List ℕ
fields = addresses 7 (call ∷ call ∷ digis) (false ∷ false ∷ replicate 8 false)

frame_reads : (b : List Bool) → read_frame false 7 0x5F (frame (body b)) ≡ Some (fields ++ ((0x03 ∷ 0xF0 ∷ []) ++ party (read_text false b)))
unfolding read_frame read_info odd pick
frame_reads b = rw (head_reads (body b), third_reads b)

fields_size : (cs : List (List ℕ)) (hs : List Bool) → length (addresses 7 cs hs) ≡ length cs * 8
unfolding addresses field_of
fields_size [] hs = refl
fields_size (c ∷ cs) hs =
    let f = field_of 7 (get_or hs 0 false) (is_empty cs) c in
    omega (arith, length-append f (addresses 7 cs (drop 1 hs)), field_size 7 (get_or hs 0 false) (is_empty cs) c, fields_size cs (drop 1 hs))

frame_size : (t : List ℕ) → length (fields ++ ((0x03 ∷ 0xF0 ∷ []) ++ party t)) ≡ 124 + length t
frame_size t =
    omega (arith, length-append fields ((0x03 ∷ 0xF0 ∷ []) ++ party t), fields_size (call ∷ call ∷ digis) (false ∷ false ∷ replicate 8 false), alias_count (ascii "WIDE") 1 8, party_size (ascii "WIDE2-11") call call (theirs t), length-append (filled 9 call) (0x3A ∷ t), length_filled 9 call (omega arith))

bits_size : (b : List Bool) → length (frame (body b)) ≡ 56 + length b
bits_size b = simp (length-append, length_bits) (omega arith)

-- ---- the message, and data that are as long as may be

-- an answer of so many bytes
pub record Reached {A : Type 0} (bytes : A → List ℕ) (o : Outcome A) (most : ℕ) : Type 0 where
  pub it : A
  pub is : o ≡ answer it
  pub size : length (bytes it) ≡ most

pub longest : List ℕ
longest = 0x5F ∷ pack (frame (body (many 5705)))

pub decoded_reached : Reached (λ r. r.bytes) (decode_of false longest) most_decoded
unfolding longest decode_of decode_some decode_message pick
decoded_reached =
    let t = read_text false (many 5705) in
    let b = frame (body (many 5705)) in
    let n : length b ≡ 39992 = omega (arith, bits_size (many 5705), length_many 5705) in
    record {
      it = record { command = Ax25Long; bytes = fields ++ ((0x03 ∷ 0xF0 ∷ []) ++ party t) };
      is = rw (le-ltb 5000 (length (0x5F ∷ pack b)) (omega (arith, length_pack b)), unpack_whole b (omega arith), frame_reads (many 5705));
      size = omega (arith, frame_size t, text_size 5705);
    }

pub binary : List ℕ
binary = 0x80 ∷ replicate 4998 0

binary_size : length binary ≡ 4999
unfolding binary
binary_size = ap suc (length-replicate {A = ℕ} 4998 0)

high_binary : any_high binary ≡ true
unfolding any_high binary
high_binary = refl

pub coded_reached : Reached (λ c. c.bytes) (code_of Generic binary) most_message
unfolding code_of generic_of pick
coded_reached =
    record {
      it = record { bytes = 0x20 ∷ binary; typ = Text };
      is = rw (le-ltb 4999 (length binary) (omega (arith, binary_size)), high_binary);
      size = omega (arith, binary_size);
    }

-- ---- three fragments, for every field and mask: of any message of one byte less than two fields

module _ (message : List ℕ) (field mask : ℕ) (f : field_ok field ≡ true) (m : mask_ok mask ≡ true) (first_low : get_or message 0 0 < 128) (size : length message + 1 ≡ 2 * field) where
  takes_three : count_of (length message) field ≡ 3
  takes_three = count_three (length message) field (field_low field f) size

  sendable : Sendable message field mask
  sendable =
      record {
        field_ok_holds = f;
        mask_ok_holds = m;
        some = omega (arith, field_low field f);
        short = omega (arith, field_high field f);
        first_low = first_low;
        room = omega (arith, takes_three, most_three mask (mask_top mask m));
      }

  each_sent : (k : ℕ) → k < 3 → send_of message field mask k ≡ answer (fragment_of message field mask k)
  each_sent k below = send_answer message field mask k sendable (omega (arith, takes_three))

  -- each before the last is full
  pub full_reached : (k : ℕ) → k < 2 → Reached (λ v. v) (send_of message field mask k) field
  full_reached k before =
      let is = each_sent k (omega arith) in
      record { it = fragment_of message field mask k; is = is; size = sent_full message field mask k (fragment_of message field mask k) is (omega (arith, takes_three)) }

  -- the last is as short as may be
  pub last_reached : Reached (λ v. v) (send_of message field mask 2) 2
  last_reached =
      record { it = fragment_of message field mask 2; is = each_sent 2 (omega arith); size = shortest_last message field mask (field_low field f) size }
