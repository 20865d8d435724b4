-- The refusals of the calls, before a lent output is looked at: the coder's are 1 to 5, and no call's is 6.
-- Assumes nothing.
use mathlib.Core.Path.{◌≡◌, refl, sym, ap, ◌∙◌}
use mathlib.Core.Bool.{Bool, true, false, true≢false, ◌&&◌}
use mathlib.Core.List.{List, [], ◌∷◌, ◌++◌}
use Rattle.std.proofs.Common.{Option, None, Some}
use Prim.Native.Nat.{ℕ, ◌/◌, ◌%◌}
use lib.ListN.{length, drop, take}
use lib.Dec.{eqb, ltb}
use Rattle.laws.specs.Bits.{bits_of, unpack}
use Rattle.laws.specs.Pick.{pick}
use Rattle.laws.specs.Text.{is_digit}
use Rattle.bits_write.specs.Write.{top_bits}
use Rattle.bits.specs.Val.{val_of}
use Rattle.refusals.specs.Outcome.{Outcome, refused, answer}
use Rattle.refusals.proofs.OutcomeLaws.{answer_not, same_refusal}
use Rattle.sender.specs.Send.{send_of}
use Rattle.frame.specs.declared.Control.{Control}
use Rattle.frame.specs.Frame.{build_of}
use Rattle.ax25_token.specs.Token.{token_bits}
use Rattle.ax25_address.specs.Classify.{one_of}
use Rattle.ax25_address.specs.Parse.{Parsed, parse_of, type_of}
use Rattle.ax25_address.specs.Types.{Text, Binary, Position, TimestampedPosition, Message, ThirdParty, Generic, call_len}
use Rattle.ax25_aprs.specs.Coded.{◌then◌, or_refused}
use Rattle.ax25_aprs.specs.Text.{text_bits}
use Rattle.ax25_aprs.specs.LatLon.{place_bits, latlon_bits}
use Rattle.ax25_aprs.specs.Body.{call_of, timestamped_bits, message_bits, body_bits}
use Rattle.ax25_aprs.specs.Third.{Field, ended, full, short, collect_of, call_part, call_field, inner_bits, last_field, path_field, third_bits}
use Rattle.ax25.specs.Decode.{read_frame}
use Rattle.ax25.specs.Encode.{header_of, head_bits, info_bits, frame_bits, or_three, or_four, packed, code_parsed, encode_of}
use Rattle.kiss.specs.Codec.{code_of, or_seven, decode_message, decode_some, decode_of}
use Rattle.room.specs.Room.{RefusesBy, is_coders, is_not_short, NotShort}

-- ---- the ways an outcome is made

module _ {A : Type 0} (p : ℕ → Bool) where
  pub no : (n : ℕ) → p n ≡ true → RefusesBy {A = A} p (refused n)
  no n h m e = ap p (sym (same_refusal e)) ∙ h

  pub yes : (a : A) → RefusesBy p (answer a)
  yes a m e = absurd (answer_not e)

  pub either : (t : Bool) {o q : Outcome A} → RefusesBy p o → RefusesBy p q → RefusesBy p (pick t o q)
  unfolding pick
  either true f g = f
  either false f g = g

-- a test that 6 does not pass
pub not_short : {A : Type 0} {o : Outcome A} (p : ℕ → Bool) → p 6 ≡ false → RefusesBy p o → NotShort o
not_short p h f e = true≢false (sym (f 6 e) ∙ h)

both : (o p : Outcome (List Bool)) → RefusesBy is_coders o → RefusesBy is_coders p → RefusesBy is_coders (o then p)
both (refused n) p f g = f
both (answer a) (refused n) f g = g
both (answer a) (answer b) f g = yes is_coders (a ++ b)

four : (o : Option (List Bool)) → RefusesBy is_coders (or_refused 4 o)
four None = no is_coders 4 refl
four (Some b) = yes is_coders b

five : (o : Option (List Bool)) → RefusesBy is_coders (or_refused 5 o)
five None = no is_coders 5 refl
five (Some b) = yes is_coders b

three : {A : Type 0} → RefusesBy {A = A} is_coders (refused 3)
three = no is_coders 3 refl

-- ---- bodies

latlon_own : (s : List ℕ) → RefusesBy is_coders (latlon_bits s)
unfolding latlon_bits
latlon_own s = either is_coders (ltb (length s) 19) three (both (answer (place_bits s)) _ (yes is_coders (place_bits s)) (five (text_bits true (drop 19 s))))

timestamped_own : (s : List ℕ) → RefusesBy is_coders (timestamped_bits s)
unfolding timestamped_bits
timestamped_own s =
    let b = top_bits 20 (val_of (take 6 s)) in
    both (answer b) (latlon_bits (drop 7 s)) (yes is_coders b) (latlon_own (drop 7 s))

module _ (l : ℕ) where
  message_own : (s : List ℕ) → RefusesBy is_coders (message_bits l s)
  unfolding message_bits
  message_own s = both _ _ (four (token_bits l (call_of (take 9 s)))) (five (text_bits false (drop 10 s)))

  body_own : (typ : ℕ) (s : List ℕ) → RefusesBy is_coders (body_bits typ l s)
  unfolding body_bits
  body_own typ s =
      either is_coders (eqb typ Text) (five (text_bits false s))
      (either is_coders (eqb typ Position) (latlon_own s)
      (either is_coders (eqb typ TimestampedPosition) (timestamped_own s) (message_own s)))

  -- ---- the third party

  inner_own : (d : List ℕ) → RefusesBy is_coders (inner_bits l d)
  unfolding inner_bits
  inner_own [] = three
  inner_own (c ∷ []) = three
  inner_own (c ∷ x ∷ d) =
      either is_coders (one_of c 0x21 0x3D && is_digit x) (typed 0 Position (x ∷ d))
      (either is_coders (one_of c 0x40 0x2F && is_digit x) (typed 1 TimestampedPosition (x ∷ d))
      (either is_coders (eqb c 0x3A) (typed 2 Message (x ∷ d)) (typed 3 Text (c ∷ x ∷ d))))
    where
      typed : (k typ : ℕ) (s : List ℕ) → RefusesBy is_coders (answer (bits_of 2 k) then body_bits typ l s)
      typed k typ s = both (answer (bits_of 2 k)) (body_bits typ l s) (yes is_coders (bits_of 2 k)) (body_own typ s)

  call_own : (s : List ℕ) → RefusesBy is_coders (call_part l s)
  unfolding call_part
  call_own s = four (token_bits l (call_of s))

  field_own : (f : Field) (d : List ℕ) (next : List ℕ → Outcome (List Bool)) → ((e : List ℕ) → RefusesBy is_coders (next e)) → RefusesBy is_coders (call_field l f d next)
  unfolding call_field
  field_own short d next h = three
  field_own (ended s r) d next h = both (call_part l s) (next r) (call_own s) (h r)
  field_own (full s) d next h = both (call_part l s) (next d) (call_own s) (h d)

  last_own : (f : Field) (d : List ℕ) → RefusesBy is_coders (last_field l f d)
  unfolding last_field
  last_own short d = three
  last_own (ended s r) d = both (call_part l s) (inner_bits l (drop 1 r)) (call_own s) (inner_own (drop 1 r))
  last_own (full s) d = both (call_part l s) (inner_bits l d) (call_own s) (inner_own d)

  path_own : (f : Field) → RefusesBy is_coders (path_field l f)
  unfolding path_field
  path_own short = three
  path_own (ended s r) = last_own (collect_of 0x2A 10 r) r
  path_own (full s) = no is_coders 5 refl

  third_own : (d : List ℕ) → RefusesBy is_coders (third_bits l d)
  unfolding third_bits
  third_own d = field_own (collect_of 0x3E 10 d) d _ (λ e. field_own (collect_of 0x2C 10 e) e _ (λ f. path_own (collect_of 0x2C 14 f)))

  -- ---- the frame

  info_own : (r : Parsed) (typ : ℕ) (head : List Bool) → RefusesBy is_coders (info_bits l r typ head)
  unfolding info_bits
  info_own r typ head =
      either is_coders (eqb typ Text) (yes is_coders _)
      (either is_coders (eqb typ Binary) (yes is_coders _)
      (either is_coders (eqb typ ThirdParty) (third_own (drop 1 r.info)) (body_own typ (drop 1 r.info))))

  frame_own : (r : Parsed) (typ : ℕ) (head : List Bool) → RefusesBy is_coders (frame_bits l r typ head)
  unfolding frame_bits
  frame_own r typ head = both (answer head) (info_bits l r typ head) (yes is_coders head) (info_own r typ head)

packed_own : (header typ : ℕ) (o : Outcome (List Bool)) → RefusesBy is_coders o → RefusesBy is_coders (packed header typ o)
packed_own header typ (refused n) h m e = h m (ap refused (same_refusal e))
packed_own header typ (answer b) h m e = yes is_coders _ m e

parsed_own : (command : ℕ) (r : Parsed) → RefusesBy is_coders (code_parsed command r)
unfolding code_parsed
parsed_own command r = by (head_bits (call_len command) r (type_of command r))
  where
    by : (o : Option (List Bool)) → RefusesBy is_coders (or_four o (λ head. packed (header_of command r) (type_of command r) (frame_bits (call_len command) r (type_of command r) head)))
    by None = no is_coders 4 refl
    by (Some head) = packed_own (header_of command r) (type_of command r) (frame_bits (call_len command) r (type_of command r) head) (frame_own (call_len command) r (type_of command r) head)

encode_own : (command : ℕ) (d : List ℕ) → RefusesBy is_coders (encode_of command d)
unfolding encode_of
encode_own command d = by (parse_of (call_len command) d)
  where
    by : (o : Option Parsed) → RefusesBy is_coders (or_three o (code_parsed command))
    by None = three
    by (Some r) = parsed_own command r

-- ---- the calls

pub code_own : (command : ℕ) (d : List ℕ) → RefusesBy is_coders (code_of command d)
unfolding code_of
code_own command d =
    either is_coders (ltb 2 command) (no is_coders 1 refl)
    (either is_coders (ltb 4999 (length d)) (no is_coders 2 refl)
    (either is_coders (eqb command Generic) (yes is_coders _) (encode_own command d)))

seven_own : (command : ℕ) (o : Option (List ℕ)) → RefusesBy is_not_short (or_seven command o)
seven_own command None = no is_not_short 7 refl
seven_own command (Some d) = yes is_not_short (record { command = command; bytes = d })

message_frame_own : (mended : Bool) (header : ℕ) (rest : List ℕ) → RefusesBy is_not_short (decode_message mended header rest)
unfolding decode_message
message_frame_own mended header rest =
    let k = header / 16 % 4 in
    either is_not_short (eqb k 3) (no is_not_short 7 refl)
    (either is_not_short (eqb k 2) (yes is_not_short _) (seven_own k (read_frame mended (call_len k) header (unpack rest))))

some_own : (mended : Bool) (m : List ℕ) → RefusesBy is_not_short (decode_some mended m)
unfolding decode_some
some_own mended [] = no is_not_short 7 refl
some_own mended (header ∷ rest) = message_frame_own mended header rest

pub decode_own : (mended : Bool) (m : List ℕ) → RefusesBy is_not_short (decode_of mended m)
unfolding decode_of
decode_own mended m = either is_not_short (ltb 5000 (length m)) (no is_not_short 2 refl) (some_own mended m)

-- ---- the sender and its frames

pub send_own : (message : List ℕ) (field mask k : ℕ) → RefusesBy is_not_short (send_of message field mask k)
unfolding send_of
send_own message field mask k =
    either is_not_short _ (no is_not_short 8 refl)
    (either is_not_short _ (no is_not_short 9 refl) (either is_not_short _ (no is_not_short 10 refl) (either is_not_short _ (no is_not_short 2 refl) (either is_not_short _ (no is_not_short 11 refl) (either is_not_short _ (no is_not_short 12 refl) (either is_not_short _ (no is_not_short 13 refl) (yes is_not_short _)))))))

pub build_own : (field : ℕ) (d : List ℕ) (control : Control) (marker : ℕ) → RefusesBy is_not_short (build_of field d control marker)
unfolding build_of
build_own field d control marker = either is_not_short _ (no is_not_short 8 refl) (either is_not_short _ (no is_not_short 14 refl) (either is_not_short _ (no is_not_short 15 refl) (either is_not_short _ (no is_not_short 16 refl) (yes is_not_short _))))
