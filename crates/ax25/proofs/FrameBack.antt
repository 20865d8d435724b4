-- A plain frame is coded and read back.
-- Assumes nothing.
use mathlib.Core.Path.{◌≡◌, refl, sym, ap, ap₂, ◌∙◌}
use mathlib.Core.Bool.{Bool, true, false, and-true}
use mathlib.Core.List.{List, ◌∷◌, ◌++◌, append_assoc}
use Rattle.std.proofs.Common.{Some}
use Prim.Native.Nat.{ℕ, zero, suc, ◌+◌, ◌-◌, ◌*◌, ◌/◌, ◌%◌, ◌^◌, ◌≤◌, ◌<◌}
use native.Mathlib.Nat.{zero-add}
use native.Mathlib.Omega.{arith}
use lib.ListN.{length, replicate, length-append, length-replicate}
use lib.Dec.{eqb}
use Rattle.laws.specs.Bits.{odd, pack, unpack}
use Rattle.laws.specs.Pick.{pick}
use Rattle.laws.specs.Text.{ascii, starts}
use Rattle.laws.proofs.ByteLaws.{length_unpack, unpack_pack, unpack_whole, pack_n_front}
use Rattle.bits_write.specs.Text7.{last_or, text7_bits}
use Rattle.bits_write.proofs.Text7Laws.{length_text7}
use Rattle.bits.proofs.Text7Laws.{text7_back}
use Rattle.refusals.specs.Outcome.{answer}
use Rattle.ax25_token.specs.Clean.{call_text}
use Rattle.ax25_address.specs.Types.{Text, Binary, ThirdParty, Ax25}
use Rattle.ax25_address.specs.Classify.{classify_of}
use Rattle.ax25_address.specs.Parse.{type_of}
use Rattle.ax25_address.proofs.AddressLaws.{starts_call}
use Rattle.ax25_address.proofs.ParseLaws.{none_high, type_wide, type_narrow, not_binary}
use Rattle.ax25_aprs.specs.Plain.{PlainBody, position, timestamped, message}
use Rattle.ax25_aprs.proofs.BodyBack.{body_back}
use Rattle.ax25.specs.Encode.{digi_code, type_width, header_of, body_bytes, info_bits, frame_bits, code_parsed, encode_of}
use Rattle.ax25.specs.Decode.{digi_count, known, bytes_in, read_info, read_frame, addresses}
use Rattle.ax25.specs.Plain.{address_field, PlainInfo, text, binary, body, Plain}
use Rattle.ax25.proofs.HeadBack.{HeadBack, head_back, addresses_back}
use Rattle.ax25.proofs.PlainLaws.{odd_yes, texts, heards, length_texts, plain_parsed, plain_parsed_lem}

-- ---- the header of a UI frame

record Header (n h : ℕ) : Type 0 where
  ax25 : h / 16 % 4 ≡ Ax25
  count : digi_count h ≡ n
  ui : odd (h / 64) ≡ true

header : (n : ℕ) → n ≤ 8 → Header n (0x40 + digi_code n)
unfolding pick
header zero l = record { ax25 = refl; count = unfold odd in refl; ui = unfold odd in refl }
header (suc n) l =
    let c : odd ((0x40 + (8 + n)) / 8) ≡ true = odd_yes ((0x40 + (8 + n)) / 8) (omega arith) in
    record {
      ax25 = omega arith;
      count = rw c (omega arith);
      ui = odd_yes ((0x40 + (8 + n)) / 64) (omega arith);
    }

-- ---- the type

type_fits : (ap : Bool) (d : List ℕ) → classify_of ap d < 2 ^ type_width ap
unfolding pick
type_fits true d = type_wide d
type_fits false d = type_narrow d

-- a type with a body of its own
record Own (typ : ℕ) : Type 0 where
  not_text : eqb typ Text ≡ false
  not_bytes : eqb typ Binary ≡ false
  not_third : eqb typ ThirdParty ≡ false
  is_known : known typ ≡ true
  more : 2 ≤ typ

own : {mended : Bool} {typ : ℕ} {d : List ℕ} → PlainBody mended typ d → Own typ
own (position s x) = record { not_text = refl; not_bytes = refl; not_third = refl; is_known = refl; more = omega arith }
own (timestamped t s x y) = record { not_text = refl; not_bytes = refl; not_third = refl; is_known = refl; more = omega arith }
own (message c k s x y) = record { not_text = refl; not_bytes = refl; not_third = refl; is_known = refl; more = omega arith }

-- ---- a plain frame

-- the frame is coded, never refused, and read back
pub record FrameBack (mended : Bool) (d : List ℕ) : Type 0 where
  pub header : ℕ
  pub rest : List ℕ
  pub typ : ℕ
  pub coded : encode_of Ax25 d ≡ answer (record { bytes = header ∷ rest; typ = typ })
  pub ax25 : header / 16 % 4 ≡ Ax25
  pub back : read_frame mended 6 header (unpack rest) ≡ Some d

-- zeros up to a whole byte
zeros : (b : List Bool) → (z : ℕ) × (z < 8) × (unpack (pack b) ≡ b ++ replicate z false)
zeros b = ((length b + 7) / 8 * 8 - length b, omega arith, unpack_pack b)

module _ {mended : Bool} {d : List ℕ} (f : Plain mended d) where
  abbrev ap? : Bool
  ap? = starts (ascii "AP") (call_text f.dest.letters f.dest.ssid)

  abbrev typ : ℕ
  typ = classify_of ap? f.info

  abbrev head : ℕ
  head = header_of Ax25 (plain_parsed f)

  -- all the bits, of which those after the head give the information back
  record Body (out : List Bool) : Type 0 where
    all : List Bool
    rest : List Bool
    bits_coded : frame_bits 6 (plain_parsed f) typ out ≡ answer all
    unpacked : unpack (pack all) ≡ out ++ rest
    read : read_info mended 6 typ (out ++ rest) rest ≡ Some f.info

  header_is : Header (length f.digis) head
  unfolding header_of pick
  header_is = rw (length_texts f.digis, zero-add (0x40 + digi_code (length f.digis))) (header (length f.digis) f.few)

  addresses_is : addresses 6 (call_text f.dest.letters f.dest.ssid ∷ call_text f.src.letters f.src.ssid ∷ texts f.digis) (false ∷ false ∷ heards f.digis)
      ≡ address_field (f.dest ∷ f.src ∷ f.digis)
  unfolding texts heards
  addresses_is =
      let calls : List (List ℕ) = call_text f.dest.letters f.dest.ssid ∷ call_text f.src.letters f.src.ssid ∷ texts f.digis in
      ap₂ (λ (a b : Bool). addresses 6 calls (a ∷ b ∷ heards f.digis)) (sym f.dest_unheard) (sym f.src_unheard)
      ∙ addresses_back mended (f.dest ∷ f.src ∷ f.digis) f.clean

  module _ (b : HeadBack mended f.dest f.src f.digis typ (plain_parsed f)) (y : Body b.out) where
    frame_coded : encode_of Ax25 d ≡ answer (record { bytes = head ∷ pack y.all; typ = typ })
    unfolding encode_of code_parsed type_of pick
    frame_coded = rw (plain_parsed_lem f, and-true ap?, b.is, y.bits_coded)

    frame_read : read_frame mended 6 head (unpack (pack y.all)) ≡ Some d
    unfolding read_frame pick
    frame_read =
        rw (header_is.count, y.unpacked, b.back y.rest, y.read, header_is.ui)
        (ap (λ (a : List ℕ). Some (a ++ (0x03 ∷ 0xF0 ∷ f.info))) addresses_is ∙ ap Some (sym f.is))

    with_parts : FrameBack mended d
    with_parts =
        record {
          header = head;
          rest = pack y.all;
          typ = typ;
          coded = frame_coded;
          ax25 = header_is.ax25;
          back = frame_read;
        }

  -- the head, of a type that there is
  head_is_lem : known typ ≡ true → HeadBack mended f.dest f.src f.digis typ (plain_parsed f)
  head_is_lem k = head_back mended f.dest f.src f.digis typ (plain_parsed f) f.clean (type_fits ap? f.info, k) refl refl refl refl

  text_body : typ ≡ Text → (out : List Bool) → Body out
  unfolding frame_bits info_bits read_info body_bytes pick
  text_body e out =
      let low = none_high f.info (not_binary ap? f.info (λ q. omega arith)) in
      let t = text7_bits (length out) (last_or false out) f.info in
      let at : length (out ++ t) - length t ≡ length out = omega (arith, length-append out t) in
      record {
        all = out ++ t;
        rest = t;
        bits_coded = rw e;
        unpacked = unpack_whole (out ++ t) (omega (arith, length-append out t, length_text7 (length out) (last_or false out) f.info));
        read = rw (e, at) (text7_back out f.info low);
      }

  binary_body : typ ≡ Binary → (out : List Bool) → Body out
  unfolding frame_bits info_bits read_info body_bytes bytes_in pick
  binary_body e out =
      let z = zeros (out ++ unpack f.info) in
      let whole : length (unpack f.info ++ replicate z.0 false) / 8 ≡ length f.info =
      omega (arith, length-append (unpack f.info) (replicate z.0 false), length_unpack f.info, length-replicate z.0 false, z.1) in
      record {
        all = out ++ unpack f.info;
        rest = unpack f.info ++ replicate z.0 false;
        bits_coded = rw e;
        unpacked = z.2 ∙ append_assoc out (unpack f.info) (replicate z.0 false);
        read = rw (e, whole) (ap Some (pack_n_front f.info (replicate z.0 false) f.octets));
      }

  own_body : PlainBody mended typ f.info → (out : List Bool) → Body out
  unfolding frame_bits info_bits read_info body_bytes pick
  own_body x out =
      let o = own x in
      let y = body_back mended 6 (omega arith) (omega arith) x in
      let z = zeros (out ++ y.coded) in
      record {
        all = out ++ y.coded;
        rest = y.coded ++ replicate z.0 false;
        bits_coded = rw (o.not_text, o.not_bytes, o.not_third, y.is_coded);
        unpacked = z.2 ∙ append_assoc out y.coded (replicate z.0 false);
        read = rw (o.not_text, o.not_bytes, o.not_third) (y.is_read z.0);
      }

  pub frame_back : FrameBack mended d
  frame_back = cases (rw (← starts_call f.dest.letters f.dest.ssid) at f.kind)
    where
      with_body : known typ ≡ true → ((out : List Bool) → Body out) → FrameBack mended d
      with_body k y = let b = head_is_lem k in with_parts b (y b.out)

      cases : PlainInfo mended typ f.info → FrameBack mended d
      cases (text e) = with_body (ap known e) (text_body e)
      cases (binary e) = with_body (ap known e) (binary_body e)
      cases (body x) = with_body (own x).is_known (own_body x)
