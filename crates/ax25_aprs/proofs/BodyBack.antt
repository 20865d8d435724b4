-- The bodies of plain frames are read back, with zeros after them, as many as there are.
-- Assumes nothing.
use mathlib.Core.Path.{◌≡◌}
use mathlib.Core.Bool.{Bool, false, false≢true}
use mathlib.Core.List.{List, [], ◌∷◌, ◌++◌, append_assoc}
use Rattle.std.proofs.Common.{Some}
use Prim.Native.Nat.{ℕ, ◌*◌, ◌%◌, ◌^◌, ◌≤◌}
use native.Mathlib.Nat.{mod-eq_of_lt}
use native.Mathlib.Omega.{arith}
use lib.ListN.{length, take, drop, replicate, length-append}
use lib.Seq.{take_at, drop_at, drop-append-add}
use borrow.Author.Tests.{le-ltb}
use Rattle.laws.specs.Bits.{bits_of}
use Rattle.laws.specs.Pick.{pick}
use Rattle.laws.specs.Text.{filled}
use Rattle.laws.proofs.BitLaws.{length_bits, value_bits}
use Rattle.laws.proofs.TrimLaws.{length_filled}
use Rattle.bits.specs.Val.{val_of}
use Rattle.bits_write.proofs.WriteLaws.{top_bits_lem}
use Rattle.refusals.specs.Outcome.{answer}
use Rattle.ax25_token.specs.Clean.{CleanCall, call_text}
use Rattle.ax25_token.proofs.CleanLaws.{clean_both}
use Rattle.ax25_token.proofs.TokenBack.{token_back}
use Rattle.ax25_address.specs.Types.{Position, TimestampedPosition, Message}
use Rattle.ax25_aprs.specs.LatLon.{field_of}
use Rattle.ax25_aprs.specs.Body.{timestamped_bits, read_timestamped, message_bits, read_message, body_bits, read_body}
use Rattle.ax25_aprs.specs.Plain.{Printable, DigitsOf, Place, place_bytes, PlainPlace, PlainBody, position, timestamped, message}
use Rattle.ax25_aprs.proofs.TextLaws.{padded_val}
use Rattle.ax25_aprs.proofs.TextBack.{text_back, text_zeros}
use Rattle.ax25_aprs.proofs.PlaceBack.{six_lt, place_back}
use Rattle.ax25_aprs.proofs.Sizes.{body_size_long}
use Rattle.ax25_aprs.proofs.CallLaws.{call_nine, call_filled}

-- the body after its type byte has bits, and they are read as the information, with zeros after them
pub record BodyBack (mended : Bool) (typ l : ℕ) (info : List ℕ) : Type 0 where
  pub coded : List Bool
  pub is_coded : body_bits typ l (drop 1 info) ≡ answer coded
  pub is_read : (z : ℕ) → read_body mended typ l (coded ++ replicate z false) ≡ Some info
  pub size : length coded ≤ 7 * length info

-- ---- the time

time_read : (v : ℕ) (r : List Bool) → field_of 0 20 (bits_of 20 v ++ r) ≡ v % 2 ^ 20
unfolding field_of
time_read v r = rw (take_at (bits_of 20 v) r 20 (length_bits 20 v)) (value_bits 20 v)

-- ---- each type

module _ (mended : Bool) (l : ℕ) (low : 6 ≤ l) (high : l ≤ 9) where
  sized : (typ c : ℕ) (s : List ℕ) (b : List Bool) → 10 ≤ length s → body_bits typ l s ≡ answer b → length b ≤ 7 * length (c ∷ s)
  sized typ c s b h e = omega (arith, body_size_long l (omega arith) high typ s h b e)

  position_back : (s : Place) → PlainPlace s → BodyBack mended Position l (0x21 ∷ place_bytes s)
  unfolding body_bits read_body pick
  position_back s p =
      let y = place_back s p in
      record {
        coded = y.coded;
        is_coded = y.is_coded;
        is_read = λ z. rw (y.is_read z);
        size = sized Position 0x21 (place_bytes s) y.coded (omega (arith, y.long)) y.is_coded;
      }

  timestamped_back : (t : List ℕ) (s : Place) → DigitsOf 6 t → PlainPlace s → BodyBack mended TimestampedPosition l (0x40 ∷ t ++ 0x68 ∷ place_bytes s)
  unfolding body_bits read_body timestamped_bits read_timestamped pick
  timestamped_back t s d p =
      let v = val_of t in
      let f = place_back s p in
      let y = f.coded in
      let x = bits_of 20 v in
      let n = length_bits 20 v in
      let c : List ℕ = 0x68 ∷ place_bytes s in
      let six : take 6 (t ++ c) ≡ t = take_at t c 6 d.0 in
      let seven : drop 7 (t ++ c) ≡ place_bytes s = rw d.0 at (drop-append-add t c 1) in
      let made : body_bits TimestampedPosition l (t ++ c) ≡ answer (x ++ y) = rw (six, seven, f.is_coded, top_bits_lem 20 v (omega arith) (six_lt t d)) in
      record {
        coded = x ++ y;
        is_coded = made;
        is_read = λ z.
            let r = y ++ replicate z false in
            rw (append_assoc x y (replicate z false), le-ltb (length (x ++ r)) 20 (omega (arith, length-append x r)), time_read v r, drop_at x r 20 n, f.is_read z, mod-eq_of_lt (six_lt t d), padded_val 6 t d.0 d.1 (omega arith), append_assoc t (0x68 ∷ []) (place_bytes s));
        size = sized TimestampedPosition 0x40 (t ++ c) (x ++ y) (omega (arith, f.long, length-append t c)) made;
      }

  message_back : (letters : List ℕ) (ssid : ℕ) (s : List ℕ) → CleanCall mended letters ssid → Printable s
      → BodyBack mended Message l (0x3A ∷ filled 9 (call_text letters ssid) ++ 0x3A ∷ s)
  unfolding body_bits read_body message_bits read_message pick
  message_back letters ssid s h p =
      let c = call_text letters ssid in
      let k = token_back mended letters ssid h l low in
      let x = k.bits in
      let b = text_back false s p (λ e. absurd (false≢true e)) in
      let y = b.coded in
      let f = filled 9 c in
      let n : length f ≡ 9 = length_filled 9 c (call_nine mended letters ssid h) in
      let nine : take 9 (f ++ 0x3A ∷ s) ≡ f = take_at f (0x3A ∷ s) 9 n in
      let ten : drop 10 (f ++ 0x3A ∷ s) ≡ s = rw n at (drop-append-add f (0x3A ∷ s) 1) in
      let made : body_bits Message l (f ++ 0x3A ∷ s) ≡ answer (x ++ y) = rw (nine, ten, call_filled mended letters ssid h 9, k.coded, b.is_coded) in
      record {
        coded = x ++ y;
        is_coded = made;
        is_read = λ z. rw (append_assoc x y (replicate z false), k.read (y ++ replicate z false), text_zeros false s b z);
        size = sized Message 0x3A (f ++ 0x3A ∷ s) (x ++ y) (omega (arith, length-append f (0x3A ∷ s))) made;
      }

  -- every plain body comes back
  pub body_back : {typ : ℕ} {info : List ℕ} → PlainBody mended typ info → BodyBack mended typ l info
  body_back (position s p) = position_back s p
  body_back (timestamped t s d p) = timestamped_back t s d p
  body_back (message letters ssid s h p) = message_back letters ssid s h p

-- a body that is plain under the original reading is plain under both
pub body_both : (mended : Bool) {typ : ℕ} {info : List ℕ} → PlainBody false typ info → PlainBody mended typ info
body_both mended (position s p) = position s p
body_both mended (timestamped t s d p) = timestamped t s d p
body_both mended (message letters ssid s h p) = message letters ssid s (clean_both mended letters ssid h) p
