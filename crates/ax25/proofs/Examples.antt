-- Plain frames: one of each type, with none to eight digipeaters that have heard it and that have not; and with WIDE2-2, under the mended reading alone.
-- Assumes nothing.
use mathlib.Core.Path.{◌≡◌, refl}
use mathlib.Core.Bool.{Bool, true, false, ◌&&◌, not}
use mathlib.Core.List.{List, [], ◌∷◌, ◌++◌}
use Prim.Native.Nat.{ℕ}
use native.Mathlib.Omega.{arith}
use lib.ListN.{length, get_or}
use lib.Dec.{leb, ltb}
use borrow.Author.Tests.{leb-true, ltb-true, not-true}
use Rattle.laws.specs.Bits.{Bytes}
use Rattle.laws.specs.Pick.{pick}
use Rattle.laws.specs.Text.{ascii, between, is_digit, same, is_one_of, starts, filled}
use Rattle.laws.proofs.Cases.{and_left, and_right}
use Rattle.laws.proofs.TextLaws.{below, at_each}
use Rattle.ax25_token.specs.Token.{two_digits, decimal, suffix}
use Rattle.ax25_token.specs.Clean.{clean_letter, clean_letters, misread, misread_by, call_text, CleanCall}
use Rattle.ax25_address.specs.Classify.{any_high, marks_at, is_position, is_timestamped, is_message, classify_of}
use Rattle.ax25_aprs.proofs.Examples.{remark, a_position, a_timestamped, a_message, to_wide}
use Rattle.ax25.specs.Plain.{Address, AllClean, address_bytes, address_field, text, binary, body, Plain}

bytes_by : (s : List ℕ) → below (λ i. ltb (get_or s i 0) 256) (length s) ≡ true → Bytes s
bytes_by s t i h = ltb-true (get_or s i 0) 256 (at_each (λ i. ltb (get_or s i 0) 256) (length s) t i h)

-- ---- clean calls by a computed test

clean_test : Bool → List ℕ → ℕ → Bool
clean_test mended s n = clean_letters s && (leb 1 (length s) && (leb (length s) 6 && (ltb n 16 && not (is_one_of (call_text s n) (misread_by mended)))))

clean_by : (mended : Bool) (s : List ℕ) (n : ℕ) → clean_test mended s n ≡ true → CleanCall mended s n
unfolding clean_test
clean_by mended s n t =
    let t₁ = and_right (clean_letters s) _ t in
    let t₂ = and_right (leb 1 (length s)) _ t₁ in
    let t₃ = and_right (leb (length s) 6) _ t₂ in
    record {
      clean = and_left (clean_letters s) _ t;
      some_letters = leb-true 1 (length s) (and_left (leb 1 (length s)) _ t₁);
      few_letters = leb-true (length s) 6 (and_left (leb (length s) 6) _ t₂);
      small = ltb-true n 16 (and_left (ltb n 16) _ t₃);
      not_misread = not-true (is_one_of (call_text s n) (misread_by mended)) (and_right (ltb n 16) _ t₃);
    }

all_test : Bool → List Address → Bool
all_test mended [] = true
all_test mended (a ∷ v) = clean_test mended a.letters a.ssid && all_test mended v

all_clean : (mended : Bool) (v : List Address) → all_test mended v ≡ true → AllClean mended v
unfolding all_test
all_clean mended [] t = tt
all_clean mended (a ∷ v) t =
    let c = clean_test mended a.letters a.ssid in
    (clean_by mended a.letters a.ssid (and_left c (all_test mended v) t), all_clean mended v (and_right c (all_test mended v) t))

abbrev to : List ℕ → ℕ → Bool → Address
to letters ssid heard = record { letters = letters; ssid = ssid; heard = heard }

-- ---- frames

-- Text: document 01's frame, CQ from K1A
pub plain_text : Plain false (
    0x86 ∷ 0xA2 ∷ 0x40 ∷ 0x40 ∷ 0x40 ∷ 0x40 ∷ 0x60
    ∷ 0x96 ∷ 0x62 ∷ 0x82 ∷ 0x40 ∷ 0x40 ∷ 0x40 ∷ 0x61
    ∷ 0x03 ∷ 0xF0 ∷ ascii "A"
    )
unfolding all_test clean_test clean_letters clean_letter call_text suffix decimal two_digits is_one_of same misread address_field address_bytes filled pick starts below classify_of any_high marks_at is_position is_timestamped is_message is_digit between
plain_text =
    record {
      dest = to (ascii "CQ") 0 false;
      src = to (ascii "K1A") 0 false;
      digis = [];
      info = ascii "A";
      dest_unheard = refl;
      src_unheard = refl;
      clean = all_clean false (to (ascii "CQ") 0 false ∷ to (ascii "K1A") 0 false ∷ []) refl;
      few = omega arith;
      octets = bytes_by (ascii "A") refl;
      is = refl;
      kind = text refl;
    }

-- Binary: a digipeater has heard it
pub plain_binary : Plain false (
    0x86 ∷ 0xA2 ∷ 0x40 ∷ 0x40 ∷ 0x40 ∷ 0x40 ∷ 0x60
    ∷ 0x9C ∷ 0x60 ∷ 0x86 ∷ 0x82 ∷ 0x98 ∷ 0x98 ∷ 0x7E
    ∷ 0xAE ∷ 0x92 ∷ 0x88 ∷ 0x8A ∷ 0x62 ∷ 0x40 ∷ 0xE3
    ∷ 0x03 ∷ 0xF0 ∷ 0x80 ∷ 0x00 ∷ 0xFF ∷ []
    )
unfolding all_test clean_test clean_letters clean_letter call_text suffix decimal two_digits is_one_of same misread address_field address_bytes filled pick starts below classify_of any_high marks_at is_position is_timestamped is_message is_digit between
plain_binary =
    record {
      dest = to (ascii "CQ") 0 false;
      src = to (ascii "N0CALL") 15 false;
      digis = to (ascii "WIDE1") 1 true ∷ [];
      info = 0x80 ∷ 0x00 ∷ 0xFF ∷ [];
      dest_unheard = refl;
      src_unheard = refl;
      clean = all_clean false (to (ascii "CQ") 0 false ∷ to (ascii "N0CALL") 15 false ∷ to (ascii "WIDE1") 1 true ∷ []) refl;
      few = omega arith;
      octets = bytes_by (0x80 ∷ 0x00 ∷ 0xFF ∷ []) refl;
      is = refl;
      kind = binary refl;
    }

-- Position: of eight digipeaters the first five have heard it, the other three have not; the comment ends with 7F
abbrev eight : List Address
eight =
    to (ascii "WIDE1") 1 true
    ∷ to (ascii "N0CALL") 15 true
    ∷ to (ascii "K1A") 3 true
    ∷ to (ascii "W7XYZ") 0 true
    ∷ to (ascii "RELAY") 0 true
    ∷ to (ascii "WIDE3") 3 false
    ∷ to (ascii "WIDE2") 1 false
    ∷ to (ascii "GATE") 7 false
    ∷ []

pub plain_position : Plain false (
    0x82 ∷ 0xA0 ∷ 0xA4 ∷ 0xA6 ∷ 0x40 ∷ 0x40 ∷ 0x60
    ∷ 0x96 ∷ 0x62 ∷ 0x82 ∷ 0x40 ∷ 0x40 ∷ 0x40 ∷ 0x60
    ∷ 0xAE ∷ 0x92 ∷ 0x88 ∷ 0x8A ∷ 0x62 ∷ 0x40 ∷ 0xE2
    ∷ 0x9C ∷ 0x60 ∷ 0x86 ∷ 0x82 ∷ 0x98 ∷ 0x98 ∷ 0xFE
    ∷ 0x96 ∷ 0x62 ∷ 0x82 ∷ 0x40 ∷ 0x40 ∷ 0x40 ∷ 0xE6
    ∷ 0xAE ∷ 0x6E ∷ 0xB0 ∷ 0xB2 ∷ 0xB4 ∷ 0x40 ∷ 0xE0
    ∷ 0xA4 ∷ 0x8A ∷ 0x98 ∷ 0x82 ∷ 0xB2 ∷ 0x40 ∷ 0xE0
    ∷ 0xAE ∷ 0x92 ∷ 0x88 ∷ 0x8A ∷ 0x66 ∷ 0x40 ∷ 0x66
    ∷ 0xAE ∷ 0x92 ∷ 0x88 ∷ 0x8A ∷ 0x64 ∷ 0x40 ∷ 0x62
    ∷ 0x8E ∷ 0x82 ∷ 0xA8 ∷ 0x8A ∷ 0x40 ∷ 0x40 ∷ 0x6F
    ∷ 0x03 ∷ 0xF0 ∷ ascii "!4730.12N/12217.56W>" ++ remark
    )
unfolding all_test clean_test clean_letters clean_letter call_text suffix decimal two_digits is_one_of same misread address_field address_bytes filled pick starts below classify_of any_high marks_at is_position is_timestamped is_message is_digit between
plain_position =
    record {
      dest = to (ascii "APRS") 0 false;
      src = to (ascii "K1A") 0 false;
      digis = eight;
      info = ascii "!4730.12N/12217.56W>" ++ remark;
      dest_unheard = refl;
      src_unheard = refl;
      clean = all_clean false (to (ascii "APRS") 0 false ∷ to (ascii "K1A") 0 false ∷ eight) refl;
      few = omega arith;
      octets = bytes_by (ascii "!4730.12N/12217.56W>" ++ remark) refl;
      is = refl;
      kind = body a_position;
    }

-- TimestampedPosition: no digipeater
pub plain_timestamped : Plain false (
    0x82 ∷ 0xA0 ∷ 0xA4 ∷ 0xA6 ∷ 0x40 ∷ 0x40 ∷ 0x60
    ∷ 0x9C ∷ 0x60 ∷ 0x86 ∷ 0x82 ∷ 0x98 ∷ 0x98 ∷ 0x7F
    ∷ 0x03 ∷ 0xF0 ∷ ascii "@123456h4730.12N/12217.56W>" ++ remark
    )
unfolding all_test clean_test clean_letters clean_letter call_text suffix decimal two_digits is_one_of same misread address_field address_bytes filled pick starts below classify_of any_high marks_at is_position is_timestamped is_message is_digit between
plain_timestamped =
    record {
      dest = to (ascii "APRS") 0 false;
      src = to (ascii "N0CALL") 15 false;
      digis = [];
      info = ascii "@123456h4730.12N/12217.56W>" ++ remark;
      dest_unheard = refl;
      src_unheard = refl;
      clean = all_clean false (to (ascii "APRS") 0 false ∷ to (ascii "N0CALL") 15 false ∷ []) refl;
      few = omega arith;
      octets = bytes_by (ascii "@123456h4730.12N/12217.56W>" ++ remark) refl;
      is = refl;
      kind = body a_timestamped;
    }

-- Message: the digipeater has not heard it
pub plain_message : Plain false (
    0x82 ∷ 0xA0 ∷ 0xA4 ∷ 0xA6 ∷ 0x40 ∷ 0x40 ∷ 0x60
    ∷ 0x96 ∷ 0x62 ∷ 0x82 ∷ 0x40 ∷ 0x40 ∷ 0x40 ∷ 0x60
    ∷ 0xAE ∷ 0x92 ∷ 0x88 ∷ 0x8A ∷ 0x64 ∷ 0x40 ∷ 0x63
    ∷ 0x03 ∷ 0xF0 ∷ ascii ":N0CALL-12:VARA HF /A=001234"
    )
unfolding all_test clean_test clean_letters clean_letter call_text suffix decimal two_digits is_one_of same misread address_field address_bytes filled pick starts below classify_of any_high marks_at is_position is_timestamped is_message is_digit between
plain_message =
    record {
      dest = to (ascii "APRS") 0 false;
      src = to (ascii "K1A") 0 false;
      digis = to (ascii "WIDE2") 1 false ∷ [];
      info = ascii ":N0CALL-12:VARA HF /A=001234";
      dest_unheard = refl;
      src_unheard = refl;
      clean = all_clean false (to (ascii "APRS") 0 false ∷ to (ascii "K1A") 0 false ∷ to (ascii "WIDE2") 1 false ∷ []) refl;
      few = omega arith;
      octets = bytes_by (ascii ":N0CALL-12:VARA HF /A=001234") refl;
      is = refl;
      kind = body a_message;
    }

-- ---- frames that are plain under the mended reading alone (02, E5)

-- Text by way of the digipeater WIDE2-2
pub plain_wide : Plain true (
    0x86 ∷ 0xA2 ∷ 0x40 ∷ 0x40 ∷ 0x40 ∷ 0x40 ∷ 0x60
    ∷ 0x96 ∷ 0x62 ∷ 0x82 ∷ 0x40 ∷ 0x40 ∷ 0x40 ∷ 0x62
    ∷ 0xAE ∷ 0x92 ∷ 0x88 ∷ 0x8A ∷ 0x64 ∷ 0x40 ∷ 0x65
    ∷ 0x03 ∷ 0xF0 ∷ ascii "A"
    )
unfolding all_test clean_test clean_letters clean_letter call_text suffix decimal two_digits is_one_of same address_field address_bytes filled pick starts below classify_of any_high marks_at is_position is_timestamped is_message is_digit between
plain_wide =
    record {
      dest = to (ascii "CQ") 0 false;
      src = to (ascii "K1A") 1 false;
      digis = to (ascii "WIDE2") 2 false ∷ [];
      info = ascii "A";
      dest_unheard = refl;
      src_unheard = refl;
      clean = all_clean true (to (ascii "CQ") 0 false ∷ to (ascii "K1A") 1 false ∷ to (ascii "WIDE2") 2 false ∷ []) refl;
      few = omega arith;
      octets = bytes_by (ascii "A") refl;
      is = refl;
      kind = text refl;
    }

-- a Message to WIDE2-2
pub plain_wide_message : Plain true (
    0x82 ∷ 0xA0 ∷ 0xA4 ∷ 0xA6 ∷ 0x40 ∷ 0x40 ∷ 0x60
    ∷ 0x96 ∷ 0x62 ∷ 0x82 ∷ 0x40 ∷ 0x40 ∷ 0x40 ∷ 0x61
    ∷ 0x03 ∷ 0xF0 ∷ ascii ":WIDE2-2  :hi"
    )
unfolding all_test clean_test clean_letters clean_letter call_text suffix decimal two_digits is_one_of same misread address_field address_bytes filled pick starts below classify_of any_high marks_at is_position is_timestamped is_message is_digit between
plain_wide_message =
    record {
      dest = to (ascii "APRS") 0 false;
      src = to (ascii "K1A") 0 false;
      digis = [];
      info = ascii ":WIDE2-2  :hi";
      dest_unheard = refl;
      src_unheard = refl;
      clean = all_clean true (to (ascii "APRS") 0 false ∷ to (ascii "K1A") 0 false ∷ []) refl;
      few = omega arith;
      octets = bytes_by (ascii ":WIDE2-2  :hi") refl;
      is = refl;
      kind = body to_wide;
    }
