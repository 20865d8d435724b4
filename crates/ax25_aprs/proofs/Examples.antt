-- Plain bodies by computed tests, one of each type; the words of the dictionary.
-- Assumes nothing.
use mathlib.Core.Path.{◌≡◌, refl}
use mathlib.Core.Bool.{Bool, true, false, ◌&&◌, ◌||◌, not, false≢true}
use mathlib.Core.List.{List, [], ◌∷◌, ◌++◌}
use Rattle.std.proofs.Common.{Some}
use Prim.Native.Nat.{ℕ, ◌+◌, ◌≤◌, ◌<◌}
use native.Mathlib.Omega.{arith}
use lib.ListN.{length, get_or, take, drop, drop_of_length-le}
use lib.Dec.{eqb, leb}
use borrow.Author.Tests.{leb-true, eqb-true}
use Rattle.laws.specs.Bits.{odd, bits_of}
use Rattle.laws.specs.Pick.{pick}
use Rattle.laws.specs.Text.{ascii, between, is_digit, same, is_one_of, starts, filled}
use Rattle.laws.proofs.Cases.{by_le, and_left, and_right}
use Rattle.laws.proofs.TextLaws.{below, at_each}
use Rattle.bits.specs.Val.{stops, next_val, val_from, val_of}
use Rattle.ax25_token.specs.Token.{two_digits, decimal, suffix}
use Rattle.ax25_token.specs.Clean.{clean_letter, clean_letters, misread, call_text, CleanCall}
use Rattle.ax25_token.proofs.TokenBack.{wide_clean}
use Rattle.ax25_address.specs.Types.{Position, TimestampedPosition, Message}
use Rattle.ax25_aprs.specs.Words.{words, word, first_of, word_at}
use Rattle.ax25_aprs.specs.Text.{before, joined, altitude_at, front_bits, front_size, text_from, text_bits}
use Rattle.ax25_aprs.specs.LatLon.{dotted, side}
use Rattle.ax25_aprs.specs.Plain.{DigitsOf, Altitudes, Place, place_bytes, PlainPlace, PlainBody, position, timestamped, message}

-- ---- tests

-- every byte is from a to e
in_range : ℕ → ℕ → List ℕ → Bool
in_range a e s = below (λ i. between a e (get_or s i 0)) (length s)

in_range_lem : (a e : ℕ) (s : List ℕ) → in_range a e s ≡ true → (i : ℕ) → i < length s → (a ≤ get_or s i 0) × (get_or s i 0 ≤ e)
unfolding in_range between
in_range_lem a e s t i h =
    let c = get_or s i 0 in
    let q : leb a c && leb c e ≡ true = at_each (λ i. between a e (get_or s i 0)) (length s) t i h in
    (leb-true a c (and_left (leb a c) (leb c e) q), leb-true c e (and_right (leb a c) (leb c e) q))

of_digits : ℕ → List ℕ → Bool
of_digits n s = eqb (length s) n && in_range 48 57 s

of_digits_lem : (n : ℕ) (s : List ℕ) → of_digits n s ≡ true → DigitsOf n s
unfolding of_digits
of_digits_lem n s t = (
  eqb-true (length s) n (and_left (eqb (length s) n) (in_range 48 57 s) t),
  λ i h. let r = in_range_lem 48 57 s (and_right (eqb (length s) n) (in_range 48 57 s) t) i h in (r.0, omega (arith, r.1)),
)

-- four digits after each altitude's word
altitude_ok : List ℕ → ℕ → Bool
altitude_ok s i = not (starts (word 1) (drop i s)) || of_digits 4 (take 4 (drop (i + 5) s))

altitudes_by : (s : List ℕ) → below (altitude_ok s) (length s) ≡ true → Altitudes s
unfolding altitude_ok starts word words
altitudes_by s t i e =
    by_le (length s) i
    (λ h. absurd (false≢true (rw (drop_of_length-le s h) at e)))
    (λ h. of_digits_lem 4 (take 4 (drop (i + 5) s)) (rw e at (at_each (altitude_ok s) (length s) t i h)))

-- ---- a position and a call

-- a comment with words of the dictionary, an altitude and the highest byte
abbrev pub remark : List ℕ
remark = ascii "PinPoint 40 m /A=001234 ack" ++ (0x7F ∷ [])

here : Place
here =
    record {
      lat = ascii "473012";
      north = true;
      table = 0x2F;
      lon = ascii "1221756";
      west = true;
      symbol = 0x3E;
      comment = remark;
    }

here_plain : PlainPlace here
unfolding here in_range below between of_digits altitude_ok starts word words val_of val_from stops next_val pick
here_plain =
    record {
      lat_digits = of_digits_lem 6 here.lat refl;
      lon_digits = of_digits_lem 7 here.lon refl;
      lon_small = omega arith;
      table_small = omega arith;
      symbol_small = omega arith;
      printable = in_range_lem 0x20 0x7F here.comment refl;
      altitudes = altitudes_by here.comment refl;
    }

call_clean : CleanCall false (ascii "N0CALL") 12
unfolding clean_letters clean_letter is_digit between call_text suffix decimal two_digits is_one_of same misread pick
call_clean = record { clean = refl; some_letters = omega arith; few_letters = omega arith; small = omega arith; not_misread = refl }

-- ---- one plain body of each type

pub a_position : PlainBody false Position (ascii "!4730.12N/12217.56W>" ++ remark)
unfolding here place_bytes dotted side pick
a_position = position here here_plain

pub a_timestamped : PlainBody false TimestampedPosition (ascii "@123456h4730.12N/12217.56W>" ++ remark)
unfolding here place_bytes dotted side pick of_digits in_range below between
a_timestamped = timestamped (ascii "123456") here (of_digits_lem 6 (ascii "123456") refl) here_plain

pub a_message : PlainBody false Message (ascii ":N0CALL-12:VARA HF /A=001234")
unfolding call_text suffix decimal two_digits pick filled in_range below between
a_message = message (ascii "N0CALL") 12 (ascii "VARA HF /A=001234") call_clean (in_range_lem 0x20 0x7F (ascii "VARA HF /A=001234") refl)

-- a message to WIDE2-2, which is clean under the mended reading alone (02, E5)
pub to_wide : PlainBody true Message (ascii ":WIDE2-2  :hi")
unfolding call_text suffix decimal pick filled in_range below between
to_wide = message (ascii "WIDE2") 2 (ascii "hi") wide_clean.2 (in_range_lem 0x20 0x7F (ascii "hi") refl)

-- ---- the dictionary, word by word

abbrev codes_to : List ℕ → List Bool
codes_to [] = []
codes_to (c ∷ cs) = bits_of 7 c ++ codes_to cs

-- the words in order have the codes 1 to 9
pub all_words : text_bits false (ascii "/A=00VARAPinPointHF ackAPRSping{DigiGate") ≡ Some (codes_to (1 ∷ 2 ∷ 3 ∷ 4 ∷ 5 ∷ 6 ∷ 7 ∷ 8 ∷ 9 ∷ []))
unfolding text_bits text_from joined before front_bits front_size altitude_at word_at first_of words word starts pick bits_of odd
all_words = refl
