-- The information of document 01's *plain frame*, by type and by the decoder's reading.
-- Assumes nothing.
use Rattle.std.specs.Prelude.{◌≡◌, Bool, true, List, ◌∷◌, ◌++◌, ℕ, ◌+◌, ◌≤◌, ◌<◌, length, get_or, take, drop}
use Rattle.laws.specs.Digits.{Digits}
use Rattle.laws.specs.Text.{starts, filled}
use Rattle.bits.specs.Val.{val_of}
use Rattle.ax25_token.specs.Clean.{CleanCall, call_text}
use Rattle.ax25_address.specs.Types.{Position, TimestampedPosition, Message}
use Rattle.ax25_aprs.specs.LatLon.{dotted, side}
use Rattle.ax25_aprs.specs.Words.{word}

-- "bytes 20 to 7F"
abbrev pub Printable : List ℕ → Type 0
Printable s = (i : ℕ) → i < length s → (0x20 ≤ get_or s i 0) × (get_or s i 0 ≤ 0x7F)

-- n digits
abbrev pub DigitsOf : ℕ → List ℕ → Type 0
DigitsOf n s = (length s ≡ n) × Digits s

-- "each /A=00 followed by four digits"
abbrev pub Altitudes : List ℕ → Type 0
Altitudes s = (i : ℕ) → starts (word 1) (drop i s) ≡ true → DigitsOf 4 (take 4 (drop (i + 5) s))

-- "DDMM.mm, N or S, table byte, DDDMM.mm, W or E, symbol byte, comment": the digits of latitude and longitude without their dots
pub record Place : Type 0 where
  pub lat : List ℕ
  pub north : Bool
  pub table : ℕ
  pub lon : List ℕ
  pub west : Bool
  pub symbol : ℕ
  pub comment : List ℕ

unfoldable pub place_bytes : Place → List ℕ
place_bytes s =
    dotted 4 s.lat
    ++ (side 0x4E 0x53 s.north
    ∷ s.table
    ∷ (dotted 5 s.lon
    ++ (side 0x57 0x45 s.west
    ∷ s.symbol
    ∷ s.comment)))

-- "all D, M, m digits, the longitude's seven at most 2097151 as a number; comment bytes 20 to 7F, each /A=00 followed by four digits"
-- (`classify` finds every byte below 80)
pub record PlainPlace (s : Place) : Type 0 where
  pub lat_digits : DigitsOf 6 s.lat
  pub lon_digits : DigitsOf 7 s.lon
  pub lon_small : val_of s.lon ≤ 2097151
  pub table_small : s.table < 0x80
  pub symbol_small : s.symbol < 0x80
  pub printable : Printable s.comment
  pub altitudes : Altitudes s.comment

-- the information of a type with a body of its own
pub data PlainBody (mended : Bool) : ℕ → List ℕ → Type 0 where
  -- "`!`", and a position
  position : (s : Place) → PlainPlace s → PlainBody mended Position (0x21 ∷ place_bytes s)
  -- "`@`, six digits, `h`, then as Position after its `!`"
  timestamped : (t : List ℕ) (s : Place) → DigitsOf 6 t → PlainPlace s → PlainBody mended TimestampedPosition (0x40 ∷ t ++ 0x68 ∷ place_bytes s)
  -- "`:`, a clean call padded to 9, `:`, bytes 20 to 7F"
  message : (letters : List ℕ) (ssid : ℕ) (s : List ℕ) → CleanCall mended letters ssid → Printable s
      → PlainBody mended Message (0x3A ∷ filled 9 (call_text letters ssid) ++ 0x3A ∷ s)
