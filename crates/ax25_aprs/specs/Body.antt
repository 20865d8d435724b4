-- `aprs_encode` and `aprs_decode`: text, position, position with a time, message.
-- Assumes nothing.
use Rattle.std.specs.Prelude.{Bool, false, List, [], ◌∷◌, ◌++◌, map, ℕ, length, take, drop, ltb, eqb}
use Rattle.std.specs.Prelude.{Option, None, Some}
use Rattle.laws.specs.Pick.{pick, ◌>>=◌}
use Rattle.laws.specs.Text.{upper, trim, filled}
use Rattle.bits.specs.Val.{val_of}
use Rattle.bits_write.specs.Write.{top_bits}
use Rattle.refusals.specs.Outcome.{Outcome, answer}
use Rattle.ax25_token.specs.Token.{token_bits, read_token}
use Rattle.ax25_address.specs.Address.{white}
use Rattle.ax25_address.specs.Types.{Text, Position, TimestampedPosition}
use Rattle.ax25_aprs.specs.Coded.{◌then◌, or_refused}
use Rattle.ax25_aprs.specs.LatLon.{latlon_bits, field_of, read_latlon}
use Rattle.ax25_aprs.specs.Text.{text_bits, padded, read_text}

-- six digits and a byte, then as a position
unfoldable pub timestamped_bits : List ℕ → Outcome (List Bool)
timestamped_bits s = answer (top_bits 20 (val_of (take 6 s))) then latlon_bits (drop 7 s)

unfoldable pub read_timestamped : List Bool → Option (List ℕ)
read_timestamped b =
    pick (ltb (length b) 20) None
    (do
      t ← read_latlon (drop 20 b)
      Some ((0x40 ∷ padded 6 (field_of 0 20 b) ++ 0x68 ∷ []) ++ t))

-- a call from a text: trimmed and upper-cased
unfoldable pub call_of : List ℕ → List ℕ
call_of s = map upper (trim white s)

-- the addressee's token, 4 for a bad call, and the text after the second ':'
unfoldable pub message_bits : ℕ → List ℕ → Outcome (List Bool)
message_bits l s = or_refused 4 (token_bits l (call_of (take 9 s))) then or_refused 5 (text_bits false (drop 10 s))

unfoldable pub read_message : Bool → ℕ → List Bool → Option (List ℕ)
read_message mended l b = do
  (c, r) ← read_token mended l b
  Some (0x3A ∷ filled 9 c ++ 0x3A ∷ read_text false r)

-- a body after its type byte (Text: from its first byte), by type; l is the call length
unfoldable pub body_bits : ℕ → ℕ → List ℕ → Outcome (List Bool)
body_bits typ l s =
    pick (eqb typ Text) (or_refused 5 (text_bits false s))
    (pick (eqb typ Position) (latlon_bits s)
    (pick (eqb typ TimestampedPosition) (timestamped_bits s)
    (message_bits l s)))

unfoldable pub read_body : Bool → ℕ → ℕ → List Bool → Option (List ℕ)
read_body mended typ l b =
    pick (eqb typ Text) (Some (read_text false b))
    (pick (eqb typ Position)
    (do
      t ← read_latlon b
      Some (0x21 ∷ t))
    (pick (eqb typ TimestampedPosition) (read_timestamped b)
    (read_message mended l b)))
