-- What comes back: "coded from generic bytes or a plain AX.25 frame", and decoded to the original bytes, by the reading of the decoder.
-- Assumes nothing.
use Rattle.std.specs.Prelude.{◌≡◌, Bool, List, ℕ, ◌≤◌, ◌<◌, length, get_or}
use Rattle.laws.specs.Bits.{Bytes}
use Rattle.refusals.specs.Outcome.{answer}
use Rattle.ax25_address.specs.Types.{Ax25, Generic}
use Rattle.ax25.specs.Plain.{Plain}
use Rattle.kiss.specs.Codec.{code_of, decode_of}

-- generic bytes, or a plain frame
pub data Codable (mended : Bool) : ℕ → List ℕ → Type 0 where
  generic : {d : List ℕ} → Bytes d → Codable mended Generic d
  plain : {d : List ℕ} → Plain mended d → Codable mended Ax25 d

-- the data is coded, never refused, into a message that is not empty, starts below 80 and has at most 5,000 bytes, and that decodes to the data
pub record Back (mended : Bool) (command : ℕ) (d : List ℕ) : Type 0 where
  pub message : List ℕ
  pub typ : ℕ
  pub coded : code_of command d ≡ answer (record { bytes = message; typ = typ })
  pub not_empty : 0 < length message
  pub first_low : get_or message 0 0 < 0x80
  pub fits : length message ≤ 5000
  pub back : decode_of mended message ≡ answer (record { command = command; bytes = d })
