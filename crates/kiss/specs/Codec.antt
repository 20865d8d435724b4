-- The answers of `kiss::encode`, `kiss::summary` and `kiss::decode`, before a lent output is looked at.
-- Assumes nothing.
use Rattle.std.specs.Prelude.{Bool, false, ◌||◌, List, [], ◌∷◌, ℕ, ◌/◌, ◌%◌, length, ltb, eqb}
use Rattle.std.specs.Prelude.{Option, None, Some}
use Rattle.laws.specs.Bits.{unpack}
use Rattle.laws.specs.Pick.{pick}
use Rattle.refusals.specs.Outcome.{Outcome, refused, answer}
use Rattle.ax25_address.specs.Parse.{Parsed, parse_of, type_of}
use Rattle.ax25_address.specs.Types.{Text, Generic, call_len}
use Rattle.ax25.specs.Decode.{read_frame}
use Rattle.ax25.specs.Encode.{Coded, encode_of}
use Rattle.kiss.specs.Generic.{generic_of, generic_back}

-- "Coder 1, 2, then the source's first error": 3, 4, 5
unfoldable pub code_of : ℕ → List ℕ → Outcome Coded
code_of command d =
    pick (ltb 2 command) (refused 1)
    (pick (ltb 4999 (length d)) (refused 2)
    (pick (eqb command Generic) (answer (record { bytes = generic_of d; typ = Text }))
    (encode_of command d)))

-- "UI in the summary now means control 03 or 13" (02): 000P0011
abbrev pub ui_control : ℕ → Bool
ui_control c = eqb c 0x03 || eqb c 0x13

-- "the summary: type, digipeater count, and 'UI' .. (of generic bytes: Text, 0, not UI)"
pub record Summary : Type 0 where
  pub typ : ℕ
  pub digis : ℕ
  pub ui : Bool

abbrev pub summarised : ℕ → Option Parsed → Outcome Summary
summarised command None = refused 3
summarised command (Some r) = answer (record { typ = type_of command r; digis = length r.digis; ui = ui_control r.control })

-- "Summary 1, 2, 3."
unfoldable pub summary_of : ℕ → List ℕ → Outcome Summary
summary_of command d =
    pick (ltb 2 command) (refused 1)
    (pick (ltb 4999 (length d)) (refused 2)
    (pick (eqb command Generic) (answer (record { typ = Text; digis = 0; ui = false }))
    (summarised command (parse_of (call_len command) d))))

-- a command and its bytes
pub record Decoded : Type 0 where
  pub command : ℕ
  pub bytes : List ℕ

abbrev pub or_seven : ℕ → Option (List ℕ) → Outcome Decoded
or_seven command None = refused 7
or_seven command (Some d) = answer (record { command = command; bytes = d })

-- by bits 4 and 5 of the header: 0 and 1 are frames, 2 is generic
unfoldable pub decode_message : Bool → ℕ → List ℕ → Outcome Decoded
decode_message mended header rest =
    pick (eqb (header / 16 % 4) 3) (refused 7)
    (pick (eqb (header / 16 % 4) 2) (answer (record { command = Generic; bytes = generic_back header rest }))
    (or_seven (header / 16 % 4) (read_frame mended (call_len (header / 16 % 4)) header (unpack rest))))

unfoldable pub decode_some : Bool → List ℕ → Outcome Decoded
decode_some mended [] = refused 7
decode_some mended (header ∷ rest) = decode_message mended header rest

-- "Decoder 2, 7"; "The caller of the decoder may choose a mended reading" (02, E5): false is the original one
unfoldable pub decode_of : Bool → List ℕ → Outcome Decoded
decode_of mended m = pick (ltb 5000 (length m)) (refused 2) (decode_some mended m)
