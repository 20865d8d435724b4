-- `ax25::encode`: a frame as a message.
-- Assumes nothing.
use Rattle.std.specs.Prelude.{Bool, true, false, ◌&&◌, List, [], ◌∷◌, ◌++◌, ℕ, zero, suc, ◌+◌, length, drop, ltb, eqb}
use Rattle.std.specs.Prelude.{Option, None, Some}
use Rattle.laws.specs.Bits.{bits_of, pack, unpack}
use Rattle.laws.specs.Pick.{pick, ◌>>=◌}
use Rattle.bits_write.specs.Text7.{last_or, text7_bits}
use Rattle.refusals.specs.Outcome.{Outcome, refused, answer}
use Rattle.ax25_token.specs.Token.{token_bits}
use Rattle.ax25_address.specs.Parse.{Parsed, parse_of, is_ui, is_ap, type_of, alias_of}
use Rattle.ax25_address.specs.Types.{Text, Binary, ThirdParty, Ax25Long, call_len}
use Rattle.ax25_aprs.specs.Body.{body_bits}
use Rattle.ax25_aprs.specs.Coded.{◌then◌}
use Rattle.ax25_aprs.specs.Third.{third_bits}

-- 08 and the number of digipeaters less one, or 0
abbrev pub digi_code : ℕ → ℕ
digi_code zero = 0
digi_code (suc n) = 8 + n

-- the header byte: 10 for `Ax25Long`, 40 where control is 03 and PID F0
unfoldable pub header_of : ℕ → Parsed → ℕ
header_of command r = pick (eqb command Ax25Long) 0x10 0 + (pick (is_ui r) 0x40 0 + digi_code (length r.digis))

-- the type takes three bits where the destination starts with AP, else one
abbrev pub type_width : Bool → ℕ
type_width ap = pick ap 3 1

-- "Text or Binary of a frame without both control 03 and PID F0 takes these two bytes into the coded body, ahead of the information."
unfoldable pub body_bytes : Parsed → List ℕ
body_bytes r = pick (is_ui r) r.info (r.control ∷ r.pid ∷ r.info)

module _ (l : ℕ) where
  unfoldable pub tokens_bits : List (List ℕ) → Option (List Bool)
  tokens_bits [] = Some []
  tokens_bits (c ∷ cs) = do
    b ← token_bits l c
    bs ← tokens_bits cs
    Some (b ++ bs)

  -- the digipeaters: the alias bit where the destination starts with AP, then the alias or the tokens
  unfoldable pub digi_bits : Bool → List (List ℕ) → Option (List Bool)
  digi_bits ap [] = Some []
  digi_bits ap (v ∷ vs) =
      pick (ap && ltb 0 (alias_of (v ∷ vs)))
      (Some (true ∷ bits_of 3 (alias_of (v ∷ vs))))
      (do
        bs ← tokens_bits (v ∷ vs)
        Some (pick ap (false ∷ bs) bs))

  -- the bits before the body: H bits, destination, source, digipeaters, type; nothing for a bad call
  unfoldable pub head_bits : Parsed → ℕ → Option (List Bool)
  head_bits r typ = do
    d ← token_bits l r.dest
    s ← token_bits l r.src
    v ← digi_bits (is_ap r) r.digis
    Some (r.heard ++ (d ++ (s ++ (v ++ bits_of (type_width (is_ap r)) typ))))

  -- the body after the bits of the head
  unfoldable pub info_bits : Parsed → ℕ → List Bool → Outcome (List Bool)
  info_bits r typ head =
      pick (eqb typ Text) (answer (text7_bits (length head) (last_or false head) (body_bytes r)))
      (pick (eqb typ Binary) (answer (unpack (body_bytes r)))
      (pick (eqb typ ThirdParty) (third_bits l (drop 1 r.info))
      (body_bits typ l (drop 1 r.info))))

  -- all the bits: the head, and the body
  unfoldable pub frame_bits : Parsed → ℕ → List Bool → Outcome (List Bool)
  frame_bits r typ head = answer head then info_bits r typ head

-- bytes and their type
pub record Coded : Type 0 where
  pub bytes : List ℕ
  pub typ : ℕ

abbrev pub or_four : Option (List Bool) → (List Bool → Outcome Coded) → Outcome Coded
or_four None f = refused 4
or_four (Some b) f = f b

abbrev pub packed : ℕ → ℕ → Outcome (List Bool) → Outcome Coded
packed header typ (refused n) = refused n
packed header typ (answer b) = answer (record { bytes = header ∷ pack b; typ = typ })

unfoldable pub code_parsed : ℕ → Parsed → Outcome Coded
code_parsed command r =
    or_four (head_bits (call_len command) r (type_of command r))
    (λ head. packed (header_of command r) (type_of command r) (frame_bits (call_len command) r (type_of command r) head))

abbrev pub or_three : Option Parsed → (Parsed → Outcome Coded) → Outcome Coded
or_three None f = refused 3
or_three (Some r) f = f r

-- the source's first error, 3, 4 or 5, or the message and its type
unfoldable pub encode_of : ℕ → List ℕ → Outcome Coded
encode_of command frame = or_three (parse_of (call_len command) frame) (code_parsed command)
