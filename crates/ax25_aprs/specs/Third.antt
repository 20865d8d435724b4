-- The third-party body: three calls and an inner type.
-- Assumes nothing.
use Rattle.std.specs.Prelude.{Bool, ◌&&◌, List, [], ◌∷◌, ◌++◌, ℕ, zero, suc, drop, eqb}
use Rattle.std.specs.Prelude.{Option, Some}
use Rattle.laws.specs.Bits.{bits_of}
use Rattle.laws.specs.Pick.{pick, ◌>>=◌}
use Rattle.laws.specs.Text.{ascii, is_digit}
use Rattle.bits.specs.Read.{take_bits}
use Rattle.refusals.specs.Outcome.{Outcome, refused, answer}
use Rattle.ax25_token.specs.Token.{token_bits, read_token}
use Rattle.ax25_address.specs.Classify.{one_of}
use Rattle.ax25_address.specs.Types.{Text, Position, TimestampedPosition, Message}
use Rattle.ax25_aprs.specs.Body.{call_of, body_bits, read_body}
use Rattle.ax25_aprs.specs.Coded.{◌then◌, or_refused}

-- ---- `collect`

-- a field that ends at a stop byte, its text and what follows it; or the text of all the bytes looked at; or the frame ends before
pub data Field : Type 0 where
  ended : List ℕ → List ℕ → Field
  full : List ℕ → Field
  short : Field

abbrev pub longer : ℕ → Field → Field
longer x (ended s r) = ended (x ∷ s) r
longer x (full s) = full (x ∷ s)
longer x short = short

-- the stop byte is looked for among the first k bytes, span + 1 of them
unfoldable pub collect_of : ℕ → ℕ → List ℕ → Field
collect_of stop zero d = full []
collect_of stop (suc k) [] = short
collect_of stop (suc k) (x ∷ xs) = pick (eqb x stop) (ended [] xs) (longer x (collect_of stop k xs))

-- ---- coding

module _ (l : ℕ) where
  -- a call's token
  unfoldable pub call_part : List ℕ → Outcome (List Bool)
  call_part s = or_refused 4 (token_bits l (call_of s))

  -- a call's token, and what follows the field; without its stop byte, the field again
  unfoldable pub call_field : Field → List ℕ → (List ℕ → Outcome (List Bool)) → Outcome (List Bool)
  call_field short d next = refused 3
  call_field (ended s r) d next = call_part s then next r
  call_field (full s) d next = call_part s then next d

  -- two bytes at least; the inner type in two bits, and its body
  unfoldable pub inner_bits : List ℕ → Outcome (List Bool)
  inner_bits [] = refused 3
  inner_bits (c ∷ []) = refused 3
  inner_bits (c ∷ x ∷ d) =
      pick (one_of c 0x21 0x3D && is_digit x)
      (answer (bits_of 2 0) then body_bits Position l (x ∷ d))
      (pick (one_of c 0x40 0x2F && is_digit x)
      (answer (bits_of 2 1) then body_bits TimestampedPosition l (x ∷ d))
      (pick (eqb c 0x3A)
      (answer (bits_of 2 2) then body_bits Message l (x ∷ d))
      (answer (bits_of 2 3) then body_bits Text l (c ∷ x ∷ d))))

  -- the third call, up to '*', after which one byte is skipped; without it nothing is
  unfoldable pub last_field : Field → List ℕ → Outcome (List Bool)
  last_field short d = refused 3
  last_field (ended s r) d = call_part s then inner_bits (drop 1 r)
  last_field (full s) d = call_part s then inner_bits d

  -- the field of "TCPIP", whose comma must be there
  unfoldable pub path_field : Field → Outcome (List Bool)
  path_field short = refused 3
  path_field (ended s r) = last_field (collect_of 0x2A 10 r) r
  path_field (full s) = refused 5

  -- the body after '}'
  unfoldable pub third_bits : List ℕ → Outcome (List Bool)
  third_bits d =
      call_field (collect_of 0x3E 10 d) d
      (λ e. call_field (collect_of 0x2C 10 e) e (λ f. path_field (collect_of 0x2C 14 f)))

-- ---- reading

-- the type of an inner type's number
abbrev pub inner_type : ℕ → ℕ
inner_type k = pick (eqb k 0) Position (pick (eqb k 1) TimestampedPosition (pick (eqb k 2) Message Text))

-- by the reading of tokens, original or mended
module _ (mended : Bool) (l : ℕ) where
  unfoldable pub read_third : List Bool → Option (List ℕ)
  read_third b = do
    (s₁, r₁) ← read_token mended l b
    (s₂, r₂) ← read_token mended l r₁
    (s₃, r₃) ← read_token mended l r₂
    (k, r₄) ← take_bits 2 r₃
    d ← read_body mended (inner_type k) l r₄
    Some (ascii "}" ++ (s₁ ++ (ascii ">" ++ (s₂ ++ (ascii ",TCPIP," ++ (s₃ ++ (ascii "*:" ++ d)))))))
