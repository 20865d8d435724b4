-- `ax25::decode`: a message as a frame.
-- Assumes nothing.
use Rattle.std.specs.Prelude.{Bool, true, false, ◌||◌, List, [], ◌∷◌, ◌++◌, ℕ, zero, suc, ◌+◌, ◌-◌, ◌/◌, ◌%◌, length, get_or, drop, set, leb, eqb}
use Rattle.std.specs.Prelude.{Option, None, Some}
use Rattle.std.specs.Int.Bits.{bit_or}
use Rattle.laws.specs.Bits.{odd, pack_n}
use Rattle.laws.specs.Pick.{pick, ◌>>=◌}
use Rattle.laws.specs.Text.{ascii, starts}
use Rattle.bits.specs.Read.{take_bits}
use Rattle.bits.specs.Text7.{text7_of}
use Rattle.ax25_token.specs.Token.{read_token}
use Rattle.ax25_address.specs.Address.{call_bytes}
use Rattle.ax25_address.specs.Parse.{split_off, aliases, alias_calls}
use Rattle.ax25_address.specs.Types.{Text, Binary, ThirdParty}
use Rattle.ax25_aprs.specs.Body.{read_body}
use Rattle.ax25_aprs.specs.Third.{read_third}
use Rattle.ax25.specs.Encode.{type_width}

-- how many digipeaters a header names
abbrev pub digi_count : ℕ → ℕ
digi_count header = pick (odd (header / 8)) (suc (header % 8)) 0

-- the name of an alias, counted from 1
unfoldable pub name_at : ℕ → List (List ℕ) → Option (List ℕ)
name_at k [] = None
name_at zero (a ∷ names) = None
name_at (suc zero) (a ∷ names) = Some a
name_at (suc (suc k)) (a ∷ names) = name_at (suc k) names

-- a type that there is
abbrev pub known : ℕ → Bool
known typ = leb typ 4 || eqb typ ThirdParty

-- what stands before the body
pub record Head : Type 0 where
  pub dest : List ℕ
  pub src : List ℕ
  pub digis : List (List ℕ)
  pub heard : List Bool
  pub typ : ℕ

-- whole bytes
unfoldable pub bytes_in : List Bool → List ℕ
bytes_in b = pack_n (length b / 8) b

abbrev pub is_empty : {A : Type 0} → List A → Bool
is_empty [] = true
is_empty (x ∷ xs) = false

-- an address field with bits 80 and 01 of its SSID byte
unfoldable pub marked : ℕ → Bool → Bool → List ℕ → List ℕ
marked l h last f = set f l (bit_or (get_or f l 0) (pick h 0x80 0 + pick last 0x01 0))

-- the alias's calls
unfoldable pub read_alias : ℕ → List Bool → Option (List (List ℕ) × List Bool)
read_alias n b = do
  (k, r) ← take_bits 3 b
  a ← name_at k aliases
  Some (alias_calls a 1 n, r)

module _ (l : ℕ) where
  -- the address fields of calls with their H bits; the last has its low bit set
  unfoldable pub addresses : List (List ℕ) → List Bool → List ℕ
  addresses [] hs = []
  addresses (c ∷ cs) hs = marked l (get_or hs 0 false) (is_empty cs) (call_bytes l c) ++ addresses cs (drop 1 hs)

-- by the reading of tokens, original or mended
module _ (mended : Bool) (l : ℕ) where
  unfoldable pub read_tokens : ℕ → List Bool → Option (List (List ℕ) × List Bool)
  read_tokens zero b = Some ([], b)
  read_tokens (suc n) b = do
    (c, r) ← read_token mended l b
    (cs, e) ← read_tokens n r
    Some (c ∷ cs, e)

  -- the alias bit, then the alias or the tokens
  unfoldable pub read_aliased : ℕ → List Bool → Option (List (List ℕ) × List Bool)
  read_aliased n [] = None
  read_aliased n (x ∷ b) = pick x (read_alias n b) (read_tokens n b)

  unfoldable pub read_digis : Bool → ℕ → List Bool → Option (List (List ℕ) × List Bool)
  read_digis ap zero b = Some ([], b)
  read_digis ap (suc n) b = pick ap (read_aliased (suc n) b) (read_tokens (suc n) b)

  -- H bits, destination, source, digipeaters, type
  unfoldable pub read_head : ℕ → List Bool → Option (Head × List Bool)
  read_head n b = do
    (h, r₁) ← split_off n b
    (d, r₂) ← read_token mended l r₁
    (s, r₃) ← read_token mended l r₂
    (v, r₄) ← read_digis (starts (ascii "AP") d) n r₃
    (t, r₅) ← take_bits (type_width (starts (ascii "AP") d)) r₄
    pick (known t) (Some (record { dest = d; src = s; digis = v; heard = h; typ = t }, r₅)) None

  -- the body, from what is left of all the bits after the header
  unfoldable pub read_info : ℕ → List Bool → List Bool → Option (List ℕ)
  read_info typ all b =
      pick (eqb typ Text) (text7_of all (length all - length b))
      (pick (eqb typ Binary) (Some (bytes_in b))
      (pick (eqb typ ThirdParty) (read_third mended l b)
      (read_body mended typ l b)))

  unfoldable pub read_frame : ℕ → List Bool → Option (List ℕ)
  read_frame header b = do
    (r, e) ← read_head (digi_count header) b
    i ← read_info r.typ b e
    Some (addresses l (r.dest ∷ r.src ∷ r.digis) (false ∷ false ∷ r.heard) ++ (pick (odd (header / 64)) (0x03 ∷ 0xF0 ∷ []) [] ++ i))
