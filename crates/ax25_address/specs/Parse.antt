-- `parse`: the parts of a frame.
-- Assumes nothing.
use Rattle.std.specs.Prelude.{Bool, true, false, ◌&&◌, not, List, [], ◌∷◌, ◌++◌, map, ℕ, zero, suc, ◌+◌, length, get_or, take, drop, leb, eqb}
use Rattle.std.specs.Prelude.{Option, None, Some}
use Rattle.laws.specs.Bits.{odd}
use Rattle.laws.specs.Pick.{pick, ◌>>=◌}
use Rattle.laws.specs.Text.{ascii, upper, same, starts}
use Rattle.ax25_address.specs.Address.{addr_call, heard_in}
use Rattle.ax25_address.specs.Classify.{classify_of}
use Rattle.ax25_address.specs.Types.{Ax25Long}

-- the first n, and what follows them; nothing where there are fewer
unfoldable pub split_off : {A : Type 0} → ℕ → List A → Option (List A × List A)
split_off n d = pick (leb n (length d)) (Some (take n d, drop n d)) None

-- texts of destination, source and digipeaters, their H bits, control, PID, and the information
pub record Parsed : Type 0 where
  pub dest : List ℕ
  pub src : List ℕ
  pub digis : List (List ℕ)
  pub heard : List Bool
  pub control : ℕ
  pub pid : ℕ
  pub info : List ℕ

-- further address fields, at most so many, while the low bit of the SSID byte before, b, is 0; and what follows them
unfoldable pub digi_fields : ℕ → ℕ → ℕ → List ℕ → Option (List (List ℕ) × List ℕ)
digi_fields l zero b d = Some ([], d)
digi_fields l (suc k) b d =
    pick (odd b)
    (Some ([], d))
    (do
      (f, r) ← split_off (l + 1) d
      (fs, e) ← digi_fields l k (get_or f l 0) r
      Some (f ∷ fs, e))

-- nothing where the frame is short. Destination and source are upper-cased, digipeaters are not; there are at most eight
unfoldable pub parse_of : ℕ → List ℕ → Option Parsed
parse_of l d = do
  (f, r) ← split_off (l + 1) d
  (g, s) ← split_off (l + 1) r
  (fs, e) ← digi_fields l 8 (get_or g l 0) s
  (c, i) ← split_off 2 e
  Some (record {
    dest = map upper (addr_call l f);
    src = map upper (addr_call l g);
    digis = map (addr_call l) fs;
    heard = map (heard_in l) fs;
    control = get_or c 0 0;
    pid = get_or c 1 0;
    info = i;
  })

-- n address fields of l + 1 bytes
unfoldable pub fields_of : ℕ → ℕ → List ℕ → List (List ℕ)
fields_of l zero d = []
fields_of l (suc n) d = take (l + 1) d ∷ fields_of l n (drop (l + 1) d)

-- how many digipeaters a frame has; nothing where it is short
unfoldable pub count_of : Option Parsed → Option ℕ
count_of None = None
count_of (Some r) = Some (length r.digis)

-- both control 03 and PID F0
abbrev pub is_ui : Parsed → Bool
is_ui r = eqb r.control 0x03 && eqb r.pid 0xF0

-- the destination's text starts with AP
abbrev pub is_ap : Parsed → Bool
is_ap r = starts (ascii "AP") r.dest

unfoldable pub type_of : ℕ → Parsed → ℕ
type_of command r = classify_of (is_ap r && not (eqb command Ax25Long)) r.info

-- ---- aliases

-- ALIASES
unfoldable pub aliases : List (List ℕ)
aliases = ascii "WIDE" ∷ ascii "PNW" ∷ ascii "MW" ∷ ascii "OR" ∷ ascii "WA" ∷ []

-- a name with 1-1, 2-1 and so on: n calls from number k on
unfoldable pub alias_calls : List ℕ → ℕ → ℕ → List (List ℕ)
alias_calls a k zero = []
alias_calls a k (suc n) = (a ++ ((48 + k) ∷ ascii "-1")) ∷ alias_calls a (suc k) n

unfoldable pub same_all : List (List ℕ) → List (List ℕ) → Bool
same_all [] [] = true
same_all [] (y ∷ ys) = false
same_all (x ∷ xs) [] = false
same_all (x ∷ xs) (y ∷ ys) = same x y && same_all xs ys

-- the number of the first name whose calls these are, counted from k; 0 where there is none
unfoldable pub alias_from : ℕ → List (List ℕ) → List (List ℕ) → ℕ
alias_from k [] digis = 0
alias_from k (a ∷ names) digis = pick (same_all digis (alias_calls a 1 (length digis))) k (alias_from (suc k) names digis)

unfoldable pub alias_of : List (List ℕ) → ℕ
alias_of [] = 0
alias_of (v ∷ vs) = alias_from 1 aliases (v ∷ vs)
