-- What the readings of a position find, for the contracts of the code that reads it. LatLon says what a position means.
-- Assumes nothing.
use Rattle.std.specs.Prelude.{◌≡◌, Bool, false, List, [], ◌∷◌, ◌++◌, ℕ, ◌+◌, ◌≤◌, ◌<◌, length, get_or, drop}
use Rattle.std.specs.Prelude.{Option, None, Some}
use Rattle.laws.specs.Pick.{pick}
use Rattle.ax25_aprs.specs.LatLon.{tables, dotted, field_of, side, table_end}
use Rattle.ax25_aprs.specs.Text.{padded}
use Rattle.ax25_aprs.specs.declared.place.Place.{Place}

-- x has the numbers of the position that the bits b start with, and the position after it
pub record Has (b : List Bool) (at : ℕ) (x : Place) : Type 0 where
  pub enough : table_end b + 29 ≤ length b
  pub lat_is : x.lat ≡ field_of 0 20 b
  pub north_is : x.north ≡ get_or b 20 false
  pub listed_is : x.listed ≡ get_or b 21 false
  pub table_is : x.table ≡ pick (get_or b 21 false) (field_of 22 3 b) (field_of 22 7 b)
  pub lon_is : x.lon ≡ field_of (table_end b) 21 b
  pub west_is : x.west ≡ get_or b (table_end b + 21) false
  pub symbol_is : x.symbol ≡ field_of (table_end b + 22) 7 b
  pub next_is : x.next ≡ at + (table_end b + 29)

-- what is found from a bit on: a position, or too few bits for one
abbrev pub Placed : List Bool → ℕ → Option Place → Type 0
Placed u at (Some x) = Has (drop at u) at x
Placed u at None = length (drop at u) < table_end (drop at u) + 29

-- the text of a position's numbers
unfoldable pub table_of : Bool → ℕ → ℕ
table_of listed table = pick listed (get_or tables table 0) table

-- a number with a dot, one of two letters, and a byte
unfoldable pub half_text : ℕ → ℕ → ℕ → ℕ → ℕ → List ℕ
half_text k n v letter last = dotted k (padded n v) ++ (letter ∷ last ∷ [])

unfoldable pub place_text : Place → List ℕ
place_text x =
    half_text 4 6 x.lat (side 0x4E 0x53 x.north) (table_of x.listed x.table)
    ++ half_text 5 7 x.lon (side 0x57 0x45 x.west) x.symbol
