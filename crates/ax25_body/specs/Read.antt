-- Parts of a coding and of a reading that have a function of their own.
-- Assumes nothing.
use Rattle.std.specs.Prelude.{Bool, ◌&&◌, List, ◌∷◌, ◌++◌, ℕ, get_or, drop, eqb}
use Rattle.std.specs.Prelude.{Option, Some}
use Rattle.laws.specs.Pick.{pick, ◌>>=◌}
use Rattle.laws.specs.Text.{ascii, is_digit}
use Rattle.bits.specs.Read.{take_bits}
use Rattle.refusals.specs.Outcome.{Outcome}
use Rattle.ax25_address.specs.Classify.{one_of}
use Rattle.ax25_address.specs.Types.{Text}
use Rattle.ax25_aprs.specs.LatLon.{read_latlon}
use Rattle.ax25_aprs.specs.Body.{read_body}
use Rattle.ax25_aprs.specs.Third.{collect_of, call_field, path_field, inner_type}

-- a body without its type byte, which only a Text has not
unfoldable pub after_type : ℕ → List ℕ → List ℕ
after_type typ d = pick (eqb typ Text) d (drop 1 d)

-- the number of the inner type, by its first two bytes
unfoldable pub inner_number : List ℕ → ℕ
inner_number d =
    pick (one_of (get_or d 0 0) 0x21 0x3D && is_digit (get_or d 1 0)) 0
    (pick (one_of (get_or d 0 0) 0x40 0x2F && is_digit (get_or d 1 0)) 1
    (pick (eqb (get_or d 0 0) 0x3A) 2 3))

-- a third-party body from its second call on
unfoldable pub second_bits : ℕ → List ℕ → Outcome (List Bool)
second_bits l d = call_field l (collect_of 0x2C 10 d) d (λ f. path_field l (collect_of 0x2C 14 f))

-- a position with its type byte
unfoldable pub read_position : List Bool → Option (List ℕ)
read_position b = do
  t ← read_latlon b
  Some (0x21 ∷ t)

-- the end of a third-party body's head, and the inner body after its type in two bits
unfoldable pub read_inner : Bool → ℕ → List Bool → Option (List ℕ)
read_inner mended l b = do
  (k, r) ← take_bits 2 b
  d ← read_body mended (inner_type k) l r
  Some (ascii "*:" ++ d)
