-- What the readings of a position say of the bits that they were read from.
-- Assumes nothing.
use mathlib.Core.Path.{◌≡◌, refl, sym, ap, ap₂, ◌∙◌}
use mathlib.Core.Bool.{Bool, true, false}
use mathlib.Core.List.{List, [], ◌∷◌, ◌++◌, append_assoc}
use Rattle.std.proofs.Common.{Option, None, Some}
use Prim.Native.Nat.{ℕ, ◌+◌, ◌^◌, ◌≤◌, ◌<◌}
use native.Mathlib.Omega.{arith}
use lib.ListN.{length, get_or, take, drop, length-append, length-drop}
use lib.Seq.{drop-drop, get_or-drop}
use lib.Dec.{eqb}
use Rattle.laws.specs.Bits.{value_of}
use Rattle.laws.specs.Pick.{pick}
use Rattle.laws.proofs.BitLaws.{value_take_lt}
use Rattle.ax25_aprs.specs.LatLon.{tables, dotted, field_of, side, table_end, table_text, lat_text, lon_text, read_latlon}
use Rattle.ax25_aprs.specs.Place.{Has, table_of, half_text, place_text}
use Rattle.ax25_aprs.specs.Text.{padded, read_text}
use Rattle.ax25_aprs.specs.declared.place.Place.{Place}
use Rattle.ax25_aprs.proofs.PlaceLaws.{dotted_size, field_at, latlon_some}
use Rattle.bits.specs.Read.{took, after_of}
use Rattle.bits.proofs.TakenLaws.{next_at}
use Rattle.ax25_aprs.proofs.ValueLaws.{Got, told_is, told_few, bit_told}

-- ---- the width of the table

width_end : (g : Bool) → pick g 25 29 ≡ 22 + pick g 3 7
unfolding pick
width_end true = refl
width_end false = refl

pub end_width : (b : List Bool) → table_end b ≡ 22 + pick (get_or b 21 false) 3 7
unfolding table_end
end_width b = width_end (get_or b 21 false)

-- ---- one answer

module _ (u : List Bool) (at : ℕ) where
  field_is : (x n p v : ℕ) → p ≡ at + x → v ≡ value_of (take n (drop p u)) → v ≡ field_of x n (drop at u)
  field_is x n p v e f = f ∙ ap (λ (y : ℕ). value_of (take n (drop y u))) e ∙ sym (field_at at x n u)

  pub bit_is : (x p v : ℕ) → p ≡ at + x → 1 ≤ length (drop p u) → v ≡ value_of (take 1 (drop p u)) → eqb v 1 ≡ get_or (drop at u) x false
  bit_is x p v e l f = bit_told u p v (omega (arith, l, length-drop p u)) f ∙ ap (λ (y : ℕ). get_or u y false) e ∙ sym (get_or-drop at u x false)

table_is_case : (b : List Bool) (g : Bool) (v : ℕ) → v ≡ field_of 22 (pick g 3 7) b → v ≡ pick g (field_of 22 3 b) (field_of 22 7 b)
unfolding pick
table_is_case b true v e = e
table_is_case b false v e = e

-- ---- a reading from a position on, and from where another ended

module _ (u : List Bool) (at n : ℕ) where
  pub first_got : (t : Option (ℕ × ℕ)) (v q : ℕ) → t ≡ took n u at → t ≡ Some (v, q) → Got u at n v q
  first_got t v q h e = told_is u at n v q (sym h ∙ e)

  module _ (t w : Option (ℕ × ℕ)) (v q : ℕ) (e : t ≡ Some (v, q)) (h : w ≡ took n u (after_of t at)) where
    pub next_got : (x p : ℕ) → w ≡ Some (x, p) → Got u q n x p
    next_got x p f = told_is u q n x p (sym (next_at (took n u) t w at v q e h) ∙ f)

    pub next_few : w ≡ None → length (drop q u) < n
    next_few f = told_few u q n (sym (next_at (took n u) t w at v q e h) ∙ f)

-- ---- all of them

-- seven readings, each from where the one before it ended: the numbers of a position
pub placed : (u : List Bool) (at : ℕ) (lat north listed table lon west symbol p₁ p₂ p₃ p₄ p₅ p₆ p₇ w : ℕ)
    → Got u at 20 lat p₁ → Got u p₁ 1 north p₂ → Got u p₂ 1 listed p₃ → w ≡ pick (eqb listed 1) 3 7 → Got u p₃ w table p₄ → Got u p₄ 21 lon p₅ → Got u p₅ 1 west p₆ → Got u p₆ 7 symbol p₇
    → Has (drop at u) at (record { lat = lat; north = eqb north 1; listed = eqb listed 1; table = table; lon = lon; west = eqb west 1; symbol = symbol; next = p₇ })
placed u at lat north listed table lon west symbol p₁ p₂ p₃ p₄ p₅ p₆ p₇ w g₁ g₂ g₃ width g₄ g₅ g₆ g₇ =
    let b = drop at u in
    let all = length-drop at u in
    let at_21 : p₂ ≡ at + 21 = omega arith in
    let listed_now : eqb listed 1 ≡ get_or b 21 false = bit_is u at 21 p₂ listed at_21 g₃.enough g₃.value_is in
    let wide : w ≡ pick (get_or b 21 false) 3 7 = width ∙ ap (λ (x : Bool). pick x 3 7) listed_now in
    let end : table_end b ≡ 22 + w = end_width b ∙ ap (λ (x : ℕ). 22 + x) (sym wide) in
    let at_22 : p₃ ≡ at + 22 = omega arith in
    let at_end : p₄ ≡ at + table_end b = omega arith in
    let at_west : p₅ ≡ at + (table_end b + 21) = omega arith in
    let at_symbol : p₆ ≡ at + (table_end b + 22) = omega arith in
    let at_0 : at ≡ at + 0 = omega arith in
    record {
      enough = omega (arith, all, length-drop p₆ u);
      lat_is = field_is u at 0 20 at lat at_0 g₁.value_is;
      north_is = bit_is u at 20 p₁ north g₁.next_is g₂.enough g₂.value_is;
      listed_is = listed_now;
      table_is = table_is_case b (get_or b 21 false) table (field_is u at 22 w p₃ table at_22 g₄.value_is ∙ ap (λ (x : ℕ). field_of 22 x b) wide);
      lon_is = field_is u at (table_end b) 21 p₄ lon at_end g₅.value_is;
      west_is = bit_is u at (table_end b + 21) p₅ west at_west g₆.enough g₆.value_is;
      symbol_is = field_is u at (table_end b + 22) 7 p₆ symbol at_symbol g₇.value_is;
      next_is = omega arith;
    }

-- ---- the numbers of a position

field_lt : (x n : ℕ) (b : List Bool) → field_of x n b < 2 ^ n
unfolding field_of
field_lt x n b = value_take_lt (drop x b) n

table_lt : (b : List Bool) (g : Bool) (v : ℕ) → v ≡ pick g (field_of 22 3 b) (field_of 22 7 b) → v < 128
unfolding pick
table_lt b true v e = omega (arith, e, field_lt 22 3 b)
table_lt b false v e = omega (arith, e, field_lt 22 7 b)

listed_lt : (b : List Bool) (g : Bool) (v : ℕ) → v ≡ pick g (field_of 22 3 b) (field_of 22 7 b) → g ≡ true → v < 8
unfolding pick
listed_lt b g v e f =
    let e' : v ≡ field_of 22 3 b = e ∙ ap (λ (x : Bool). pick x (field_of 22 3 b) (field_of 22 7 b)) f in
    omega (arith, e', field_lt 22 3 b)

table_case : (g : Bool) (x y : ℕ) → pick g (get_or tables (pick g x y) 0) (pick g x y) ≡ pick g (get_or tables x 0) y
unfolding pick
table_case true x y = refl
table_case false x y = refl

module _ (b : List Bool) (at : ℕ) (x : Place) (h : Has b at x) where
  pub table_small : x.table < 128
  table_small = table_lt b (get_or b 21 false) x.table h.table_is

  pub listed_small : x.listed ≡ true → x.table < 8
  listed_small e = listed_lt b (get_or b 21 false) x.table h.table_is (sym h.listed_is ∙ e)

  pub symbol_small : x.symbol < 128
  symbol_small = omega (arith, h.symbol_is, field_lt (table_end b + 22) 7 b)

  table_told : table_of x.listed x.table ≡ table_text b
  unfolding table_of table_text
  table_told = rw (h.listed_is, h.table_is) (table_case (get_or b 21 false) (field_of 22 3 b) (field_of 22 7 b))

  pub place_told : place_text x ≡ lat_text b ++ lon_text b
  unfolding place_text half_text lat_text lon_text
  place_told = rw (table_told, h.lat_is, h.north_is, h.lon_is, h.west_is, h.symbol_is) refl

-- ---- for the code

pub half_size : (k n v letter last : ℕ) → length (half_text k n v letter last) ≤ n + 4
unfolding half_text
half_size k n v letter last =
    let d = dotted k (padded n v) in
    rw (length-append d (letter ∷ last ∷ [])) (omega (arith, dotted_size k n v))

pub place_size : (x : Place) → length (place_text x) ≤ 21
unfolding place_text
place_size x =
    let l = half_text 4 6 x.lat (side 0x4E 0x53 x.north) (table_of x.listed x.table) in
    let m = half_text 5 7 x.lon (side 0x57 0x45 x.west) x.symbol in
    rw (length-append l m) (omega (arith, half_size 4 6 x.lat (side 0x4E 0x53 x.north) (table_of x.listed x.table), half_size 5 7 x.lon (side 0x57 0x45 x.west) x.symbol))

pub latlon_found : (u : List Bool) (at : ℕ) (x : Place) → Has (drop at u) at x → read_latlon (drop at u) ≡ Some (place_text x ++ read_text true (drop x.next u))
latlon_found u at x h =
    let b = drop at u in
    latlon_some b h.enough
    ∙ ap Some (sym (append_assoc (lat_text b) (lon_text b) (read_text true (drop (table_end b + 29) b))))
    ∙ ap₂ (λ (t : List ℕ) (r : List Bool). Some (t ++ read_text true r)) (sym (place_told b at x h)) (drop-drop (table_end b + 29) at u ∙ ap (λ (n : ℕ). drop n u) (sym h.next_is))
