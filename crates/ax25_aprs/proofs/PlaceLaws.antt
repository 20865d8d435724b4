-- Positions by cases, for the code.
-- Assumes nothing.
use mathlib.Core.Path.{◌≡◌, refl, sym, ap, ◌∙◌}
use mathlib.Core.Bool.{Bool, true, false}
use mathlib.Core.List.{List, [], ◌∷◌, ◌++◌}
use Rattle.std.proofs.Common.{None, Some}
use Prim.Native.Nat.{ℕ, zero, suc, ◌+◌, ◌-◌, ◌/◌, ◌^◌, ◌≤◌, ◌<◌}
use native.Mathlib.Nat.{zero-add, suc-add, add_comm, div-div-eq-div-mul}
use native.Mathlib.Omega.{arith}
use lib.ListN.{length, get_or, take, drop, length-append, length-take, length-drop}
use lib.Seq.{drop-drop, take_at, drop_at}
use lib.Pow.{pow-add}
use borrow.Author.Tests.{lt-ltb, le-ltb}
use Rattle.laws.specs.Bits.{bits_of, value_of}
use Rattle.laws.specs.Digits.{digits}
use Rattle.laws.specs.Pick.{pick, ◌>>=◌}
use Rattle.laws.proofs.Cases.{by_test}
use Rattle.laws.proofs.DigitLaws.{length_digits}
use Rattle.bits.specs.Val.{val_of}
use Rattle.bits_write.specs.Write.{top_bits}
use Rattle.refusals.specs.Outcome.{refused, answer}
use Rattle.ax25_aprs.specs.Coded.{◌then◌, or_refused}
use Rattle.ax25_aprs.specs.Text.{text_bits, padded, read_text}
use Rattle.ax25_aprs.specs.LatLon.{table_code, table_bits, lat_bits, lon_bits, place_bits, latlon_bits, dotted, field_of, side, table_end, table_text, lat_text, lon_text, read_latlon}
use Rattle.ax25_aprs.specs.Body.{timestamped_bits, read_timestamped}
use Rattle.ax25_aprs.proofs.TextLaws.{padded_few, padded_more, length_padded}

-- ---- coding

module _ (c : ℕ) where
  pub table_listed : table_code c < 8 → table_bits c ≡ (true ∷ []) ++ bits_of 3 (table_code c)
  unfolding table_bits pick
  table_listed h = rw (lt-ltb (table_code c) 8 h)

  pub table_other : 8 ≤ table_code c → table_bits c ≡ (false ∷ []) ++ top_bits 7 c
  unfolding table_bits pick
  table_other h = rw (le-ltb (table_code c) 8 h)

module _ (s : List ℕ) where
  pub latlon_short : length s < 19 → latlon_bits s ≡ refused 3
  unfolding latlon_bits pick
  latlon_short h = rw (lt-ltb (length s) 19 h)

  pub latlon_long : 19 ≤ length s → latlon_bits s ≡ (answer (lat_bits s ++ lon_bits s) then or_refused 5 (text_bits true (drop 19 s)))
  unfolding latlon_bits pick place_bits
  latlon_long h = rw (le-ltb (length s) 19 h)

pub timestamped_short : (s : List ℕ) → length s < 7 → timestamped_bits s ≡ refused 3
unfolding timestamped_bits
timestamped_short s h = rw (latlon_short (drop 7 s) (omega (arith, length-drop 7 s)))

pub timestamped_is : (s : List ℕ) → timestamped_bits s ≡ (answer (top_bits 20 (val_of (take 6 s))) then latlon_bits (drop 7 s))
unfolding timestamped_bits
timestamped_is s = refl

-- ---- digits with a dot

digits_append : (k m v : ℕ) → digits (k + m) v ≡ digits k (v / 10 ^ m) ++ digits m v
unfolding digits
digits_append zero m v = rw zero-add
digits_append (suc k) m v =
    let e : v / 10 ^ m / 10 ^ k ≡ v / 10 ^ (k + m) = div-div-eq-div-mul v (10 ^ m) (10 ^ k) ∙ ap (λ (x : ℕ). v / x) (sym (pow-add 10 m k) ∙ ap (λ (x : ℕ). 10 ^ x) (add_comm m k)) in
    rw (suc-add k m, e, digits_append k m v)

dotted_digits : (k m n v : ℕ) → k + m ≡ n → dotted k (digits n v) ≡ digits k (v / 10 ^ m) ++ 46 ∷ digits m v
unfolding dotted
dotted_digits k m n v e =
    let l = length_digits k (v / 10 ^ m) in
    rw (← e, digits_append k m v, take_at (digits k (v / 10 ^ m)) (digits m v) k l, drop_at (digits k (v / 10 ^ m)) (digits m v) k l)

module _ (k n v : ℕ) (h : k ≤ n) where
  pub dotted_few : v < 10 ^ n → dotted k (padded n v) ≡ digits k (v / 10 ^ (n - k)) ++ 46 ∷ digits (n - k) v
  dotted_few l = rw (padded_few n v l) (dotted_digits k (n - k) n v (omega arith))

  pub dotted_more : 10 ^ n ≤ v → dotted k (padded n v) ≡ digits k (v / 10 ^ (n + 1 - k)) ++ 46 ∷ digits (n + 1 - k) v
  dotted_more l = rw (padded_more n v l) (dotted_digits k (n + 1 - k) (suc n) v (omega arith))

pub dotted_size : (k n v : ℕ) → length (dotted k (padded n v)) ≤ n + 2
unfolding dotted
dotted_size k n v =
    let p = padded n v in
    rw (length-append (take k p) (46 ∷ drop k p)) (omega (arith, length-take k p, length-drop k p, length_padded n v))

-- ---- reading

pub field_at : (at x n : ℕ) (u : List Bool) → field_of x n (drop at u) ≡ value_of (take n (drop (at + x) u))
unfolding field_of
field_at at x n u = rw (drop-drop x at u)

module _ (b : List Bool) where
  pub end_yes : get_or b 21 false ≡ true → table_end b ≡ 25
  unfolding table_end pick
  end_yes e = rw e

  pub end_no : get_or b 21 false ≡ false → table_end b ≡ 29
  unfolding table_end pick
  end_no e = rw e

  pub end_around : (25 ≤ table_end b) × (table_end b ≤ 29)
  end_around = by_test (get_or b 21 false) (λ e. rw (end_yes e) (omega arith, omega arith)) (λ e. rw (end_no e) (omega arith, omega arith))

  pub lat_text_size : length (lat_text b) ≤ 10
  unfolding lat_text
  lat_text_size =
      let d = dotted 4 (padded 6 (field_of 0 20 b)) in
      rw (length-append d (side 0x4E 0x53 (get_or b 20 false) ∷ table_text b ∷ [])) (omega (arith, dotted_size 4 6 (field_of 0 20 b)))

  pub lon_text_size : length (lon_text b) ≤ 11
  unfolding lon_text
  lon_text_size =
      let d = dotted 5 (padded 7 (field_of (table_end b) 21 b)) in
      rw (length-append d (side 0x57 0x45 (get_or b (table_end b + 21) false) ∷ field_of (table_end b + 22) 7 b ∷ [])) (omega (arith, dotted_size 5 7 (field_of (table_end b) 21 b)))

  pub latlon_none : length b < table_end b + 29 → read_latlon b ≡ None
  unfolding read_latlon pick
  latlon_none h = rw (lt-ltb (length b) (table_end b + 29) h)

  pub latlon_some : table_end b + 29 ≤ length b → read_latlon b ≡ Some (lat_text b ++ (lon_text b ++ read_text true (drop (table_end b + 29) b)))
  unfolding read_latlon pick
  latlon_some h = rw (le-ltb (length b) (table_end b + 29) h)

  pub timestamped_none : length b < 20 → read_timestamped b ≡ None
  unfolding read_timestamped pick
  timestamped_none h = rw (lt-ltb (length b) 20 h)

  pub timestamped_some : 20 ≤ length b → read_timestamped b ≡ (read_latlon (drop 20 b) >>= (λ t. Some ((0x40 ∷ padded 6 (field_of 0 20 b) ++ 0x68 ∷ []) ++ t)))
  unfolding read_timestamped pick
  timestamped_some h = rw (le-ltb (length b) 20 h)
