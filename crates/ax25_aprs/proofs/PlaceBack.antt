-- A plain position is read back.
-- Assumes nothing.
use mathlib.Core.Path.{◌≡◌, refl, sym, ap, ◌∙◌}
use mathlib.Core.Bool.{Bool, true, false}
use mathlib.Core.List.{List, [], ◌∷◌, ◌++◌, append_assoc}
use Rattle.std.proofs.Common.{Some}
use Prim.Native.Nat.{ℕ, suc, ◌+◌, ◌%◌, ◌^◌, ◌≤◌, ◌<◌}
use native.Mathlib.Nat.{mod-eq_of_lt}
use native.Mathlib.Omega.{arith}
use lib.ListN.{length, get_or, take, drop, replicate, length-append, take-append-drop, length-take, length-drop}
use lib.Seq.{take_at, drop_at, get_or_at, get_or-drop, drop-append-add, drop-drop, length-take-le}
use borrow.Author.Tests.{lt-ltb, le-ltb, eq-eqb, ne_eqb}
use Rattle.laws.specs.Bits.{bits_of}
use Rattle.laws.specs.Pick.{pick}
use Rattle.laws.proofs.BitLaws.{value_bits}
use Rattle.laws.proofs.Cases.{by_eq, by_le}
use Rattle.bits.specs.Val.{val_of}
use Rattle.bits_write.specs.Write.{top_bits}
use Rattle.bits.proofs.ValLaws.{val_lt}
use Rattle.bits_write.proofs.WriteLaws.{top_bits_lem}
use Rattle.refusals.specs.Outcome.{answer}
use Rattle.ax25_aprs.specs.LatLon.{side_bits, tables, table_code, table_bits, lat_bits, lon_bits, place_bits, latlon_bits, dotted, field_of, side, table_end, table_text, lat_text, lon_text, read_latlon}
use Rattle.ax25_aprs.specs.Plain.{DigitsOf, Place, place_bytes, PlainPlace}
use Rattle.ax25_aprs.proofs.TextLaws.{padded_val}
use Rattle.ax25_aprs.proofs.TextBack.{Back, text_back, text_zeros}

-- six digits fit 20 bits
pub six_lt : (ds : List ℕ) → DigitsOf 6 ds → val_of ds < 2 ^ 20
six_lt ds d =
    let h : val_of ds < 10 ^ 6 = rw d.0 at (val_lt ds d.1 (omega arith)) in
    omega arith

-- ---- the bytes

length_dotted : (k n : ℕ) (ds : List ℕ) → length ds ≡ k + n → length (dotted k ds) ≡ suc (k + n)
unfolding dotted
length_dotted k n ds e = rw length-append (omega (arith, length-take k ds, length-drop k ds))

-- the digits around the dot
undot : (k n : ℕ) (ds x : List ℕ) → length ds ≡ k + n → take k (dotted k ds ++ x) ++ take n (drop (suc k) (dotted k ds ++ x)) ≡ ds
unfolding dotted
undot k n ds x e =
    let f : length (take k ds) ≡ k = length-take-le k ds (omega arith) in
    let g : length (take k ds ++ 46 ∷ []) ≡ suc k = omega (arith, length-append (take k ds) (46 ∷ [])) in
    let b : length (drop k ds) ≡ n = omega (arith, length-drop k ds) in
    let whole : (take k ds ++ 46 ∷ drop k ds) ++ x ≡ take k ds ++ 46 ∷ (drop k ds ++ x) = append_assoc (take k ds) (46 ∷ drop k ds) x in
    let parts : take k ds ++ 46 ∷ (drop k ds ++ x) ≡ (take k ds ++ 46 ∷ []) ++ (drop k ds ++ x) = sym (append_assoc (take k ds) (46 ∷ []) (drop k ds ++ x)) in
    let left : take k ((take k ds ++ 46 ∷ drop k ds) ++ x) ≡ take k ds = rw whole (take_at (take k ds) (46 ∷ (drop k ds ++ x)) k f) in
    let right : drop (suc k) ((take k ds ++ 46 ∷ drop k ds) ++ x) ≡ drop k ds ++ x = rw (whole, parts) (drop_at (take k ds ++ 46 ∷ []) (drop k ds ++ x) (suc k) g) in
    rw (left, right, take_at (drop k ds) x n b) (take-append-drop k ds)

-- what stands where
record Stands (s : Place) (c : List ℕ) : Type 0 where
  lat : take 4 c ++ take 2 (drop 5 c) ≡ s.lat
  north : get_or c 7 0 ≡ side 0x4E 0x53 s.north
  table : get_or c 8 0 ≡ s.table
  lon : take 5 (drop 9 c) ++ take 2 (drop 15 c) ≡ s.lon
  west : get_or c 17 0 ≡ side 0x57 0x45 s.west
  symbol : get_or c 18 0 ≡ s.symbol
  comment : drop 19 c ≡ s.comment
  size : 19 ≤ length c

place_stands : (s : Place) → length s.lat ≡ 6 → length s.lon ≡ 7 → Stands s (place_bytes s)
unfolding place_bytes
place_stands s l m =
    let z = side 0x57 0x45 s.west ∷ s.symbol ∷ s.comment in
    let q = dotted 5 s.lon ++ z in
    let y = side 0x4E 0x53 s.north ∷ s.table ∷ q in
    let c = dotted 4 s.lat ++ y in
    let seven : length (dotted 4 s.lat) ≡ 7 = length_dotted 4 2 s.lat l in
    let eight : length (dotted 5 s.lon) ≡ 8 = length_dotted 5 2 s.lon m in
    let first : (n : ℕ) → drop (7 + n) c ≡ drop n y = λ n. rw (← seven) (drop-append-add (dotted 4 s.lat) y n) in
    let second : (n : ℕ) → drop (8 + n) q ≡ drop n z = λ n. rw (← eight) (drop-append-add (dotted 5 s.lon) z n) in
    let nine : drop 9 c ≡ q = first 2 in
    let later : (n : ℕ) → drop (9 + n) c ≡ drop n q = λ n. sym (drop-drop n 9 c) ∙ ap (λ (x : List ℕ). drop n x) nine in
    record {
      lat = undot 4 2 s.lat y l;
      north = get_or_at (dotted 4 s.lat) (side 0x4E 0x53 s.north) (s.table ∷ q) 0 7 seven;
      table = sym (get_or-drop 7 c 1 0) ∙ rw (first 0);
      lon = rw (later 6, nine) (undot 5 2 s.lon z m);
      west = sym (get_or-drop 9 c 8 0) ∙ rw nine (get_or_at (dotted 5 s.lon) (side 0x57 0x45 s.west) (s.symbol ∷ s.comment) 0 8 eight);
      symbol = sym (get_or-drop 9 c 9 0) ∙ rw nine (sym (get_or-drop 8 q 1 0) ∙ rw (second 0));
      comment = later 10 ∙ second 2;
      size = omega (arith, length-append (dotted 4 s.lat) y, length-append (dotted 5 s.lon) z);
    }

-- ---- the bits

-- of the digits and bytes that stand there
module _ (c ds : List ℕ) (x y : ℕ) where
  lat_bits_lem : take 4 c ++ take 2 (drop 5 c) ≡ ds → get_or c 7 0 ≡ x → get_or c 8 0 ≡ y
      → lat_bits c ≡ top_bits 20 (val_of ds) ++ (side_bits 0x4E 0x53 x ++ table_bits y)
  unfolding lat_bits
  lat_bits_lem d e f = rw (← d, ← e, ← f)

  lon_bits_lem : take 5 (drop 9 c) ++ take 2 (drop 15 c) ≡ ds → get_or c 17 0 ≡ x → get_or c 18 0 ≡ y
      → lon_bits c ≡ top_bits 21 (val_of ds) ++ (side_bits 0x57 0x45 x ++ top_bits 7 y)
  unfolding lon_bits
  lon_bits_lem d e f = rw (← d, ← e, ← f)

-- a latitude, a bit, the table's bits, a longitude, a bit, a symbol
image : ℕ → Bool → List Bool → ℕ → Bool → ℕ → List Bool
image v n t w e y = (bits_of 20 v ++ ((n ∷ []) ++ t)) ++ (bits_of 21 w ++ ((e ∷ []) ++ bits_of 7 y))

-- what is read of bits
record Seen (b : List Bool) (v : ℕ) (n : Bool) (t : ℕ) (w : ℕ) (e : Bool) (y : ℕ) (r : List Bool) : Type 0 where
  lat : field_of 0 20 b ≡ v % 2 ^ 20
  north : get_or b 20 false ≡ n
  table : table_text b ≡ t
  lon : field_of (table_end b) 21 b ≡ w % 2 ^ 21
  west : get_or b (table_end b + 21) false ≡ e
  symbol : field_of (table_end b + 22) 7 b ≡ y % 2 ^ 7
  rest : drop (table_end b + 29) b ≡ r
  size : table_end b + 29 ≤ length b

-- with a table of the list, and with another
module _ (v : ℕ) (n : Bool) (k w : ℕ) (e : Bool) (y : ℕ) (r : List Bool) where
  seen_listed : Seen (image v n (true ∷ bits_of 3 k) w e y ++ r) v n (get_or tables (k % 2 ^ 3) 0) w e y r
  unfolding image bits_of field_of table_end table_text pick
  seen_listed =
      record {
        lat = value_bits 20 v;
        north = refl;
        table = ap (λ (x : ℕ). get_or tables x 0) (value_bits 3 k);
        lon = value_bits 21 w;
        west = refl;
        symbol = value_bits 7 y;
        rest = refl;
        size = omega arith;
      }

  seen_other : Seen (image v n (false ∷ bits_of 7 k) w e y ++ r) v n (k % 2 ^ 7) w e y r
  unfolding image bits_of field_of table_end table_text pick
  seen_other =
      record {
        lat = value_bits 20 v;
        north = refl;
        table = value_bits 7 k;
        lon = value_bits 21 w;
        west = refl;
        symbol = value_bits 7 y;
        rest = refl;
        size = omega arith;
      }

-- ---- the table

-- a table that has a place stands there
table_known : (c : ℕ) → table_code c < 8 → get_or tables (table_code c) 0 ≡ c
unfolding table_code tables pick
table_known c =
    by_eq c 0x2F (λ e. rw e (λ _. refl)) (λ n.
    rw (ne_eqb c 0x2F n) (by_eq c 0x5C (λ e. rw e (λ _. refl)) (λ n.
    rw (ne_eqb c 0x5C n) (by_eq c 0x49 (λ e. rw e (λ _. refl)) (λ n.
    rw (ne_eqb c 0x49 n) (by_eq c 0x52 (λ e. rw e (λ _. refl)) (λ n.
    rw (ne_eqb c 0x52 n) (by_eq c 0x56 (λ e. rw e (λ _. refl)) (λ n.
    rw (ne_eqb c 0x56 n) (by_eq c 0x44 (λ e. rw e (λ _. refl)) (λ n.
    rw (ne_eqb c 0x44 n) (by_eq c 0x53 (λ e. rw e (λ _. refl)) (λ n.
    rw (ne_eqb c 0x53 n) (λ h. absurd (omega arith)))))))))))))))

seen : (v : ℕ) (n : Bool) (t w : ℕ) (e : Bool) (y : ℕ) (r : List Bool) → t < 128 → Seen (image v n (table_bits t) w e y ++ r) v n t w e y r
unfolding table_bits pick
seen v n t w e y r h =
    by_le 8 (table_code t)
    (λ k. rw (le-ltb (table_code t) 8 k, top_bits_lem 7 t (omega arith) (omega arith)) (rw (mod-eq_of_lt {n = t} {m = 2 ^ 7} (omega arith)) at (seen_other v n t w e y r)))
    (λ k.
    rw (lt-ltb (table_code t) 8 k)
    (rw (mod-eq_of_lt {n = table_code t} {m = 2 ^ 3} (omega arith), table_known t k) at (seen_listed v n (table_code t) w e y r)))

side_bits_lem : (y n : ℕ) (x : Bool) → (y ≡ n → ⊥) → side_bits y n (side y n x) ≡ x ∷ []
unfolding side_bits side pick
side_bits_lem y n true h = rw (eq-eqb y y refl)
side_bits_lem y n false h = rw (ne_eqb n y (λ e. h (sym e)), eq-eqb n n refl)

-- ---- both

-- the position has bits that are read as it, with zeros after them
pub record PlaceBack (s : Place) : Type 0 where
  pub coded : List Bool
  pub is_coded : latlon_bits (place_bytes s) ≡ answer coded
  pub is_read : (z : ℕ) → read_latlon (coded ++ replicate z false) ≡ Some (place_bytes s)
  pub long : 19 ≤ length (place_bytes s)

module _ (s : Place) (plain : PlainPlace s) where
  stands : Stands s (place_bytes s)
  stands = place_stands s plain.lat_digits.0 plain.lon_digits.0

  place_image : place_bits (place_bytes s) ≡ image (val_of s.lat) s.north (table_bits s.table) (val_of s.lon) s.west s.symbol
  unfolding place_bits image
  place_image =
      let c = place_bytes s in
      let f = stands in
      rw (lat_bits_lem c s.lat (side 0x4E 0x53 s.north) s.table f.lat f.north f.table, lon_bits_lem c s.lon (side 0x57 0x45 s.west) s.symbol f.lon f.west f.symbol, side_bits_lem 0x4E 0x53 s.north (λ e. omega arith), side_bits_lem 0x57 0x45 s.west (λ e. omega arith), top_bits_lem 20 (val_of s.lat) (omega arith) (six_lt s.lat plain.lat_digits), top_bits_lem 21 (val_of s.lon) (omega arith) (omega (arith, plain.lon_small)), top_bits_lem 7 s.symbol (omega arith) (omega (arith, plain.symbol_small)))

  text : Back true s.comment
  text = text_back true s.comment plain.printable (λ _. plain.altitudes)

  place_coded : latlon_bits (place_bytes s) ≡ answer (place_bits (place_bytes s) ++ text.coded)
  unfolding latlon_bits pick
  place_coded = rw (le-ltb (length (place_bytes s)) 19 stands.size, stands.comment, text.is_coded)

  place_read : (z : ℕ) → read_latlon ((place_bits (place_bytes s) ++ text.coded) ++ replicate z false) ≡ Some (place_bytes s)
  unfolding read_latlon pick lat_text lon_text place_bytes
  place_read z =
      let d = plain.lat_digits in
      let l = plain.lon_digits in
      let r = text.coded ++ replicate z false in
      let v = val_of s.lat in
      let w = val_of s.lon in
      let b = image v s.north (table_bits s.table) w s.west s.symbol ++ r in
      let e = seen v s.north s.table w s.west s.symbol r plain.table_small in
      let x : List ℕ = side 0x4E 0x53 s.north ∷ s.table ∷ [] in
      let y : List ℕ = side 0x57 0x45 s.west ∷ s.symbol ∷ [] in
      rw (append_assoc (place_bits (place_bytes s)) text.coded (replicate z false), place_image, le-ltb (length b) (table_end b + 29) e.size, e.lat, e.north, e.table, e.lon, e.west, e.symbol, e.rest, text_zeros true s.comment text z)
      (rw (mod-eq_of_lt (six_lt s.lat d), mod-eq_of_lt {n = w} {m = 2 ^ 21} (omega (arith, plain.lon_small)), mod-eq_of_lt {n = s.symbol} {m = 2 ^ 7} (omega (arith, plain.symbol_small)), padded_val 6 s.lat d.0 d.1 (omega arith), padded_val 7 s.lon l.0 l.1 (omega arith))
      (rw (append_assoc (dotted 5 s.lon) y s.comment, append_assoc (dotted 4 s.lat) x (dotted 5 s.lon ++ (y ++ s.comment)))))

  pub place_back : PlaceBack s
  place_back = record { coded = place_bits (place_bytes s) ++ text.coded; is_coded = place_coded; is_read = place_read; long = stands.size }
