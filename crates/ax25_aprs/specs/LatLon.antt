-- `latlon_encode` and `latlon_decode`: a position after its type byte.
-- Assumes nothing.
use Rattle.std.specs.Prelude.{Bool, true, false, List, [], ◌∷◌, ◌++◌, ℕ, ◌+◌, length, get_or, take, drop, eqb, ltb}
use Rattle.std.specs.Prelude.{Option, None, Some}
use Rattle.laws.specs.Bits.{bits_of, value_of}
use Rattle.laws.specs.Pick.{pick}
use Rattle.laws.specs.Text.{ascii}
use Rattle.bits.specs.Val.{val_of}
use Rattle.bits_write.specs.Write.{top_bits}
use Rattle.refusals.specs.Outcome.{Outcome, refused, answer}
use Rattle.ax25_aprs.specs.Coded.{◌then◌, or_refused}
use Rattle.ax25_aprs.specs.Text.{text_bits, padded, read_text}

-- ---- coding

-- the bit of one of two letters; of any other, none
unfoldable pub side_bits : ℕ → ℕ → ℕ → List Bool
side_bits y n c = pick (eqb c y) (true ∷ []) (pick (eqb c n) (false ∷ []) [])

-- SYMBOL_TABLES
unfoldable pub tables : List ℕ
tables = ascii "/\\IRVTDS"

-- the place of a table in the list, and 8 of any other byte; T is in SYMBOL_TABLES and not in SYMBOL_TABLES_CODED
unfoldable pub table_code : ℕ → ℕ
table_code c =
    pick (eqb c 0x2F) 0
    (pick (eqb c 0x5C) 1
    (pick (eqb c 0x49) 2
    (pick (eqb c 0x52) 3
    (pick (eqb c 0x56) 4
    (pick (eqb c 0x44) 6
    (pick (eqb c 0x53) 7 8))))))

unfoldable pub table_bits : ℕ → List Bool
table_bits c = pick (ltb (table_code c) 8) (true ∷ bits_of 3 (table_code c)) (false ∷ top_bits 7 c)

-- the 19 bytes DDMM.mm, N or S, table, DDDMM.mm, W or E, symbol, whatever they are
unfoldable pub lat_bits : List ℕ → List Bool
lat_bits s =
    top_bits 20 (val_of (take 4 s ++ take 2 (drop 5 s)))
    ++ (side_bits 0x4E 0x53 (get_or s 7 0)
    ++ table_bits (get_or s 8 0))

unfoldable pub lon_bits : List ℕ → List Bool
lon_bits s =
    top_bits 21 (val_of (take 5 (drop 9 s) ++ take 2 (drop 15 s)))
    ++ (side_bits 0x57 0x45 (get_or s 17 0)
    ++ top_bits 7 (get_or s 18 0))

unfoldable pub place_bits : List ℕ → List Bool
place_bits s = lat_bits s ++ lon_bits s

-- 3 where one of the four single bytes is missing; 5 where an altitude is no number
unfoldable pub latlon_bits : List ℕ → Outcome (List Bool)
latlon_bits s = pick (ltb (length s) 19) (refused 3) (answer (place_bits s) then or_refused 5 (text_bits true (drop 19 s)))

-- ---- reading

-- a dot after the first n
unfoldable pub dotted : ℕ → List ℕ → List ℕ
dotted n ds = take n ds ++ 46 ∷ drop n ds

-- n bits from a place, as a number
unfoldable pub field_of : ℕ → ℕ → List Bool → ℕ
field_of at n b = value_of (take n (drop at b))

unfoldable pub side : ℕ → ℕ → Bool → ℕ
side y n x = pick x y n

-- after the bit that says so, a table by its place in 3 bits or else in 7: where the longitude starts, and the table
unfoldable pub table_end : List Bool → ℕ
table_end b = pick (get_or b 21 false) 25 29

unfoldable pub table_text : List Bool → ℕ
table_text b = pick (get_or b 21 false) (get_or tables (field_of 22 3 b) 0) (field_of 22 7 b)

unfoldable pub lat_text : List Bool → List ℕ
lat_text b = dotted 4 (padded 6 (field_of 0 20 b)) ++ (side 0x4E 0x53 (get_or b 20 false) ∷ table_text b ∷ [])

unfoldable pub lon_text : List Bool → List ℕ
lon_text b =
    dotted 5 (padded 7 (field_of (table_end b) 21 b))
    ++ (side 0x57 0x45 (get_or b (table_end b + 21) false) ∷ field_of (table_end b + 22) 7 b ∷ [])

unfoldable pub read_latlon : List Bool → Option (List ℕ)
read_latlon b = pick (ltb (length b) (table_end b + 29)) None (Some (lat_text b ++ (lon_text b ++ read_text true (drop (table_end b + 29) b))))
