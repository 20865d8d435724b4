-- Runs of plain bytes: `text_encode` codes them at once.
-- Assumes nothing.
use Rattle.std.specs.Prelude.{Bool, ◌&&◌, List, [], ◌∷◌, ℕ, suc, get_or, take, eqb, ltb}
use Rattle.std.specs.Prelude.{Option, Some}
use Rattle.laws.specs.Pick.{pick}
use Rattle.bits_write.specs.Text7.{sevens}
use Rattle.ax25_aprs.specs.Words.{word_at}
use Rattle.ax25_aprs.specs.Text.{front_bits, front_size}

-- at the front a byte below 0x80, and no word
unfoldable pub plain_at : List ℕ → Bool
plain_at s = ltb (get_or s 0 0) 128 && eqb (word_at s) 0

-- how many bytes at the front are such
unfoldable pub plain_len : List ℕ → ℕ
plain_len [] = 0
plain_len (c ∷ cs) = pick (plain_at (c ∷ cs)) (suc (plain_len cs)) 0

-- the bits of the plain bytes at the front or, where there are none, of what stands there; and how many bytes they stand for
unfoldable pub part_bits : Bool → List ℕ → Option (List Bool)
part_bits p s = pick (ltb 0 (plain_len s)) (Some (sevens (take (plain_len s) s))) (front_bits p s)

unfoldable pub part_size : Bool → List ℕ → ℕ
part_size p s = pick (ltb 0 (plain_len s)) (plain_len s) (front_size p s)
