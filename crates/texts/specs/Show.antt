-- Bytes as people read them.
-- Assumes nothing.
use mathlib.Core.List.{List, [], ◌∷◌, ◌++◌, flat_map}
use Rattle.std.specs.Prelude.{ℕ}
use Rattle.laws.specs.Pick.{pick}
use Rattle.laws.specs.Text.{ascii, between}
use Rattle.texts.specs.Hex.{hex_byte}

-- "bytes outside 20 to 7E as <0xNN>"
unfoldable pub shown_byte : ℕ → List ℕ
shown_byte x = pick (between 0x20 0x7E x) (x ∷ []) (ascii "<0x" ++ (hex_byte x ++ ascii ">"))

unfoldable pub shown : List ℕ → List ℕ
shown s = flat_map shown_byte s
