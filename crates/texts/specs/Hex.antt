-- Bytes in hexadecimal.
-- Assumes nothing.
use Rattle.std.specs.Prelude.{Result, Ok, Err}
use Rattle.std.specs.Prelude.{Bool, true, ◌&&◌, ℕ, ◌+◌, ◌-◌, ◌*◌, ◌/◌, ◌%◌, length, get_or, eqb, ltb}
use mathlib.Core.List.{List, [], ◌∷◌, flat_map}
use Rattle.std.proofs.lemmas.List.Edits.{sets}
use Rattle.laws.specs.Pick.{pick}
use Rattle.laws.specs.Text.{ascii, between}
use Rattle.texts.specs.declared.hex.HexError.{HexError}
use Rattle.texts.specs.declared.hex.HexError.TheVariants.{NoDigit, Odd, TooLong}

-- the capital digit of a number below 16
unfoldable pub digit_of : ℕ → ℕ
digit_of n = get_or (ascii "0123456789ABCDEF") n 0

-- the digits of a byte, and of bytes
unfoldable pub hex_byte : ℕ → List ℕ
hex_byte x = digit_of (x / 16) ∷ digit_of (x % 16) ∷ []

unfoldable pub hex_of : List ℕ → List ℕ
hex_of s = flat_map hex_byte s

-- the value of a digit, capital or small; 16 for any other byte
unfoldable pub hex_value : ℕ → ℕ
hex_value c =
    pick (between 48 57 c) (c - 48)
    (pick (between 65 70 c) (c - 55)
    (pick (between 97 102 c) (c - 87) 16))

-- every byte is a digit
unfoldable pub is_hex : List ℕ → Bool
is_hex [] = true
is_hex (c ∷ s) = ltb (hex_value c) 16 && is_hex s

-- the bytes that pairs of digits spell
unfoldable pub bytes_of : List ℕ → List ℕ
bytes_of [] = []
bytes_of (h ∷ []) = []
bytes_of (h ∷ l ∷ s) = (hex_value h * 16 + hex_value l) ∷ bytes_of s

-- what is read of a text where there is room for so many bytes
unfoldable pub read_of : ℕ → List ℕ → Result ℕ HexError
read_of room s =
    pick (is_hex s)
    (pick (eqb (length s % 2) 1) (Err Odd) (pick (ltb room (length s / 2)) (Err TooLong) (Ok (length s / 2))))
    (Err NoDigit)

-- the lent output afterwards
unfoldable pub left_by : Result ℕ HexError → List ℕ → List ℕ → List ℕ
left_by (Ok n) s out = sets out 0 (bytes_of s)
left_by (Err e) s out = out
