-- The address field of AX.25 2.2: the letters of a call shifted left by one bit, and the SSID byte.
-- Assumes nothing.
use Rattle.std.specs.Prelude.{Bool, ◌||◌, List, [], ◌∷◌, ◌++◌, map, ℕ, ◌*◌, ◌/◌, ◌%◌, take, get_or, replicate, eqb, leb}
use Rattle.std.specs.Int.Bits.{bit_or}
use Rattle.laws.specs.Pick.{pick}
use Rattle.laws.specs.Text.{ascii, between, upper, same, trim}
use Rattle.bits.specs.Val.{val_of}
use Rattle.ax25_token.specs.Token.{base_of, behind, suffix}

-- white space around a call: 09 to 0D and 1C to 20
unfoldable pub white : ℕ → Bool
white c = between 9 13 c || between 28 32 c

-- white space around an altitude: 09 to 0D and 20
unfoldable pub blank : ℕ → Bool
blank c = between 9 13 c || eqb c 32

-- white space around a call, or around an altitude
abbrev pub white_in : Bool → ℕ → Bool
white_in call = pick call white blank

unfoldable pub half : ℕ → ℕ
half x = x / 2

-- `addr_call`: the text of an address field of l letters
unfoldable pub addr_call : ℕ → List ℕ → List ℕ
addr_call l a = trim white (map half (take l a)) ++ suffix (get_or a l 0 / 2 % 16)

-- bit 80 of the SSID byte, the H bit of a digipeater
abbrev pub heard_in : ℕ → List ℕ → Bool
heard_in l a = leb 0x80 (get_or a l 0)

unfoldable pub double : ℕ → ℕ
double x = x * 2 % 256

-- l bytes of a text, blanks where there are fewer
unfoldable pub cut_to : ℕ → List ℕ → List ℕ
cut_to l t = take l (t ++ replicate l 32)

-- an SSID in text, with the source's four letters
unfoldable pub ssid_of : List ℕ → ℕ
ssid_of s =
    pick (same s (ascii "T")) 16
    (pick (same s (ascii "R")) 17
    (pick (same s (ascii "X")) 18
    (pick (same s (ascii "L")) 19 (val_of s))))

-- `call_bytes`: the address field of a call's text
unfoldable pub call_bytes : ℕ → List ℕ → List ℕ
call_bytes l c = map double (cut_to l (map upper (base_of c))) ++ (bit_or 0x60 (double (ssid_of (behind c))) ∷ [])
