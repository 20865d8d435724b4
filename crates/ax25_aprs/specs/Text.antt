-- `text_encode` and `text_decode`: position text and messages, seven bits a byte or a word, and in position types fourteen for an altitude.
-- Assumes nothing.
use Rattle.std.specs.Prelude.{Bool, true, ◌&&◌, List, [], ◌∷◌, ◌++◌, ℕ, zero, suc, ◌+◌, ◌-◌, ◌^◌, length, get_or, take, drop, eqb, ltb, leb}
use Rattle.std.specs.Prelude.{Option, None, Some}
use Rattle.laws.specs.Bits.{bits_of, value_of}
use Rattle.laws.specs.Digits.{digits}
use Rattle.laws.specs.Pick.{pick}
use Rattle.laws.specs.Text.{is_digit, trim}
use Rattle.bits.specs.Val.{val_of}
use Rattle.bits_write.specs.Write.{top_bits}
use Rattle.ax25_address.specs.Address.{blank}
use Rattle.ax25_aprs.specs.Words.{word, word_at}

-- ---- coding

-- x before what follows, if that is there
unfoldable pub before : List Bool → Option (List Bool) → Option (List Bool)
before x None = None
before x (Some y) = Some (x ++ y)

-- both, one after the other, if both are there
unfoldable pub joined : Option (List Bool) → Option (List Bool) → Option (List Bool)
joined None y = None
joined (Some x) y = before x y

-- one or more digits, and nothing else, as a number
unfoldable pub all_digits : List ℕ → Bool
all_digits [] = true
all_digits (c ∷ cs) = is_digit c && all_digits cs

unfoldable pub unsigned : List ℕ → Option ℕ
unsigned [] = None
unsigned (c ∷ cs) = pick (all_digits (c ∷ cs)) (Some (val_of (c ∷ cs))) None

-- without a plus sign at the front
unfoldable pub no_plus : List ℕ → List ℕ
no_plus [] = []
no_plus (c ∷ cs) = pick (eqb c 43) cs (c ∷ cs)

-- the number that an altitude's four bytes are: "the source also takes white space around it and a leading plus sign"
unfoldable pub altitude : List ℕ → Option ℕ
altitude s = unsigned (no_plus (trim blank s))

unfoldable pub altitude_bits : Option ℕ → Option (List Bool)
altitude_bits None = None
altitude_bits (Some a) = Some (bits_of 7 1 ++ top_bits 14 a)

-- an altitude at the front: in a position type, the first word with four more bytes
unfoldable pub altitude_at : Bool → List ℕ → Bool
altitude_at p s = p && (eqb (word_at s) 1 && leb 9 (length s))

-- the bits of what stands at the front, and how many bytes they stand for
unfoldable pub front_bits : Bool → List ℕ → Option (List Bool)
front_bits p s =
    pick (altitude_at p s)
    (altitude_bits (altitude (take 4 (drop 5 s))))
    (pick (eqb (word_at s) 0) (Some (top_bits 7 (get_or s 0 0))) (Some (bits_of 7 (word_at s))))

unfoldable pub front_size : Bool → List ℕ → ℕ
front_size p s = pick (altitude_at p s) 9 (pick (eqb (word_at s) 0) 1 (length (word (word_at s))))

-- the text after its first k bytes
unfoldable pub text_from : Bool → ℕ → List ℕ → Option (List Bool)
text_from p k [] = Some []
text_from p zero (c ∷ cs) = joined (front_bits p (c ∷ cs)) (text_from p (front_size p (c ∷ cs) - 1) cs)
text_from p (suc k) (c ∷ cs) = text_from p k cs

-- none: an altitude is no number
unfoldable pub text_bits : Bool → List ℕ → Option (List Bool)
text_bits p s = text_from p 0 s

-- ---- reading

-- v in n digits or, where it has more, in one more: `{:06}` of 20 bits, `{:07}` of 21 and `{:04}` of 14
unfoldable pub padded : ℕ → ℕ → List ℕ
padded n v = pick (ltb v (10 ^ n)) (digits n v) (digits (suc n) v)

-- in a position type the number after the first word: of 14 bits, or of as many as there are
unfoldable pub altitude_text : Bool → List Bool → List ℕ
altitude_text p b = pick p (padded 4 (value_of (take 14 b))) []

-- "each 7-bit code is read by range: 0 nothing, 1 a word and in position types a 14-bit altitude, 2 to 9 words, 10 to 31 nothing, from 32
-- itself"; b are the bits after it
unfoldable pub code_text : Bool → ℕ → List Bool → List ℕ
code_text p c b =
    pick (eqb c 0) []
    (pick (eqb c 1) (word 1 ++ altitude_text p b)
    (pick (leb c 9) (word c)
    (pick (leb c 31) [] (c ∷ []))))

-- how many bits it takes after it
unfoldable pub code_span : Bool → ℕ → ℕ
code_span p c = pick (p && eqb c 1) 14 0

-- the text after the first k bits
unfoldable pub read_from : Bool → ℕ → List Bool → List ℕ
read_from p k [] = []
read_from p zero (x ∷ b) =
    pick (leb 6 (length b))
    (code_text p (value_of (x ∷ take 6 b)) (drop 6 b) ++ read_from p (6 + code_span p (value_of (x ∷ take 6 b))) b)
    []
read_from p (suc k) (x ∷ b) = read_from p k b

unfoldable pub read_text : Bool → List Bool → List ℕ
read_text p b = read_from p 0 b
