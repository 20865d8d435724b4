-- A call token: its bits (`token_encode`), and what is read from bits (`token_decode`).
-- Assumes nothing.
use Rattle.std.specs.Prelude.{slice_get, Bool, true, false, ◌&&◌, ◌||◌, not, List, [], ◌∷◌, ◌++◌, map, ℕ, zero, suc, ◌+◌, ◌-◌, ◌/◌, ◌%◌, length, take, drop, get_or, eqb, ltb, leb}
use Rattle.std.specs.Prelude.{Option, None, Some}
use Rattle.laws.specs.Bits.{num, bits_of}
use Rattle.laws.specs.Pick.{pick, ◌>>=◌}
use Rattle.laws.specs.Text.{ascii, upper, same, is_one_of, starts}
use Rattle.bits.specs.Read.{take_bits, take_text}
use Rattle.bits.specs.Val.{val_of}
use Rattle.ax25_token.specs.Tables.{call_alphabet, long, sym_of, alpha_of, Pair, Fixed, Numbered, wide_tokens, wide_row, pair_rows, pair_texts, fixed_rows, numbered_rows}

-- ---- the text of a call

-- a hyphen is in it; what stands before the first, and after it
unfoldable pub hyphened : List ℕ → Bool
hyphened [] = false
hyphened (x ∷ xs) = eqb x 45 || hyphened xs

unfoldable pub base_of : List ℕ → List ℕ
base_of [] = []
base_of (x ∷ xs) = pick (eqb x 45) [] (x ∷ base_of xs)

unfoldable pub behind : List ℕ → List ℕ
behind [] = []
behind (x ∷ xs) = pick (eqb x 45) xs (behind xs)

-- the number in n bytes from a place on
unfoldable pub number_at : List ℕ → ℕ → ℕ → ℕ
number_at c at n = val_of (take n (drop at c))

-- a number below 100: two digits, or no more than it takes
unfoldable pub two_digits : ℕ → List ℕ
two_digits v = (48 + v / 10) ∷ (48 + v % 10) ∷ []

unfoldable pub decimal : ℕ → List ℕ
decimal v = pick (ltb v 10) ((48 + v) ∷ []) (two_digits v)

-- "a hyphen and a decimal number without leading zeros (0 unwritten)"
unfoldable pub suffix : ℕ → List ℕ
suffix v = pick (eqb v 0) [] (45 ∷ decimal v)

-- ---- `token_encode`: the bits of a call, none for a bad call

-- the digit is one bit, 1 for a 2
unfoldable pub pair_bits : Pair → List ℕ → List Bool
pair_bits p c =
    bits_of 6 (sym_of p.sym)
    ++ (bits_of 1 (num (eqb (get_or c p.digit 0) 50)) ++ bits_of p.width (number_at c p.number 1))

unfoldable pub pairs_bits : List Pair → List ℕ → Option (List Bool)
pairs_bits [] c = None
pairs_bits (p ∷ ps) c = pick (is_one_of c (pair_texts p.name)) (Some (pair_bits p c)) (pairs_bits ps c)

unfoldable pub fixed_bits : List Fixed → List ℕ → Option (List Bool)
fixed_bits [] c = None
fixed_bits (f ∷ fs) c = pick (same c f.name) (Some (bits_of 6 (sym_of f.sym))) (fixed_bits fs c)

-- the row takes the call: its name, no hyphen, and a number in its range
unfoldable pub takes : Numbered → List ℕ → Bool
takes n c = starts n.name c && (not (hyphened c) && (leb n.low (number_at c 4 2) && ltb (number_at c 4 2) n.high))

unfoldable pub numbered_bits : List Numbered → List ℕ → Option (List Bool)
numbered_bits [] c = None
numbered_bits (n ∷ ns) c =
    pick (takes n c) (Some (bits_of 6 (sym_of n.sym) ++ bits_of n.width (number_at c 4 2 - n.low))) (numbered_bits ns c)

-- "6 bits a letter"
unfoldable pub spell : List ℕ → Option (List Bool)
spell [] = Some []
spell (x ∷ xs) = do
  v ← alpha_of x
  b ← spell xs
  Some (bits_of 6 v ++ b)

-- "0 ends a short one"
unfoldable pub ending : ℕ → ℕ → List Bool
ending l n = pick (ltb n l) (bits_of 6 0) []

-- the AP form: a call that starts with AP and has no hyphen
unfoldable pub plain_ap : List ℕ → Bool
plain_ap c = starts (ascii "AP") c && not (hyphened c)

unfoldable pub ap_bits : ℕ → List ℕ → Option (List Bool)
ap_bits l c = do
  b ← spell (drop 2 c)
  Some (bits_of 6 (sym_of 59) ++ (b ++ ending l (length c)))

-- a spelled call, and "4 bits of SSID"
unfoldable pub spelled_bits : ℕ → List ℕ → Option (List Bool)
spelled_bits l c = do
  b ← spell (map upper (base_of c))
  Some (b ++ (ending l (length (base_of c)) ++ bits_of 4 (val_of (behind c))))

unfoldable pub or_else : Option (List Bool) → Option (List Bool) → Option (List Bool)
or_else None o = o
or_else (Some b) o = Some b

-- in the source's order; l is the call length, 6 or 7
unfoldable pub token_bits : ℕ → List ℕ → Option (List Bool)
token_bits l c =
    pick (is_one_of c wide_tokens) (Some (pair_bits wide_row c))
    (or_else (pairs_bits pair_rows c)
    (or_else (fixed_bits fixed_rows c)
    (or_else (numbered_bits numbered_rows c)
    (pick (plain_ap c) (ap_bits l c) (spelled_bits l c)))))

-- ---- `token_decode`: a call from bits, with the bits that are left

-- a name before what is read
unfoldable pub after : List ℕ → Option (List ℕ × List Bool) → Option (List ℕ × List Bool)
after n None = None
after n (Some p) = Some (n ++ p.0, p.1)

-- what an index of LONG stands for: a spelled call's first letter; a name with a digit and a number, or with nothing, or with a number;
-- the letters AP; no token
pub data Form : Type 0 where
  spelled : ℕ → Form
  paired : List ℕ → ℕ → Form
  named : List ℕ → Form
  counted : List ℕ → ℕ → ℕ → Form
  begun : Form
  no_token : Form

unfoldable pub pair_form : List Pair → ℕ → Form → Form
pair_form [] s f = f
pair_form (p ∷ ps) s f = pick (eqb p.sym s) (paired p.name p.width) (pair_form ps s f)

unfoldable pub fixed_form : List Fixed → ℕ → Form → Form
fixed_form [] s f = f
fixed_form (x ∷ xs) s f = pick (eqb x.sym s) (named x.name) (fixed_form xs s f)

unfoldable pub numbered_form : List Numbered → ℕ → Form → Form
numbered_form [] s f = f
numbered_form (n ∷ ns) s f = pick (eqb n.sym s) (counted n.name n.low n.width) (numbered_form ns s f)

unfoldable pub symbol_form : Option ℕ → Form
symbol_form None = no_token
symbol_form (Some s) =
    pair_form (wide_row ∷ pair_rows) s
    (fixed_form fixed_rows s
    (numbered_form numbered_rows s
    (pick (eqb s 59) begun (spelled s))))

-- "0 to 36 start a spelled call, 37 to 52 name `PAIRS`, `FIXED`, `NUMBERED` and the AP form, 53 to 63 are no token"
unfoldable pub form_of : ℕ → Form
form_of i = symbol_form (slice_get long i)

-- the number after the digit, of w bits. The original reading, false, takes them as decimal digits, so that 10 and 11 are ten and eleven;
-- true is "a mended reading in which the last two bits of a WIDE token are a binary number" (02, E5). The other pairs have one bit
unfoldable pub wide_number : Bool → ℕ → List Bool → Option (ℕ × List Bool)
wide_number mended w b = pick mended (take_bits w b) (take_text w b)

-- a digit, 1 or 2, and a number of w bits
unfoldable pub read_pair : Bool → ℕ → List Bool → Option (List ℕ × List Bool)
read_pair mended w b = do
  (d, r) ← take_bits 1 b
  (v, q) ← wide_number mended w r
  Some ((49 + d) ∷ suffix v, q)

-- a number of w bits, counted from a lowest
unfoldable pub read_number : ℕ → ℕ → List Bool → Option (List ℕ × List Bool)
read_number lo w b = do
  (v, r) ← take_bits w b
  Some (two_digits (v + lo), r)

-- what a later code stands for: the blank, a letter, or neither
pub data Letter : Type 0 where
  blank : Letter
  letter : ℕ → Letter
  neither : Letter

unfoldable pub letter_of : ℕ → Letter
letter_of v = pick (eqb v 0) blank (pick (ltb v 37) (letter (get_or call_alphabet v 0)) neither)

-- "a call's reading ends early at a blank"; "a later letter of 37 or more is skipped in a spelled call and fatal in the AP form", which is
-- read strictly
unfoldable pub go_on : Bool → Letter → List Bool → Option (List ℕ × List Bool) → Option (List ℕ × List Bool)
go_on strict blank r next = Some ([], r)
go_on strict (letter x) r next = after (x ∷ []) next
go_on true neither r next = None
go_on false neither r next = next

-- at most n letters
unfoldable pub read_letters : Bool → ℕ → List Bool → Option (List ℕ × List Bool)
read_letters strict zero b = Some ([], b)
read_letters strict (suc n) b = do
  (v, r) ← take_bits 6 b
  go_on strict (letter_of v) r (read_letters strict n r)

-- at most n letters, and the SSID
unfoldable pub read_spelled : ℕ → List Bool → Option (List ℕ × List Bool)
read_spelled n b = do
  (t, r) ← read_letters false n b
  (v, q) ← take_bits 4 r
  Some (t ++ suffix v, q)

unfoldable pub read_form : Bool → ℕ → Form → List Bool → Option (List ℕ × List Bool)
read_form mended l (spelled x) b = after (x ∷ []) (read_spelled (l - 1) b)
read_form mended l (paired n w) b = after n (read_pair mended w b)
read_form mended l (named n) b = Some (n, b)
read_form mended l (counted n lo w) b = after n (read_number lo w b)
read_form mended l begun b = after (ascii "AP") (read_letters true (l - 2) b)
read_form mended l no_token b = None

-- "A token starts with a 6-bit index into `LONG`". "The token reader's promise takes the choice, and so do all above it" (02, E5): the
-- reading comes first among the arguments
unfoldable pub read_token : Bool → ℕ → List Bool → Option (List ℕ × List Bool)
read_token mended l b = do
  (i, r) ← take_bits 6 b
  read_form mended l (form_of i) r
