-- Document 01's examples of tokens and one of each path, tokens under both readings (02, E5), and letter codes (02, E2), computed.
-- Assumes nothing.
use mathlib.Core.Path.{◌≡◌, refl, sym, ap, ◌∙◌}
use mathlib.Core.Bool.{Bool, true, false, ◌&&◌}
use mathlib.Core.List.{List, [], ◌∷◌, ◌++◌, map}
use Rattle.std.proofs.Common.{Option, None, Some}
use Rattle.std.proofs.lemmas.Option.{same_Some}
use Prim.Native.Nat.{ℕ}
use native.Mathlib.Omega.{arith}
use Prim.Native.String.{String}
use lib.Dec.{eqb}
use lib.ListN.{get_or}
use Rattle.laws.specs.Bits.{odd, num, bits_of, value_of}
use Rattle.laws.specs.Pick.{pick}
use Rattle.laws.specs.Text.{ascii, between, upper, same, is_one_of, starts, later, position}
use Rattle.bits.specs.Read.{letter, take_bits, take_text}
use Rattle.bits.specs.Val.{stops, next_val, val_from, val_of}
use Rattle.bits.proofs.ReadLaws.{take_bits_lem}
use Rattle.ax25_token.specs.Tables.{call_alphabet, long, sym_of, alpha_of, letter_codes, entry_code, wide_tokens, wide_row, pair_rows, pair_texts, fixed_rows, numbered_rows}
use Rattle.ax25_token.specs.Token.{hyphened, base_of, behind, number_at, two_digits, decimal, suffix, pair_bits, pairs_bits, fixed_bits, takes, numbered_bits, spell, ending, plain_ap, ap_bits, spelled_bits, or_else, token_bits, after, pair_form, fixed_form, numbered_form, symbol_form, form_of, wide_number, read_pair, read_number, letter_of, go_on, read_letters, read_spelled, read_form, read_token}
use Rattle.ax25_token.proofs.Alphabet.{same_code}
use Rattle.ax25_token.proofs.TokenBack.{token_same}

-- ---- a byte and its letter code, or none; an entry of the table and the code that it stands for, or none

gives : (ℕ → Option ℕ) → List (ℕ × Option ℕ) → Bool
gives f [] = true
gives f (v ∷ vs) = same_code (f v.0) v.1 && gives f vs

letters : List (ℕ × Option ℕ)
letters =
    (0x20, Some 0) ∷ (0x30, Some 27) ∷ (0x39, Some 36) ∷ (0x41, Some 1) ∷ (0x5A, Some 26)
    ∷ (0x2D, None) ∷ (0x61, None) ∷ (0x00, None) ∷ (0x80, None) ∷ (0xFF, None)
    -- beside the blank, the digits, the letters and the small letters
    ∷ (0x1F, None) ∷ (0x21, None) ∷ (0x2F, None) ∷ (0x3A, None) ∷ (0x40, None) ∷ (0x5B, None) ∷ (0x60, None) ∷ (0x7A, None) ∷ (0x7B, None)
    ∷ []

entries : List (ℕ × Option ℕ)
entries = (0, Some 0) ∷ (36, Some 36) ∷ (37, None) ∷ (254, None) ∷ (255, None) ∷ []

letter_examples : (gives alpha_of letters ≡ true) × (gives (λ b. entry_code (get_or letter_codes b 0)) letters ≡ true) × (gives entry_code entries ≡ true)
unfolding gives letters entries same_code alpha_of call_alphabet letter_codes entry_code position later pick
letter_examples = (refl, refl, refl)

-- ---- call length, call, bits

codes_as : Option (List Bool) → List ℕ → Bool
codes_as None t = same t (ascii "bad")
codes_as (Some b) t = same (map letter b) t

codes : List (ℕ × String × String) → Bool
codes [] = true
codes (v ∷ vs) = codes_as (token_bits v.0 (ascii v.1)) (ascii v.2) && codes vs

coded : List (ℕ × String × String)
coded =
    (6, "WIDE1-1", "100101001")
    ∷ (6, "WIDE2-2", "100101110")
    ∷ (6, "PNW2-1", "10011011")
    ∷ (6, "CQ", "101011")
    ∷ (6, "CQ-1", "0000110100010000000001")
    ∷ (6, "APIN35", "1011001111")
    ∷ (6, "APIN36", "110100001001001110011110100001")
    ∷ (6, "APRS", "110100010010010011000000")
    ∷ (6, "APRS-3", "0000010100000100100100110000000011")
    ∷ (6, "N0CALL-15", "0011100110110000110000010011000011001111")
    ∷ (7, "N0CALL-15", "0011100110110000110000010011000011000000001111")
    ∷ (6, "A-99", "0000010000000011")
    ∷ (6, "cq", "0000110100010000000000")
    ∷ (6, "APrs", "bad")
    ∷ (6, "AB*", "bad")
    ∷ []

-- ---- call length, bits, call, bits left

reads_as : Option (List ℕ × List Bool) → List ℕ → List ℕ → Bool
reads_as None c r = same c (ascii "None")
reads_as (Some p) c r = same p.0 c && same (map letter p.1) r

reads : Bool → List (ℕ × String × String × String) → Bool
reads mended [] = true
reads mended (v ∷ vs) = reads_as (read_token mended v.0 (map (λ x. eqb x 49) (ascii v.1))) (ascii v.2) (ascii v.3) && reads mended vs

read : List (ℕ × String × String × String)
read =
    (6, "10010100101", "WIDE1-1", "01")
    ∷ (6, "10010111001", "WIDE2-10", "01")
    ∷ (6, "1001101101", "PNW2-1", "01")
    ∷ (6, "10101101", "CQ", "01")
    ∷ (6, "101100111101", "APIN35", "01")
    ∷ (6, "11010001001001001100000001", "APRS", "01")
    ∷ (6, "001110011011000011000001001100001100111101", "N0CALL-15", "01")
    -- a blank first; a blank later ends the letters
    ∷ (6, "000000001001000000000001", " I", "01")
    -- a letter of 37 is skipped, and fatal in the AP form
    ∷ (6, "000001100101000010000000101001", "AB-10", "01")
    ∷ (6, "110100100101000010000000101001", "None", "")
    -- no token, and too few bits
    ∷ (6, "1101010000000000000000000000000000000000", "None", "")
    ∷ (6, "000001000000111", "None", "")
    ∷ []

-- ---- bits, the call of the original reading, the call of the mended one, bits left; for calls of six letters and of seven

reads_both : List (String × String × String × String) → Bool
reads_both [] = true
reads_both (v ∷ vs) =
    reads false ((6, v.0, v.1, v.3) ∷ (7, v.0, v.1, v.3) ∷ [])
    && (reads true ((6, v.0, v.2, v.3) ∷ (7, v.0, v.2, v.3) ∷ []) && reads_both vs)

read_both : List (String × String × String × String)
read_both =
    ("10010100001", "WIDE1", "WIDE1", "01")
    ∷ ("10010100101", "WIDE1-1", "WIDE1-1", "01")
    ∷ ("10010101001", "WIDE1-10", "WIDE1-2", "01")
    ∷ ("10010101101", "WIDE1-11", "WIDE1-3", "01")
    ∷ ("10010110001", "WIDE2", "WIDE2", "01")
    ∷ ("10010110101", "WIDE2-1", "WIDE2-1", "01")
    ∷ ("10010111001", "WIDE2-10", "WIDE2-2", "01")
    ∷ ("10010111101", "WIDE2-11", "WIDE2-3", "01")
    -- nothing follows; a bit is missing
    ∷ ("100101110", "WIDE2-10", "WIDE2-2", "")
    ∷ ("10010111", "None", "None", "")
    -- the other pairs have one bit
    ∷ ("1001101001", "PNW2", "PNW2", "01")
    ∷ ("1001101101", "PNW2-1", "PNW2-1", "01")
    -- WIDE2-10 that is spelled
    ∷ ("0101110010010001000001010111010000001010", "WIDE2-10", "WIDE2-10", "")
    ∷ ("10101101", "CQ", "CQ", "01")
    ∷ []

examples : (codes coded ≡ true) × (reads false read ≡ true) × (reads_both read_both ≡ true)
unfolding codes codes_as coded reads reads_as read reads_both read_both odd num bits_of value_of pick between upper same is_one_of starts later position take_bits take_text stops next_val val_from val_of call_alphabet long sym_of alpha_of wide_tokens wide_row pair_rows pair_texts fixed_rows numbered_rows hyphened base_of behind number_at two_digits decimal suffix pair_bits pairs_bits fixed_bits takes numbered_bits spell ending plain_ap ap_bits spelled_bits or_else token_bits after pair_form fixed_form numbered_form symbol_form form_of wide_number read_pair read_number letter_of go_on read_letters read_spelled read_form read_token
examples = (refl, refl, refl)

-- ---- a token whose index is not that of WIDE, whatever follows: `token_same` at CQ

cq_same : (l : ℕ) (rest : List Bool) → read_token true l (bits_of 6 43 ++ rest) ≡ read_token false l (bits_of 6 43 ++ rest)
cq_same l rest =
    token_same l (bits_of 6 43 ++ rest)
    (λ r e.
    let is : 43 ≡ 37 = ap (λ (p : ℕ × List Bool). p.0) (same_Some (43, rest) (37, r) (sym (take_bits_lem 6 43 rest) ∙ e)) in
    absurd (omega (arith, is)))
