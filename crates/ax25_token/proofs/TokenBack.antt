-- A clean call's token is read back, whatever bits follow it, under both readings. The four WIDE calls that are clean only under the mended reading are read as others under the original one.
-- Assumes nothing.
use mathlib.Core.Path.{◌≡◌, refl, sym, ap, ap₂, subst, ◌∙◌}
use mathlib.Core.Logic.{⊎_elim}
use mathlib.Core.Bool.{Bool, true, false, ◌&&◌, ◌||◌, not, false≢true}
use mathlib.Core.List.{List, [], ◌∷◌, ◌++◌, map, append_assoc}
use Rattle.std.proofs.Common.{Option, None, Some}
use Rattle.std.proofs.lemmas.Option.{same_Some, none-some}
use Prim.Native.Nat.{ℕ, zero, suc, ◌+◌, ◌-◌, ◌*◌, ◌%◌, ◌^◌, ◌≤◌, ◌<◌, min}
use native.Mathlib.Nat.{le_of_suc-le-suc, not-suc-le-zero, mod-eq_of_lt}
use native.Mathlib.Omega.{arith}
use lib.ListN.{length, take, drop, get_or, length-append, length-drop}
use lib.Seq.{take_all, take_at, drop_at}
use lib.Dec.{eqb, leb, lit<, lit≤}
use borrow.Author.Tests.{leb-true, ltb-true, ne_eqb, lt-ltb, le-ltb, not-true}
use Rattle.laws.specs.Bits.{odd, num, bits_of}
use Rattle.laws.specs.Pick.{pick}
use Rattle.laws.specs.Text.{ascii, between, is_digit, upper, same, is_one_of, starts, later, position}
use Rattle.laws.proofs.BitLaws.{length_bits, num_lt}
use Rattle.laws.proofs.Cases.{by_le, by_option, and_left, and_right}
use Rattle.laws.proofs.TextLaws.{same_eq, starts_eq, below, at_each, each, one_of_each}
use Rattle.bits.specs.Read.{letter as digit, take_bits}
use Rattle.bits.specs.Val.{stops, next_val, val_from, val_of}
use Rattle.bits.proofs.ReadLaws.{take_bits_lem, text_yes}
use Rattle.ax25_token.specs.Tables.{long, sym_of, Pair, Fixed, Numbered, wide_tokens, wide_row, pair_rows, pair_texts, fixed_rows, numbered_rows}
use Rattle.ax25_token.specs.Token.{hyphened, base_of, number_at, two_digits, decimal, suffix, pair_bits, pairs_bits, fixed_bits, takes, numbered_bits, spell, ending, plain_ap, ap_bits, spelled_bits, or_else, token_bits, Form, spelled, paired, named, counted, begun, no_token, pair_form, fixed_form, numbered_form, symbol_form, form_of, blank, letter, letter_of, after, go_on, wide_number, read_pair, read_number, read_letters, read_spelled, read_form, read_token}
use Rattle.ax25_token.specs.Clean.{clean_letter, clean_letters, misread, misread_by, call_text, CleanCall}
use Rattle.ax25_token.proofs.Cases.{form_spelled, form_ap, form_none, token_short, token_form, pair_short, pair_bare, pair_whole, pairs_alike, code_wide, ending_all, ending_short, ap_whole, spelled_bits_lem}
use Rattle.ax25_token.proofs.CleanLaws.{letter_or_digit, alpha_code, Spelt, clean_first, clean_rest, clean_head, clean_drop, upper_clean, call_plain, call_base, call_ssid, call_unhyphened}
use Rattle.ax25_token.proofs.Sizes.{pair_size, token_size_call}

-- the bits x are read as the call c, whatever follows
abbrev pub Reads : Bool → ℕ → List ℕ → List Bool → Type 0
Reads mended l c x = (rest : List Bool) → read_token mended l (x ++ rest) ≡ Some (c, rest)

-- the call c has bits, and they are read as d
pub record Back (mended : Bool) (l : ℕ) (c d : List ℕ) : Type 0 where
  pub bits : List Bool
  pub coded : token_bits l c ≡ Some bits
  pub size : length bits ≤ 6 * l + 4
  pub read : Reads mended l d bits

index_back : (mended : Bool) (l i : ℕ) (b : List Bool) → i < 64 → read_token mended l (bits_of 6 i ++ b) ≡ read_form mended l (form_of i) b
index_back mended l i b h = rw (token_form mended l (bits_of 6 i ++ b) (i % 64) b (take_bits_lem 6 i b), mod-eq_of_lt h)

-- ---- a digit and a number

-- what the bits of a number are read as: its decimal digits, or the number
wide_value : Bool → ℕ → ℕ → ℕ
wide_value mended w v = pick mended (v % 2 ^ w) (val_of (map digit (bits_of w v)))

wide_number_lem : (mended : Bool) (w v : ℕ) (rest : List Bool) → wide_number mended w (bits_of w v ++ rest) ≡ Some (wide_value mended w v, rest)
unfolding wide_number wide_value pick
wide_number_lem true w v rest = take_bits_lem w v rest
wide_number_lem false w v rest =
    text_yes w (bits_of w v ++ rest) (omega (arith, length-append (bits_of w v) rest, length_bits w v))
    ∙ rw (take_at (bits_of w v) rest w (length_bits w v), drop_at (bits_of w v) rest w (length_bits w v))

-- what a row of PAIRS makes of a call
pair_text : Bool → Pair → List ℕ → List ℕ
pair_text mended p c =
    p.name ++ (49 + num (eqb (get_or c p.digit 0) 50)) ∷ suffix (wide_value mended p.width (number_at c p.number 1))

abbrev PairRight : Pair → Type 0
PairRight p = (sym_of p.sym < 64) × (form_of (sym_of p.sym) ≡ paired p.name p.width)

row_reads : (mended : Bool) (l : ℕ) (p : Pair) (c : List ℕ) → PairRight p → Reads mended l (pair_text mended p c) (pair_bits p c)
unfolding pair_text pair_bits read_form read_pair after
row_reads mended l p c h rest =
    let i = sym_of p.sym in
    let d = num (eqb (get_or c p.digit 0) 50) in
    let v = number_at c p.number 1 in
    let w = p.width in
    rw (append_assoc (bits_of 6 i) (bits_of 1 d ++ bits_of w v) rest, append_assoc (bits_of 1 d) (bits_of w v) rest, index_back mended l i (bits_of 1 d ++ (bits_of w v ++ rest)) h.0, h.1, take_bits_lem 1 d (bits_of w v ++ rest), mod-eq_of_lt (num_lt (eqb (get_or c p.digit 0) 50)), wide_number_lem mended w v rest)

-- the row reads a call as itself
fits : Bool → Pair → List ℕ → Bool
fits mended p c = same (pair_text mended p c) c

row_back : (mended : Bool) (l : ℕ) (p : Pair) (c : List ℕ) → PairRight p → fits mended p c ≡ true → Reads mended l c (pair_bits p c)
unfolding fits
row_back mended l p c h t = rw (same_eq (pair_text mended p c) c t) at (row_reads mended l p c h)

-- ---- WIDE

wide_right : PairRight wide_row
unfolding wide_row form_of symbol_form pair_form fixed_form numbered_form long sym_of position later pick
wide_right = (lit< tt, refl)

fits_wide : Bool → List ℕ → Bool
fits_wide mended c = is_one_of c (misread_by mended) || fits mended wide_row c

all_wide : (mended : Bool) → each (fits_wide mended) wide_tokens ≡ true
unfolding each fits_wide fits pair_text wide_value wide_tokens wide_row misread is_one_of same number_at val_of val_from stops next_val pick num odd bits_of suffix decimal two_digits
all_wide true = refl
all_wide false = refl

wide_back : (mended : Bool) (l : ℕ) (c : List ℕ) → is_one_of c (misread_by mended) ≡ false → is_one_of c wide_tokens ≡ true → Reads mended l c (pair_bits wide_row c)
unfolding fits_wide
wide_back mended l c m e = row_back mended l wide_row c wide_right (rw m at (one_of_each (fits_wide mended) c wide_tokens (all_wide mended) e))

wide_as : (mended : Bool) (l : ℕ) (c d : List ℕ) → 1 ≤ l → is_one_of c wide_tokens ≡ true → pair_text mended wide_row c ≡ d → Back mended l c d
unfolding wide_row
wide_as mended l c d h e t =
    record {
      bits = pair_bits wide_row c;
      coded = code_wide l c e;
      size = omega (arith, pair_size wide_row c);
      read = rw t at (row_reads mended l wide_row c wide_right);
    }

-- SSIDs 2 and 3 of WIDE1 and WIDE2 come back as 10 and 11 under the original reading
pub wide_misread : (l : ℕ) → 1 ≤ l
    → Back false l (ascii "WIDE1-2") (ascii "WIDE1-10") × Back false l (ascii "WIDE1-3") (ascii "WIDE1-11")
    × Back false l (ascii "WIDE2-2") (ascii "WIDE2-10") × Back false l (ascii "WIDE2-3") (ascii "WIDE2-11")
unfolding pair_text wide_value wide_tokens wide_row is_one_of same number_at val_of val_from stops next_val pick num odd bits_of suffix decimal two_digits
wide_misread l h = (wide_as false l _ _ h refl refl, wide_as false l _ _ h refl refl, wide_as false l _ _ h refl refl, wide_as false l _ _ h refl refl)

-- ---- the rows of the tables

-- which of the two a choice took
chosen : (t : Bool) (b x : List Bool) (o : Option (List Bool)) (R : Type 0) → (t ≡ true → b ≡ x → R) → (o ≡ Some x → R) → pick t (Some b) o ≡ Some x → R
unfolding pick
chosen true b x o R f g e = f refl (same_Some b x e)
chosen false b x o R f g e = g e

abbrev PairsRight : Bool → List Pair → Type 0
PairsRight mended [] = Unit {0}
PairsRight mended (p ∷ ps) = (PairRight p × (each (fits mended p) (pair_texts p.name) ≡ true)) × PairsRight mended ps

pairs_right : (mended : Bool) → PairsRight mended pair_rows
unfolding pair_rows pair_texts each fits pair_text wide_value wide_row form_of symbol_form pair_form fixed_form numbered_form long sym_of position later same number_at val_of val_from stops next_val pick num odd bits_of suffix decimal two_digits
pairs_right true =
    (((lit< tt, refl), refl), (((lit< tt, refl), refl), (((lit< tt, refl), refl), (((lit< tt, refl), refl), tt))))
pairs_right false =
    (((lit< tt, refl), refl), (((lit< tt, refl), refl), (((lit< tt, refl), refl), (((lit< tt, refl), refl), tt))))

pairs_back : (mended : Bool) (l : ℕ) (ps : List Pair) → PairsRight mended ps → (c : List ℕ) (x : List Bool) → pairs_bits ps c ≡ Some x → Reads mended l c x
unfolding pairs_bits
pairs_back mended l [] h c x e = absurd (none-some x e)
pairs_back mended l (p ∷ ps) h c x e =
    chosen (is_one_of c (pair_texts p.name)) (pair_bits p c) x (pairs_bits ps c) (Reads mended l c x)
    (λ t q. rw q at (row_back mended l p c h.0.0 (one_of_each (fits mended p) c (pair_texts p.name) h.0.1 t)))
    (pairs_back mended l ps h.1 c x)
    e

abbrev FixedRight : List Fixed → Type 0
FixedRight [] = Unit {0}
FixedRight (f ∷ fs) = ((sym_of f.sym < 64) × (form_of (sym_of f.sym) ≡ named f.name)) × FixedRight fs

fixed_right : FixedRight fixed_rows
unfolding fixed_rows pair_rows wide_row form_of symbol_form pair_form fixed_form numbered_form long sym_of position later pick
fixed_right =
    ((lit< tt, refl), ((lit< tt, refl), ((lit< tt, refl), ((lit< tt, refl), ((lit< tt, refl), ((lit< tt, refl), ((lit< tt, refl), tt)))))))

fixed_back : (mended : Bool) (l : ℕ) (fs : List Fixed) → FixedRight fs → (c : List ℕ) (x : List Bool) → fixed_bits fs c ≡ Some x → Reads mended l c x
unfolding fixed_bits read_form
fixed_back mended l [] h c x e = absurd (none-some x e)
fixed_back mended l (f ∷ fs) h c x e =
    let i = sym_of f.sym in
    chosen (same c f.name) (bits_of 6 i) x (fixed_bits fs c) (Reads mended l c x)
    (λ t q rest. rw (← q, index_back mended l i rest h.0.0, h.0.1, same_eq c f.name t))
    (fixed_back mended l fs h.1 c x)
    e

-- ---- two digits

val_letter : (a x : ℕ) (t : List ℕ) → 65 ≤ x → val_from a (x ∷ t) ≡ a
unfolding val_from stops pick
val_letter a x t h = simp (ne_eqb x 32 (λ q. omega arith), le-ltb x 48 (omega arith), lt-ltb 57 x (omega arith))

val_digit : (a x : ℕ) (t : List ℕ) → 48 ≤ x → x ≤ 57 → a < 100 → val_from a (x ∷ t) ≡ val_from (a * 10 + (x - 48)) t
unfolding val_from stops next_val pick
val_digit a x t h k s =
    let m : min (a * 10 + (x - 48)) 0xffff_ffff_ffff_ffff ≡ a * 10 + (x - 48) = omega arith in
    simp (ne_eqb x 32 (λ q. omega arith), le-ltb x 48 (omega arith), le-ltb 57 x (omega arith), m)

-- at most two clean letters with a number of 10 or more are its digits
abbrev AreDigits : List ℕ → Type 0
AreDigits t = 10 ≤ val_of t → two_digits (val_of t) ≡ t

one_digit : (x : ℕ) → clean_letter x ≡ true → val_of (x ∷ []) < 10
unfolding val_of val_from
one_digit x e =
    ⊎_elim (λ p. omega (arith, val_letter 0 x [] p.0)) (λ p. omega (arith, val_digit 0 x [] p.0 p.1 (lit< tt))) (letter_or_digit x e)

both_digits : (x y : ℕ) → clean_letter x ≡ true → clean_letter y ≡ true → AreDigits (x ∷ y ∷ [])
unfolding val_of val_from two_digits
both_digits x y e f h =
    ⊎_elim (λ p. absurd (omega (arith, val_letter 0 x (y ∷ []) p.0)))
    (λ p. ⊎_elim (λ q. absurd (omega (arith, val_digit 0 x (y ∷ []) p.0 p.1 (lit< tt), val_letter (0 * 10 + (x - 48)) y [] q.0)))
    (λ q.
    let v : val_from 0 (x ∷ y ∷ []) ≡ (x - 48) * 10 + (y - 48) =
    omega (arith, val_digit 0 x (y ∷ []) p.0 p.1 (lit< tt), val_digit (0 * 10 + (x - 48)) y [] q.0 q.1 (omega arith)) in
    ap₂ (λ (u w : ℕ). u ∷ w ∷ []) (omega arith) (omega arith))
    (letter_or_digit y f))
    (letter_or_digit x e)

two_digits_lem : (t : List ℕ) → clean_letters t ≡ true → length t ≤ 2 → AreDigits t
unfolding val_of val_from
two_digits_lem [] e l h = absurd (omega arith)
two_digits_lem (x ∷ []) e l h = absurd (omega (arith, one_digit x (clean_first x [] e)))
two_digits_lem (x ∷ y ∷ []) e l h = both_digits x y (clean_first x (y ∷ []) e) (clean_first y [] (clean_rest x (y ∷ []) e)) h
two_digits_lem (x ∷ y ∷ z ∷ t) e l h = absurd (omega arith)

-- ---- numbered names

-- a call of letters alone
record Plain (c : List ℕ) : Type 0 where
  clean : clean_letters c ≡ true
  six : length c ≤ 6

-- what a row of NUMBERED has to be
abbrev RowRight : Numbered → Type 0
RowRight n =
    (sym_of n.sym < 64) × (form_of (sym_of n.sym) ≡ counted n.name n.low n.width)
    × (length n.name ≡ 4) × (10 ≤ n.low) × (n.high ≤ n.low + 2 ^ n.width)

number_back : (mended : Bool) (l : ℕ) (n : Numbered) (t : List ℕ) → RowRight n → clean_letters t ≡ true → length t ≤ 2 → n.low ≤ val_of t → val_of t < n.high
    → Reads mended l (n.name ++ t) (bits_of 6 (sym_of n.sym) ++ bits_of n.width (val_of t - n.low))
unfolding read_form read_number after
number_back mended l n t r e s lo hi rest =
    let i = sym_of n.sym in
    let k = val_of t - n.low in
    let small : k < 2 ^ n.width = omega (arith, r.4) in
    let whole : k + n.low ≡ val_of t = omega arith in
    rw (append_assoc (bits_of 6 i) (bits_of n.width k) rest, index_back mended l i (bits_of n.width k ++ rest) r.0, r.1, take_bits_lem n.width k rest, mod-eq_of_lt small, whole, two_digits_lem t e s (omega (arith, r.3)))

-- the row takes the call
row_takes : (mended : Bool) (l : ℕ) (n : Numbered) (c : List ℕ) → RowRight n → (hyphened c ≡ false → Plain c) → takes n c ≡ true
    → Reads mended l c (bits_of 6 (sym_of n.sym) ++ bits_of n.width (number_at c 4 2 - n.low))
unfolding takes number_at
row_takes mended l n c r plain e =
    let v = val_of (take 2 (drop 4 c)) in
    let e₁ = and_right (starts n.name c) _ e in
    let e₂ = and_right (not (hyphened c)) _ e₁ in
    let p = plain (not-true (hyphened c) (and_left _ _ e₁)) in
    let t = drop 4 c in
    let whole : take 2 t ≡ t = take_all 2 t (omega (arith, length-drop 4 c, p.six)) in
    let text : n.name ++ t ≡ c = sym (rw r.2 at (starts_eq n.name c (and_left (starts n.name c) _ e))) in
    let lo : n.low ≤ val_of t = rw whole at (leb-true n.low v (and_left _ _ e₂)) in
    let hi : val_of t < n.high = rw whole at (ltb-true v n.high (and_right (leb n.low v) _ e₂)) in
    let bits = bits_of 6 (sym_of n.sym) ++ bits_of n.width (val_of t - n.low) in
    rw whole
    (subst (λ (m : List ℕ). Reads mended l m bits) text
    (number_back mended l n t r (clean_drop 4 c p.clean) (omega (arith, length-drop 4 c, p.six)) lo hi))

abbrev NumberedRight : List Numbered → Type 0
NumberedRight [] = Unit {0}
NumberedRight (n ∷ ns) = RowRight n × NumberedRight ns

numbered_right : NumberedRight numbered_rows
unfolding numbered_rows fixed_rows pair_rows wide_row form_of symbol_form pair_form fixed_form numbered_form long sym_of position later pick
numbered_right =
    ((lit< tt, refl, refl, lit≤ tt, lit≤ tt), ((lit< tt, refl, refl, lit≤ tt, lit≤ tt), ((lit< tt, refl, refl, lit≤ tt, lit≤ tt), tt)))

numbered_back : (mended : Bool) (l : ℕ) (ns : List Numbered) → NumberedRight ns → (c : List ℕ) → (hyphened c ≡ false → Plain c) → (x : List Bool) → numbered_bits ns c ≡ Some x → Reads mended l c x
unfolding numbered_bits
numbered_back mended l [] h c plain x e = absurd (none-some x e)
numbered_back mended l (n ∷ ns) h c plain x e =
    let b = bits_of 6 (sym_of n.sym) ++ bits_of n.width (number_at c 4 2 - n.low) in
    chosen (takes n c) b x (numbered_bits ns c) (Reads mended l c x)
    (λ t q. rw q at (row_takes mended l n c h.0 plain t))
    (numbered_back mended l ns h.1 c plain x)
    e

-- ---- letters

codes : List ℕ → List Bool
codes [] = []
codes (x ∷ xs) = bits_of 6 (alpha_code x) ++ codes xs

spell_clean : (xs : List ℕ) → clean_letters xs ≡ true → spell xs ≡ Some (codes xs)
unfolding spell codes
spell_clean [] e = refl
spell_clean (x ∷ xs) e = rw ((clean_head x xs e).found, spell_clean xs (clean_rest x xs e))

-- as much fewer than a call length as fewer than another
ending_less : (k l n m i : ℕ) → l ≡ k + m → n ≡ k + i → ending l n ≡ ending m i
ending_less k l n m i p q =
    by_le l n
    (λ e. ending_all l n e ∙ sym (ending_all m i (omega arith)))
    (λ e. ending_short l n e ∙ sym (ending_short m i (omega arith)))

blank_first : letter_of 0 ≡ blank
unfolding letter_of pick
blank_first = refl

letter_is : (x : ℕ) → Spelt x → letter_of (alpha_code x) ≡ letter x
unfolding letter_of pick
letter_is x s = rw (ne_eqb (alpha_code x) 0 (λ q. omega (arith, s.low)), lt-ltb (alpha_code x) 37 s.high, s.back)

letters_back : (strict : Bool) (k : ℕ) (xs : List ℕ) (rest : List Bool) → clean_letters xs ≡ true → length xs ≤ k
    → read_letters strict k (codes xs ++ (ending k (length xs) ++ rest)) ≡ Some (xs, rest)
unfolding read_letters go_on after codes
letters_back strict zero [] rest e l = rw (ending_all 0 0 (omega arith))
letters_back strict zero (x ∷ xs) rest e l = absurd (not-suc-le-zero l)
letters_back strict (suc k) [] rest e l = rw (ending_short (suc k) 0 (omega arith), take_bits_lem 6 0 rest, blank_first)
letters_back strict (suc k) (x ∷ xs) rest e l =
    let s = clean_head x xs e in
    let small : alpha_code x < 64 = omega (arith, s.high) in
    rw (ending_less 1 (suc k) (suc (length xs)) k (length xs) (omega arith) (omega arith), append_assoc (bits_of 6 (alpha_code x)) (codes xs) (ending k (length xs) ++ rest), take_bits_lem 6 (alpha_code x) (codes xs ++ (ending k (length xs) ++ rest)), mod-eq_of_lt small, letter_is x s, letters_back strict k xs rest (clean_rest x xs e) (le_of_suc-le-suc l))

-- ---- calls that are spelled

-- bits that are read as the call
abbrev Has : Bool → ℕ → List ℕ → Option (List Bool) → Type 0
Has mended l c o = (b : List Bool) × (o ≡ Some b) × Reads mended l c b

module _ (mended : Bool) (l : ℕ) (six : 6 ≤ l) where
  ap_read : (t : List ℕ) (rest : List Bool) → clean_letters t ≡ true → length t ≤ 4
      → read_token mended l (bits_of 6 52 ++ (codes t ++ (ending (l - 2) (length t) ++ rest))) ≡ Some (ascii "AP" ++ t, rest)
  unfolding read_form after
  ap_read t rest e h =
      rw (index_back mended l 52 (codes t ++ (ending (l - 2) (length t) ++ rest)) (lit< tt), form_ap 52 refl, letters_back true (l - 2) t rest e (omega arith))

  ap_back : (c : List ℕ) → Plain c → starts (ascii "AP") c ≡ true → Has mended l c (ap_bits l c)
  ap_back c p e =
      let t = drop 2 c in
      let text : c ≡ ascii "AP" ++ t = starts_eq (ascii "AP") c e in
      let clean : clean_letters t ≡ true = clean_drop 2 c p.clean in
      let z = ending (l - 2) (length t) in
      let end : ending l (length c) ≡ z = ending_less 2 l (length c) (l - 2) (length t) (omega arith) (omega (arith, ap length text)) in (
        bits_of 6 52 ++ (codes t ++ z),
        rw end at (ap_whole l c (codes t) (spell_clean t clean)),
        λ rest.
            rw (append_assoc (bits_of 6 52) (codes t ++ z) rest, append_assoc (codes t) z rest, ap_read t rest clean (omega (arith, p.six, length-drop 2 c)))
            (ap (λ (m : List ℕ). Some (m, rest)) (sym text)),
      )

  spelled_read : (x : ℕ) (xs : List ℕ) (s : ℕ) (rest : List Bool) → clean_letters (x ∷ xs) ≡ true → length xs ≤ 5 → s < 16
      → read_token mended l (bits_of 6 (alpha_code x) ++ (codes xs ++ (ending (l - 1) (length xs) ++ (bits_of 4 s ++ rest)))) ≡ Some (x ∷ (xs ++ suffix s), rest)
  unfolding read_form read_spelled after
  spelled_read x xs s rest e h k =
      let i = clean_head x xs e in
      rw (index_back mended l (alpha_code x) (codes xs ++ (ending (l - 1) (length xs) ++ (bits_of 4 s ++ rest))) (omega (arith, i.high)), form_spelled (alpha_code x) i.high, letters_back false (l - 1) xs (bits_of 4 s ++ rest) (clean_rest x xs e) (omega arith), take_bits_lem 4 s rest, mod-eq_of_lt k, i.back)

  spelled_back : (letters : List ℕ) (ssid : ℕ) → CleanCall mended letters ssid → Has mended l (call_text letters ssid) (spelled_bits l (call_text letters ssid))
  unfolding call_text codes
  spelled_back [] s h = absurd (not-suc-le-zero h.some_letters)
  spelled_back (x ∷ xs) s h =
      let c = x ∷ xs in
      let z = ending (l - 1) (length xs) in
      let spelt : spell (map upper (base_of (call_text c s))) ≡ Some (codes c) =
      rw (call_base c s h.clean, upper_clean c h.clean, spell_clean c h.clean) in (
        (bits_of 6 (alpha_code x) ++ codes xs) ++ (z ++ bits_of 4 s),
        rw (call_base c s h.clean, call_ssid c s h.clean h.small, ending_less 1 l (suc (length xs)) (l - 1) (length xs) (omega arith) (omega arith)) at (spelled_bits_lem l (call_text c s) (codes c) spelt),
        λ rest.
            rw (append_assoc (bits_of 6 (alpha_code x) ++ codes xs) (z ++ bits_of 4 s) rest, append_assoc z (bits_of 4 s) rest, append_assoc (bits_of 6 (alpha_code x)) (codes xs) (z ++ (bits_of 4 s ++ rest)))
            (spelled_read x xs s rest h.clean (le_of_suc-le-suc h.few_letters) h.small),
      )

-- ---- every clean call

choose : (mended : Bool) (l : ℕ) (c : List ℕ) (t : Bool) (o p : Option (List Bool)) → (t ≡ true → Has mended l c o) → (t ≡ false → Has mended l c p) → Has mended l c (pick t o p)
unfolding pick
choose mended l c true o p f g = f refl
choose mended l c false o p f g = g refl

first_or : (mended : Bool) (l : ℕ) (c : List ℕ) (o p : Option (List Bool)) → ((x : List Bool) → o ≡ Some x → Reads mended l c x) → Has mended l c p → Has mended l c (or_else o p)
unfolding or_else
first_or mended l c None p f g = g
first_or mended l c (Some b) p f g = (b, refl, f b refl)

module _ (mended : Bool) (letters : List ℕ) (ssid : ℕ) (h : CleanCall mended letters ssid) where
  plain_call : hyphened (call_text letters ssid) ≡ false → Plain (call_text letters ssid)
  plain_call e =
      let z : call_text letters ssid ≡ letters = rw (call_unhyphened letters ssid h.clean e) (call_plain letters) in
      record { clean = rw z h.clean; six = rw z h.few_letters }

  clean_has : (l : ℕ) → 6 ≤ l → Has mended l (call_text letters ssid) (token_bits l (call_text letters ssid))
  unfolding token_bits plain_ap
  clean_has l six =
      let c = call_text letters ssid in
      let ap? = starts (ascii "AP") c in
      choose mended l c (is_one_of c wide_tokens) _ _ (λ t. (pair_bits wide_row c, refl, wide_back mended l c h.not_misread t))
      (λ _. first_or mended l c _ _ (pairs_back mended l pair_rows (pairs_right mended) c)
      (first_or mended l c _ _ (fixed_back mended l fixed_rows fixed_right c)
      (first_or mended l c _ _ (numbered_back mended l numbered_rows numbered_right c plain_call)
      (choose mended l c (ap? && not (hyphened c)) _ _
      (λ t. ap_back mended l six c (plain_call (not-true (hyphened c) (and_right ap? (not (hyphened c)) t))) (and_left ap? (not (hyphened c)) t))
      (λ _. spelled_back mended l six letters ssid h)))))

  -- a clean call has bits, and they are read as the call, whatever follows
  pub token_back : (l : ℕ) → 6 ≤ l → Back mended l (call_text letters ssid) (call_text letters ssid)
  token_back l six =
      let f = clean_has l six in
      record {
        bits = f.0;
        coded = f.1;
        size = token_size_call l (omega arith) letters ssid (omega (arith, h.few_letters)) f.0 f.1;
        read = f.2;
      }

-- ---- the four WIDE calls

abbrev wide_letters : ℕ → List ℕ
wide_letters digit = ascii "WIDE" ++ (digit ∷ [])

wide_call : (digit ssid : ℕ) → clean_letters (wide_letters digit) ≡ true → ssid < 16 → CleanCall true (wide_letters digit) ssid
unfolding is_one_of pick
wide_call digit ssid e h = record { clean = e; some_letters = omega arith; few_letters = omega arith; small = h; not_misread = refl }

-- "Under the mended reading the four WIDE calls count as clean"
pub wide_clean : CleanCall true (ascii "WIDE1") 2 × CleanCall true (ascii "WIDE1") 3 × CleanCall true (ascii "WIDE2") 2 × CleanCall true (ascii "WIDE2") 3
unfolding clean_letters clean_letter is_digit between
wide_clean =
    (wide_call 49 2 refl (omega arith), wide_call 49 3 refl (omega arith), wide_call 50 2 refl (omega arith), wide_call 50 3 refl (omega arith))

-- and so they come back
pub wide_mended : (l : ℕ) → 6 ≤ l
    → Back true l (ascii "WIDE1-2") (ascii "WIDE1-2") × Back true l (ascii "WIDE1-3") (ascii "WIDE1-3")
    × Back true l (ascii "WIDE2-2") (ascii "WIDE2-2") × Back true l (ascii "WIDE2-3") (ascii "WIDE2-3")
unfolding call_text suffix decimal pick
wide_mended l six =
    (token_back true _ _ wide_clean.0 l six, token_back true _ _ wide_clean.1 l six, token_back true _ _ wide_clean.2 l six, token_back true _ _ wide_clean.3 l six)

-- under the original reading they are not clean
pub wide_not_clean : (CleanCall false (ascii "WIDE1") 2 → ⊥) × (CleanCall false (ascii "WIDE1") 3 → ⊥) × (CleanCall false (ascii "WIDE2") 2 → ⊥) × (CleanCall false (ascii "WIDE2") 3 → ⊥)
unfolding call_text suffix decimal misread is_one_of same pick
wide_not_clean =
    (λ h. false≢true (sym h.not_misread), λ h. false≢true (sym h.not_misread), λ h. false≢true (sym h.not_misread), λ h. false≢true (sym h.not_misread))

-- ---- tokens that both readings take alike

-- a digit has one bit after it at most, but for WIDE
narrow : Form → Bool
narrow (spelled x) = true
narrow (paired n w) = leb w 1
narrow (named n) = true
narrow (counted n lo w) = true
narrow begun = true
narrow no_token = true

all_narrow : below (λ i. eqb i 37 || narrow (form_of i)) 53 ≡ true
unfolding below narrow form_of symbol_form pair_form fixed_form numbered_form wide_row pair_rows fixed_rows numbered_rows long pick
all_narrow = refl

form_narrow : (i : ℕ) → (i ≡ 37 → ⊥) → narrow (form_of i) ≡ true
unfolding narrow
form_narrow i other =
    by_le 53 i
    (λ h. rw (form_none i h))
    (λ h. rw (ne_eqb i 37 other) at (at_each (λ k. eqb k 37 || narrow (form_of k)) 53 all_narrow i h))

pair_same : (w : ℕ) (b : List Bool) → w ≤ 1 → read_pair true w b ≡ read_pair false w b
pair_same w b h =
    by_option (take_bits 1 b)
    (λ e. pair_short true w b e ∙ sym (pair_short false w b e))
    (λ p e. by_option (wide_number false w p.1)
    (λ f. pair_bare true w b p.0 p.1 e (pairs_alike p.1 w h ∙ f) ∙ sym (pair_bare false w b p.0 p.1 e f))
    (λ q f. pair_whole true w b p.0 p.1 e q.0 q.1 (pairs_alike p.1 w h ∙ f) ∙ sym (pair_whole false w b p.0 p.1 e q.0 q.1 f)))

form_same : (l : ℕ) (f : Form) (b : List Bool) → narrow f ≡ true → read_form true l f b ≡ read_form false l f b
unfolding read_form narrow
form_same l (spelled x) b t = refl
form_same l (paired n w) b t = ap (after n) (pair_same w b (leb-true w 1 t))
form_same l (named n) b t = refl
form_same l (counted n lo w) b t = refl
form_same l begun b t = refl
form_same l no_token b t = refl

-- a token whose index is not that of WIDE, 37, is the same under both readings
pub token_same : (l : ℕ) (b : List Bool) → ((r : List Bool) → take_bits 6 b ≡ Some (37, r) → ⊥) → read_token true l b ≡ read_token false l b
token_same l b other =
    by_option (take_bits 6 b)
    (λ e. token_short true l b e ∙ sym (token_short false l b e))
    (λ p e.
    let is : narrow (form_of p.0) ≡ true = form_narrow p.0 (λ q. other p.1 (e ∙ ap (λ (i : ℕ). Some (i, p.1)) q)) in
    token_form true l b p.0 p.1 e ∙ form_same l (form_of p.0) p.1 is ∙ sym (token_form false l b p.0 p.1 e))
