-- The cases of the readings and of the codings, one law for each path.
-- Assumes nothing.
use mathlib.Core.Path.{◌≡◌, refl, sym, ap, ◌∙◌}
use mathlib.Core.Bool.{Bool, true, false, ◌&&◌, ◌||◌}
use mathlib.Core.List.{List, [], ◌∷◌, ◌++◌, map}
use Rattle.std.proofs.Common.{slice_get, Option, None, Some}
use Prim.Native.Nat.{ℕ, suc, zero, ◌+◌, ◌-◌, ◌≤◌, ◌<◌}
use native.Mathlib.Nat.{not-suc-le-zero, le_of_suc-le-suc}
use native.Mathlib.Omega.{arith}
use lib.ListN.{length, drop, get_or}
use lib.Dec.{eqb, ltb}
use borrow.Author.Tests.{eqb-true, eq-eqb, ne_eqb, lt-ltb, le-ltb}
use Rattle.laws.specs.Bits.{num, bits_of, value_of}
use Rattle.laws.specs.Pick.{pick}
use Rattle.laws.specs.Text.{ascii, upper, same, is_one_of, starts, later, position}
use Rattle.laws.proofs.TextLaws.{below, at_each, same_eq}
use Rattle.bits.specs.Read.{letter, take_bits, take_text}
use Rattle.bits.specs.Val.{stops, next_val, val_from, val_of}
use Rattle.bits.proofs.ReadLaws.{take_yes, take_no, text_yes, text_no}
use Rattle.ax25_token.specs.Tables.{call_alphabet, long, sym_of, alpha_of, Numbered, wide_tokens, wide_row, pair_rows, fixed_rows, numbered_rows}
use Rattle.ax25_token.specs.Token.{hyphened, base_of, behind, number_at, two_digits, decimal, suffix, pair_bits, takes, numbered_bits, spell, ending, plain_ap, ap_bits, spelled_bits, token_bits, after, Form, spelled, paired, named, counted, begun, no_token, pair_form, fixed_form, numbered_form, symbol_form, form_of, wide_number, read_pair, read_number, letter_of, go_on, read_letters, read_spelled, read_form, read_token}

-- ---- a number after a name

module _ (v : ℕ) where
  pub suffix_none : v ≡ 0 → suffix v ≡ []
  unfolding suffix pick
  suffix_none e = rw (eq-eqb v 0 e)

  pub suffix_some : (v ≡ 0 → ⊥) → suffix v ≡ 45 ∷ decimal v
  unfolding suffix pick
  suffix_some n = rw (ne_eqb v 0 n)

  pub decimal_one : v < 10 → decimal v ≡ (48 + v) ∷ []
  unfolding decimal pick
  decimal_one h = rw (lt-ltb v 10 h)

  pub decimal_two : 10 ≤ v → decimal v ≡ two_digits v
  unfolding decimal pick
  decimal_two h = rw (le-ltb v 10 h)

-- ---- letters

module _ (strict : Bool) (n : ℕ) (b : List Bool) where
  pub letters_all : n ≡ 0 → read_letters strict n b ≡ Some ([], b)
  unfolding read_letters
  letters_all e = rw e

  one_more : (o : Option (List ℕ × List Bool)) → (n ≡ 0 → ⊥) → read_letters strict (suc (n - 1)) b ≡ o → read_letters strict n b ≡ o
  one_more o any e =
      let q : n ≡ suc (n - 1) = omega (arith, any) in
      ap (λ (m : ℕ). read_letters strict m b) q ∙ e

  pub letters_short : (n ≡ 0 → ⊥) → take_bits 6 b ≡ None → read_letters strict n b ≡ None
  unfolding read_letters
  letters_short any e = one_more None any (rw e)

  module _ (any : n ≡ 0 → ⊥) (v : ℕ) (r : List Bool) (e : take_bits 6 b ≡ Some (v, r)) where
    pub letters_blank : v ≡ 0 → read_letters strict n b ≡ Some ([], r)
    unfolding read_letters letter_of pick go_on
    letters_blank h = one_more (Some ([], r)) any (rw (e, eq-eqb v 0 h))

    pub letters_more : (v ≡ 0 → ⊥) → v < 37 → read_letters strict n b ≡ after (get_or call_alphabet v 0 ∷ []) (read_letters strict (n - 1) r)
    unfolding read_letters letter_of pick go_on
    letters_more h k = one_more (after (get_or call_alphabet v 0 ∷ []) (read_letters strict (n - 1) r)) any (rw (e, ne_eqb v 0 h, lt-ltb v 37 k))

    pub letters_strict : strict ≡ true → 37 ≤ v → read_letters strict n b ≡ None
    unfolding read_letters letter_of pick go_on
    letters_strict s k = one_more None any (rw (e, ne_eqb v 0 (λ z. omega arith), le-ltb v 37 k, s))

    pub letters_skip : strict ≡ false → 37 ≤ v → read_letters strict n b ≡ read_letters strict (n - 1) r
    unfolding read_letters letter_of pick go_on
    letters_skip s k = one_more (read_letters strict (n - 1) r) any (rw (e, ne_eqb v 0 (λ z. omega arith), le-ltb v 37 k, s) (ap (λ (x : Bool). read_letters x (n - 1) r) s))

-- ---- a spelled call

module _ (n : ℕ) (b : List Bool) where
  pub spelled_short : read_letters false n b ≡ None → read_spelled n b ≡ None
  unfolding read_spelled
  spelled_short e = rw e

  module _ (t : List ℕ) (r : List Bool) (e : read_letters false n b ≡ Some (t, r)) where
    pub spelled_bare : take_bits 4 r ≡ None → read_spelled n b ≡ None
    unfolding read_spelled
    spelled_bare f = rw (e, f)

    pub spelled_whole : (v : ℕ) (q : List Bool) → take_bits 4 r ≡ Some (v, q) → read_spelled n b ≡ Some (t ++ suffix v, q)
    unfolding read_spelled
    spelled_whole v q f = rw (e, f)

-- ---- the number after a digit, by the reading

module _ (mended : Bool) (w : ℕ) (b : List Bool) where
  pub wide_binary : mended ≡ true → wide_number mended w b ≡ take_bits w b
  unfolding wide_number pick
  wide_binary e = rw e

  pub wide_text : mended ≡ false → wide_number mended w b ≡ take_text w b
  unfolding wide_number pick
  wide_text e = rw e

one_bit : (x : Bool) → value_of (x ∷ []) ≡ val_of (letter x ∷ [])
unfolding value_of val_of val_from stops next_val pick num
one_bit true = refl
one_bit false = refl

no_bits : (b : List Bool) → take_bits 0 b ≡ take_text 0 b
unfolding take_bits take_text value_of val_of val_from pick
no_bits b = refl

bit_alike : (b : List Bool) → take_bits 1 b ≡ take_text 1 b
bit_alike [] = take_no 1 [] (omega arith) ∙ sym (text_no 1 [] (omega arith))
bit_alike (x ∷ b) =
    let h : 1 ≤ length (x ∷ b) = omega arith in
    let e : ◌≡◌ {A = Option (ℕ × List Bool)} (Some (value_of (x ∷ []), b)) (Some (val_of (letter x ∷ []), b)) = rw (one_bit x) in
    take_yes 1 (x ∷ b) h ∙ e ∙ sym (text_yes 1 (x ∷ b) h)

-- one bit or none is the same number under both readings: the rows of PAIRS but WIDE read alike
pub pairs_alike : (b : List Bool) (w : ℕ) → w ≤ 1 → wide_number true w b ≡ wide_number false w b
unfolding wide_number pick
pairs_alike b zero h = no_bits b
pairs_alike b (suc zero) h = bit_alike b
pairs_alike b (suc (suc w)) h = absurd (not-suc-le-zero (le_of_suc-le-suc h))

-- ---- a digit and a number, and a number

module _ (mended : Bool) (w : ℕ) (b : List Bool) where
  pub pair_short : take_bits 1 b ≡ None → read_pair mended w b ≡ None
  unfolding read_pair
  pair_short e = rw e

  module _ (d : ℕ) (r : List Bool) (e : take_bits 1 b ≡ Some (d, r)) where
    pub pair_bare : wide_number mended w r ≡ None → read_pair mended w b ≡ None
    unfolding read_pair
    pair_bare f = rw (e, f)

    pub pair_whole : (v : ℕ) (q : List Bool) → wide_number mended w r ≡ Some (v, q) → read_pair mended w b ≡ Some ((49 + d) ∷ suffix v, q)
    unfolding read_pair
    pair_whole v q f = rw (e, f)

module _ (w : ℕ) (b : List Bool) where
  pub number_short : (lo : ℕ) → take_bits w b ≡ None → read_number lo w b ≡ None
  unfolding read_number
  number_short lo e = rw e

  pub number_whole : (lo v : ℕ) (q : List Bool) → take_bits w b ≡ Some (v, q) → read_number lo w b ≡ Some (two_digits (v + lo), q)
  unfolding read_number
  number_whole lo v q e = rw e

-- ---- the form of an index

-- the names of the indexes from 37 to 52
unfoldable pub name_at : ℕ → List ℕ
name_at i =
    get_or (ascii "WIDE" ∷ ascii "PNW" ∷ ascii "MW" ∷ ascii "OR" ∷ ascii "WA" ∷ ascii "ALL" ∷ ascii "CQ"
    ∷ ascii "APIN" ∷ ascii "APWW" ∷ ascii "APDR" ∷ ascii "APBPQ1" ∷ ascii "APJYC1" ∷ ascii "APOPYT" ∷ ascii "APU25N" ∷ ascii "APVARA"
    ∷ ascii "AP" ∷ []) (i - 37) []

-- a form as numbers, and back: forms with the same numbers are the same
form_key : Form → List ℕ
form_key (spelled x) = 0 ∷ x ∷ []
form_key (paired n w) = 1 ∷ w ∷ n
form_key (named n) = 2 ∷ n
form_key (counted n lo w) = 3 ∷ lo ∷ w ∷ n
form_key begun = 4 ∷ []
form_key no_token = []

key_form : List ℕ → Form
key_form [] = no_token
key_form (t ∷ k) =
    pick (eqb t 0) (spelled (get_or k 0 0))
    (pick (eqb t 1) (paired (drop 1 k) (get_or k 0 0))
    (pick (eqb t 2) (named k)
    (pick (eqb t 3) (counted (drop 2 k) (get_or k 0 0) (get_or k 1 0)) begun)))

key_back : (f : Form) → key_form (form_key f) ≡ f
unfolding form_key key_form pick
key_back (spelled x) = refl
key_back (paired n w) = refl
key_back (named n) = refl
key_back (counted n lo w) = refl
key_back begun = refl
key_back no_token = refl

-- from an index on, the forms are these
are_from : ℕ → (ℕ → Form) → ℕ → Bool
are_from lo f i = ltb i lo || same (form_key (form_of i)) (form_key (f i))

form_from : (lo hi : ℕ) (f : ℕ → Form) → below (are_from lo f) hi ≡ true → (i : ℕ) → lo ≤ i → i < hi → form_of i ≡ f i
unfolding are_from
form_from lo hi f t i h k =
    let e = same_eq (form_key (form_of i)) (form_key (f i)) (rw (le-ltb i lo h) at (at_each (are_from lo f) hi t i k)) in
    sym (key_back (form_of i)) ∙ ap key_form e ∙ key_back (f i)

spelled_at : ℕ → Form
spelled_at i = spelled (get_or call_alphabet i 0)

paired_at : ℕ → ℕ → Form
paired_at w i = paired (name_at i) w

named_at : ℕ → Form
named_at i = named (name_at i)

counted_at : ℕ → ℕ → ℕ → Form
counted_at lo w i = counted (name_at i) lo w

all_forms : (below (are_from 0 spelled_at) 37 ≡ true) × (below (are_from 37 (paired_at 2)) 38 ≡ true) × (below (are_from 38 (paired_at 1)) 42 ≡ true)
    × (below (are_from 42 named_at) 44 ≡ true) × (below (are_from 44 (counted_at 20 4)) 45 ≡ true) × (below (are_from 45 (counted_at 11 3)) 46 ≡ true)
    × (below (are_from 46 (counted_at 16 5)) 47 ≡ true) × (below (are_from 47 named_at) 52 ≡ true) × (below (are_from 52 (λ _. begun)) 53 ≡ true)
unfolding below are_from form_key same spelled_at paired_at named_at counted_at name_at form_of symbol_form pair_form fixed_form numbered_form wide_row pair_rows fixed_rows numbered_rows long call_alphabet pick
all_forms = (refl, refl, refl, refl, refl, refl, refl, refl, refl)

no_element : (l : List ℕ) (i : ℕ) → length l ≤ i → slice_get l i ≡ None
no_element [] i h = refl
no_element (x ∷ l) zero h = absurd (not-suc-le-zero h)
no_element (x ∷ l) (suc i) h = no_element l i (le_of_suc-le-suc h)

module _ (i : ℕ) where
  pub form_spelled : i < 37 → form_of i ≡ spelled (get_or call_alphabet i 0)
  unfolding spelled_at
  form_spelled h = form_from 0 37 spelled_at all_forms.0 i (omega arith) h

  pub form_wide : i ≡ 37 → form_of i ≡ paired (name_at i) 2
  unfolding paired_at
  form_wide e = form_from 37 38 (paired_at 2) all_forms.1 i (omega arith) (omega arith)

  pub form_pair : 38 ≤ i → i ≤ 41 → form_of i ≡ paired (name_at i) 1
  unfolding paired_at
  form_pair h k = form_from 38 42 (paired_at 1) all_forms.2 i h (omega arith)

  pub form_name_lem : 42 ≤ i → i ≤ 43 → form_of i ≡ named (name_at i)
  unfolding named_at
  form_name_lem h k = form_from 42 44 named_at all_forms.3 i h (omega arith)

  pub form_apin : i ≡ 44 → form_of i ≡ counted (name_at i) 20 4
  unfolding counted_at
  form_apin e = form_from 44 45 (counted_at 20 4) all_forms.4 i (omega arith) (omega arith)

  pub form_apww : i ≡ 45 → form_of i ≡ counted (name_at i) 11 3
  unfolding counted_at
  form_apww e = form_from 45 46 (counted_at 11 3) all_forms.5 i (omega arith) (omega arith)

  pub form_apdr : i ≡ 46 → form_of i ≡ counted (name_at i) 16 5
  unfolding counted_at
  form_apdr e = form_from 46 47 (counted_at 16 5) all_forms.6 i (omega arith) (omega arith)

  pub form_ap_name : 47 ≤ i → i ≤ 51 → form_of i ≡ named (name_at i)
  unfolding named_at
  form_ap_name h k = form_from 47 52 named_at all_forms.7 i h (omega arith)

  pub form_ap : i ≡ 52 → form_of i ≡ begun
  form_ap e = form_from 52 53 (λ _. begun) all_forms.8 i (omega arith) (omega arith)

  pub form_none : 53 ≤ i → form_of i ≡ no_token
  unfolding form_of symbol_form long
  form_none h = rw (no_element long i h)

-- ---- a token, and each form

module _ (mended : Bool) (l : ℕ) (b : List Bool) where
  pub token_short : take_bits 6 b ≡ None → read_token mended l b ≡ None
  unfolding read_token
  token_short e = rw e

  pub token_form : (i : ℕ) (r : List Bool) → take_bits 6 b ≡ Some (i, r) → read_token mended l b ≡ read_form mended l (form_of i) r
  unfolding read_token
  token_form i r e = rw e

module _ (mended : Bool) (l : ℕ) (b : List Bool) where
  pub read_spelled_lem : (x : ℕ) → read_form mended l (spelled x) b ≡ after (x ∷ []) (read_spelled (l - 1) b)
  unfolding read_form
  read_spelled_lem x = refl

  pub read_pair_lem : (n : List ℕ) (w : ℕ) → read_form mended l (paired n w) b ≡ after n (read_pair mended w b)
  unfolding read_form
  read_pair_lem n w = refl

  pub read_name : (n : List ℕ) → read_form mended l (named n) b ≡ Some (n, b)
  unfolding read_form
  read_name n = refl

  pub read_number_lem : (n : List ℕ) (lo w : ℕ) → read_form mended l (counted n lo w) b ≡ after n (read_number lo w b)
  unfolding read_form
  read_number_lem n lo w = refl

  pub read_ap : read_form mended l begun b ≡ after (ascii "AP") (read_letters true (l - 2) b)
  unfolding read_form
  read_ap = refl

  pub read_none : read_form mended l no_token b ≡ None
  unfolding read_form
  read_none = refl

and_false : (a : Bool) → (a && false) ≡ false
and_false true = refl
and_false false = refl

-- ---- coding: letters

pub spell_bad : (x : ℕ) (xs : List ℕ) → alpha_of x ≡ None → spell (x ∷ xs) ≡ None
unfolding spell
spell_bad x xs e = rw e

pub ending_all : (l n : ℕ) → l ≤ n → ending l n ≡ []
unfolding ending pick
ending_all l n h = rw (le-ltb n l h)

pub ending_short : (l n : ℕ) → n < l → ending l n ≡ bits_of 6 0
unfolding ending pick
ending_short l n h = rw (lt-ltb n l h)

-- ---- coding: the symbols

symbol_back : ℕ → Bool
symbol_back i = eqb (sym_of (get_or long i 0)) i

all_symbols : below symbol_back 53 ≡ true
unfolding below symbol_back sym_of long position later pick
all_symbols = refl

-- the index of the symbol at an index
pub symbol_back_lem : (i : ℕ) → i < 53 → sym_of (get_or long i 0) ≡ i
unfolding symbol_back
symbol_back_lem i h = eqb-true (sym_of (get_or long i 0)) i (at_each symbol_back 53 all_symbols i h)

pub ap_symbol : sym_of 59 ≡ 52
unfolding long
ap_symbol = symbol_back_lem 52 (omega arith)

-- ---- coding: the AP form and spelled calls

module _ (c : List ℕ) where
  pub plain_yes : starts (ascii "AP") c ≡ true → hyphened c ≡ false → plain_ap c ≡ true
  unfolding plain_ap
  plain_yes s h = rw (s, h)

  pub plain_other : starts (ascii "AP") c ≡ false → plain_ap c ≡ false
  unfolding plain_ap
  plain_other s = rw s

  pub plain_hyphened : hyphened c ≡ true → plain_ap c ≡ false
  unfolding plain_ap
  plain_hyphened h = rw h (and_false (starts (ascii "AP") c))

module _ (l : ℕ) (c : List ℕ) where
  pub ap_whole : (b : List Bool) → spell (drop 2 c) ≡ Some b → ap_bits l c ≡ Some (bits_of 6 52 ++ (b ++ ending l (length c)))
  unfolding ap_bits
  ap_whole b e = rw (e, ap_symbol)

  pub spelled_bits_lem : (b : List Bool) → spell (map upper (base_of c)) ≡ Some b
      → spelled_bits l c ≡ Some (b ++ (ending l (length (base_of c)) ++ bits_of 4 (val_of (behind c))))
  unfolding spelled_bits
  spelled_bits_lem b e = rw e

-- ---- coding: the rows of NUMBERED

module _ (c : List ℕ) (n : Numbered) (ns : List Numbered) where
  pub numbered_here : takes n c ≡ true → numbered_bits (n ∷ ns) c ≡ Some (bits_of 6 (sym_of n.sym) ++ bits_of n.width (number_at c 4 2 - n.low))
  unfolding numbered_bits pick
  numbered_here e = rw e

  pub numbered_next : takes n c ≡ false → numbered_bits (n ∷ ns) c ≡ numbered_bits ns c
  unfolding numbered_bits pick
  numbered_next e = rw e

-- ---- coding: WIDE

pub code_wide : (l : ℕ) (c : List ℕ) → is_one_of c wide_tokens ≡ true → token_bits l c ≡ Some (pair_bits wide_row c)
unfolding token_bits pick
code_wide l c e = rw e
