-- How many bits a call takes.
-- Assumes nothing.
use mathlib.Core.Path.{◌≡◌, refl, ap}
use mathlib.Core.Bool.{Bool, true, false, ◌&&◌, not}
use mathlib.Core.List.{List, [], ◌∷◌, ◌++◌, map}
use Rattle.std.proofs.Common.{Option, None, Some}
use Rattle.std.proofs.lemmas.Option.{same_Some, none-some}
use Prim.Native.Nat.{ℕ, suc, ◌+◌, ◌-◌, ◌*◌, ◌≤◌}
use native.Mathlib.Omega.{arith}
use lib.ListN.{length, drop, length-append, length-drop, length-map}
use lib.Dec.{eqb, ltb, leb}
use borrow.Author.Tests.{leb-true, not-true}
use Rattle.laws.specs.Bits.{bits_of}
use Rattle.laws.specs.Pick.{pick, ◌>>=◌}
use Rattle.laws.specs.Text.{ascii, upper, is_one_of, same, starts}
use Rattle.laws.proofs.BitLaws.{length_bits}
use Rattle.laws.proofs.Cases.{by_test, by_le, and_left, and_right}
use Rattle.laws.proofs.TextLaws.{starts_eq}
use Rattle.bits.specs.Val.{val_of}
use Rattle.ax25_token.specs.Tables.{sym_of, alpha_of, Pair, Fixed, Numbered, wide_tokens, wide_row, pair_rows, pair_texts, fixed_rows, numbered_rows}
use Rattle.ax25_token.specs.Token.{hyphened, base_of, behind, number_at, pair_bits, pairs_bits, fixed_bits, takes, numbered_bits, spell, ending, plain_ap, ap_bits, spelled_bits, or_else, token_bits, two_digits, decimal, suffix}
use Rattle.ax25_token.specs.Clean.{call_text}
use Rattle.ax25_token.proofs.Cases.{ending_all, ending_short}
use Rattle.ax25_token.proofs.Hyphen.{base_short, base_plain, base_suffix}

-- ---- the text of a call

-- a hyphen and at most two digits
pub suffix_size : (v : ℕ) → length (suffix v) ≤ 3
unfolding suffix decimal two_digits pick
suffix_size v =
    by_test (eqb v 0) (λ e. rw e (omega arith)) (λ e. by_test (ltb v 10) (λ f. rw (e, f) (omega arith)) (λ f. rw (e, f) (omega arith)))

pub call_size : (t : List ℕ) (s : ℕ) → length (call_text t s) ≤ length t + 3
unfolding call_text
call_size t s = omega (arith, length-append t (suffix s), suffix_size s)

-- ---- bits, if any, are at most n

abbrev AtMost : ℕ → Option (List Bool) → Type 0
AtMost n o = (b : List Bool) → o ≡ Some b → length b ≤ n

none_most : (n : ℕ) → AtMost n None
none_most n b e = absurd (none-some b e)

some_most : (n : ℕ) (x : List Bool) → length x ≤ n → AtMost n (Some x)
some_most n x h b e = rw (same_Some x b e) at h

pick_most : (n : ℕ) (t : Bool) (o p : Option (List Bool)) → (t ≡ true → AtMost n o) → (t ≡ false → AtMost n p) → AtMost n (pick t o p)
unfolding pick
pick_most n true o p f g = f refl
pick_most n false o p f g = g refl

or_most : (n : ℕ) (o p : Option (List Bool)) → AtMost n o → AtMost n p → AtMost n (or_else o p)
unfolding or_else
or_most n None p f g = g
or_most n (Some x) p f g = f

-- ---- the tables

pub pair_size : (p : Pair) (c : List ℕ) → length (pair_bits p c) ≡ 7 + p.width
unfolding pair_bits
pair_size p c = simp (length-append, length_bits) (omega arith)

-- the numbers of the rows take at most these bits
pairs_narrow : List Pair → Bool
pairs_narrow [] = true
pairs_narrow (p ∷ ps) = leb p.width 2 && pairs_narrow ps

numbers_narrow : List Numbered → Bool
numbers_narrow [] = true
numbers_narrow (n ∷ ns) = leb n.width 5 && numbers_narrow ns

all_narrow : (pairs_narrow (wide_row ∷ pair_rows) ≡ true) × (numbers_narrow numbered_rows ≡ true)
unfolding pairs_narrow numbers_narrow wide_row pair_rows numbered_rows
all_narrow = (refl, refl)

narrow_first : (p : Pair) (ps : List Pair) (c : List ℕ) → pairs_narrow (p ∷ ps) ≡ true → length (pair_bits p c) ≤ 9
unfolding pairs_narrow
narrow_first p ps c e = omega (arith, pair_size p c, leb-true p.width 2 (and_left (leb p.width 2) (pairs_narrow ps) e))

narrow_rest : (p : Pair) (ps : List Pair) → pairs_narrow (p ∷ ps) ≡ true → pairs_narrow ps ≡ true
unfolding pairs_narrow
narrow_rest p ps e = and_right (leb p.width 2) (pairs_narrow ps) e

module _ (m : ℕ) (h : 2 ≤ m) (c : List ℕ) where
  pairs_most : (ps : List Pair) → pairs_narrow ps ≡ true → AtMost (6 * m + 4) (pairs_bits ps c)
  unfolding pairs_bits
  pairs_most [] e = none_most (6 * m + 4)
  pairs_most (p ∷ ps) e =
      pick_most (6 * m + 4) (is_one_of c (pair_texts p.name)) _ _
      (λ _. some_most (6 * m + 4) (pair_bits p c) (omega (arith, narrow_first p ps c e)))
      (λ _. pairs_most ps (narrow_rest p ps e))

  fixed_most : (fs : List Fixed) → AtMost (6 * m + 4) (fixed_bits fs c)
  unfolding fixed_bits
  fixed_most [] = none_most (6 * m + 4)
  fixed_most (f ∷ fs) =
      pick_most (6 * m + 4) (same c f.name) _ _
      (λ _. some_most (6 * m + 4) (bits_of 6 (sym_of f.sym)) (omega (arith, length_bits 6 (sym_of f.sym))))
      (λ _. fixed_most fs)

  numbered_most : (ns : List Numbered) → numbers_narrow ns ≡ true → AtMost (6 * m + 4) (numbered_bits ns c)
  unfolding numbered_bits numbers_narrow
  numbered_most [] e = none_most (6 * m + 4)
  numbered_most (n ∷ ns) e =
      let w = leb-true n.width 5 (and_left (leb n.width 5) (numbers_narrow ns) e) in
      pick_most (6 * m + 4) (takes n c) _ _
      (λ _. some_most (6 * m + 4) (bits_of 6 (sym_of n.sym) ++ bits_of n.width (number_at c 4 2 - n.low)) (simp (length-append, length_bits) (omega arith)))
      (λ _. numbered_most ns (and_right (leb n.width 5) (numbers_narrow ns) e))

-- ---- letters

spell_by : (o : Option ℕ) (q : Option (List Bool)) (n : ℕ) → ((y : List Bool) → q ≡ Some y → length y ≡ 6 * n)
    → (b : List Bool) → (o >>= λ v. q >>= λ y. Some (bits_of 6 v ++ y)) ≡ Some b → length b ≡ 6 * suc n
spell_by None q n f b e = absurd (none-some b e)
spell_by (Some v) None n f b e = absurd (none-some b e)
spell_by (Some v) (Some y) n f b e =
    omega (arith, ap length (same_Some (bits_of 6 v ++ y) b e), length-append (bits_of 6 v) y, length_bits 6 v, f y refl)

-- 6 bits a letter
pub spell_size : (xs : List ℕ) (b : List Bool) → spell xs ≡ Some b → length b ≡ 6 * length xs
unfolding spell
spell_size [] b e = omega (arith, ap length (same_Some [] b e))
spell_size (x ∷ xs) b e = spell_by (alpha_of x) (spell xs) (length xs) (spell_size xs) b e

pub ending_size : (l n m : ℕ) → l ≤ m → n ≤ m → 6 * n + length (ending l n) ≤ 6 * m
ending_size l n m h k =
    by_le l n
    (λ a. rw (ending_all l n a) (omega arith))
    (λ a. rw (ending_short l n a) (omega (arith, length_bits 6 0)))

ap_by : (q : Option (List Bool)) (z : List Bool) (n m : ℕ) → ((y : List Bool) → q ≡ Some y → length y ≡ 6 * n) → 6 + (6 * n + length z) ≤ m
    → AtMost m (q >>= λ y. Some (bits_of 6 (sym_of 59) ++ (y ++ z)))
ap_by None z n m f h = none_most m
ap_by (Some y) z n m f h =
    some_most m (bits_of 6 (sym_of 59) ++ (y ++ z)) (simp (length-append, length_bits) (omega (arith, f y refl)))

spelled_by : (q : Option (List Bool)) (z : List Bool) (n m : ℕ) → ((y : List Bool) → q ≡ Some y → length y ≡ 6 * n) → 6 * n + length z ≤ m
    → AtMost m (q >>= λ y. Some (y ++ z))
spelled_by None z n m f h = none_most m
spelled_by (Some y) z n m f h = some_most m (y ++ z) (omega (arith, f y refl, length-append y z))

module _ (l m : ℕ) (few : 2 ≤ l) (fits : l ≤ m) (c : List ℕ) (base : length (base_of c) ≤ m) where
  ap_most : starts (ascii "AP") c ≡ true → hyphened c ≡ false → AtMost (6 * m + 4) (ap_bits l c)
  unfolding ap_bits
  ap_most s h =
      let whole : length c ≤ m = rw (base_plain c h) at base in
      ap_by (spell (drop 2 c)) (ending l (length c)) (length (drop 2 c)) (6 * m + 4) (spell_size (drop 2 c))
      (omega (arith, length-drop 2 c, ap length (starts_eq (ascii "AP") c s), ending_size l (length c) m fits whole))

  spelled_most : AtMost (6 * m + 4) (spelled_bits l c)
  unfolding spelled_bits
  spelled_most =
      let z = ending l (length (base_of c)) ++ bits_of 4 (val_of (behind c)) in
      spelled_by (spell (map upper (base_of c))) z (length (map upper (base_of c))) (6 * m + 4) (spell_size (map upper (base_of c)))
      (omega (arith, length-map (base_of c) upper, length-append (ending l (length (base_of c))) (bits_of 4 (val_of (behind c))), length_bits 4 (val_of (behind c)), ending_size l (length (base_of c)) m fits base))

  -- a call takes at most 6 bits for each of m letters, no fewer than the call length, and 4 for the SSID
  pub token_size : (b : List Bool) → token_bits l c ≡ Some b → length b ≤ 6 * m + 4
  unfolding token_bits plain_ap
  token_size =
      let two : 2 ≤ m = omega arith in
      pick_most (6 * m + 4) (is_one_of c wide_tokens) _ _
      (λ _. some_most (6 * m + 4) (pair_bits wide_row c) (omega (arith, narrow_first wide_row pair_rows c all_narrow.0)))
      (λ _. or_most (6 * m + 4) (pairs_bits pair_rows c) _ (pairs_most m two c pair_rows (narrow_rest wide_row pair_rows all_narrow.0))
      (or_most (6 * m + 4) (fixed_bits fixed_rows c) _ (fixed_most m two c fixed_rows)
      (or_most (6 * m + 4) (numbered_bits numbered_rows c) _ (numbered_most m two c numbered_rows all_narrow.1)
      (pick_most (6 * m + 4) (starts (ascii "AP") c && not (hyphened c)) (ap_bits l c) (spelled_bits l c)
      (λ t. ap_most (and_left (starts (ascii "AP") c) (not (hyphened c)) t) (not-true (hyphened c) (and_right (starts (ascii "AP") c) (not (hyphened c)) t)))
      (λ _. spelled_most)))))

-- by the whole text: 58 bits for 9 bytes, 64 for 10, where the call length is 6 or 7
pub token_size_text : (l m : ℕ) → 2 ≤ l → l ≤ m → (c : List ℕ) → length c ≤ m → (b : List Bool) → token_bits l c ≡ Some b → length b ≤ 6 * m + 4
token_size_text l m few fits c h = token_size l m few fits c (omega (arith, base_short c))

-- no more bytes than the call length, and an SSID: 40 bits, or 46
pub token_size_call : (l : ℕ) → 2 ≤ l → (t : List ℕ) (s : ℕ) → length t ≤ l → (b : List Bool) → token_bits l (call_text t s) ≡ Some b → length b ≤ 6 * l + 4
unfolding call_text
token_size_call l few t s h = token_size l l few (omega arith) (t ++ suffix s) (omega (arith, base_suffix t s))
