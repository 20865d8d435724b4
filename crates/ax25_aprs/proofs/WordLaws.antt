-- The word that a text starts with.
-- Assumes nothing.
use mathlib.Core.Path.{◌≡◌, refl, sym, ap, ◌∙◌}
use mathlib.Core.Bool.{Bool, true, false, ◌&&◌, and-false, false≢true}
use mathlib.Core.List.{List, [], ◌∷◌}
use Rattle.std.proofs.Common.{Option, None, Some}
use Rattle.std.proofs.lemmas.Option.{none-some, same_Some}
use Rattle.std.specs.List.{slice_get}
use Rattle.std.specs.Option.{is_some}
use Prim.Native.Nat.{ℕ, suc, ◌+◌, ◌-◌, ◌≤◌, ◌<◌}
use native.Mathlib.Nat.{add-zero, add-suc, suc-add}
use native.Mathlib.Omega.{arith}
use lib.ListN.{length, get_or, take, drop, get_or-append}
use lib.Seq.{take_at, get_or-drop}
use lib.Dec.{leb, eqb}
use borrow.Author.Tests.{leb-true, ne_eqb}
use Rattle.laws.specs.Pick.{pick}
use Rattle.laws.specs.Text.{starts}
use Rattle.laws.proofs.Cases.{by_test, by_eq, and_left, and_right}
use Rattle.laws.proofs.TextLaws.{below, at_each, starts_eq}
use Rattle.ax25_aprs.specs.Words.{words, word, first_of, word_at, Spells}
use Rattle.ax25_aprs.specs.Openings.{first_letter, second_letter, may_open, has_mark, first_marks, second_marks, both_marked}

pub starts_take : (w s : List ℕ) → starts w s ≡ true → take (length w) s ≡ w
starts_take w s e = rw (starts_eq w s e) (take_at w (drop (length w) s) (length w) refl)

-- ---- no word is empty

written : ℕ → Bool
written n = leb 1 (length (get_or words n []))

all_written : below written 9 ≡ true
unfolding below written words
all_written = refl

pub word_some : (n : ℕ) → 1 ≤ n → n ≤ 9 → 1 ≤ length (word n)
unfolding word written
word_some n h k = leb-true 1 (length (get_or words (n - 1) [])) (at_each written 9 all_written (n - 1) (omega arith))

-- and none has more than eight letters

few : ℕ → Bool
few n = leb (length (get_or words n [])) 8

all_few : below few 9 ≡ true
unfolding below few words
all_few = refl

pub word_size : (n : ℕ) → 1 ≤ n → n ≤ 9 → length (word n) ≤ 8
unfolding word few
word_size n h k = leb-true (length (get_or words (n - 1) [])) 8 (at_each few 9 all_few (n - 1) (omega arith))

-- ---- the first word that is there

record Found (k : ℕ) (ws : List (List ℕ)) (s : List ℕ) : Type 0 where
  place : ℕ
  is_found : first_of k ws s ≡ k + place
  in_list : place < length ws
  at_front : starts (get_or ws place []) s ≡ true

first_found : (k : ℕ) (ws : List (List ℕ)) (s : List ℕ) → (first_of k ws s ≡ 0 → ⊥) → Found k ws s
unfolding first_of pick
first_found k [] s h = absurd (h refl)
first_found k (w ∷ ws) s h =
    by_test (starts w s)
    (λ e. record { place = 0; is_found = rw e (sym (add-zero k)); in_list = omega arith; at_front = e })
    (λ e.
    let f = first_found (suc k) ws s (rw e at h) in
    record {
      place = suc f.place;
      is_found = rw e (f.is_found ∙ suc-add k f.place ∙ sym (add-suc k f.place));
      in_list = omega (arith, f.in_list);
      at_front = f.at_front;
    })

-- the word at the front of s: a code from 1 to 9
pub record Word (s : List ℕ) : Type 0 where
  pub some_word : 1 ≤ word_at s
  pub last_word : word_at s ≤ 9
  pub front : starts (word (word_at s)) s ≡ true

pub word_at_lem : (s : List ℕ) → (word_at s ≡ 0 → ⊥) → Word s
unfolding word_at word words
word_at_lem s h =
    let f = first_found 1 words s h in
    let e : first_of 1 words s - 1 ≡ f.place = omega (arith, f.is_found) in
    record {
      some_word = omega (arith, f.is_found);
      last_word = omega (arith, f.is_found, f.in_list);
      front = rw e f.at_front;
    }

-- ---- a test that the first two letters of each word pass

letter_at : (s : List ℕ) → Word s → (j : ℕ) → j < length (word (word_at s)) → get_or s j 0 ≡ get_or (word (word_at s)) j 0
letter_at s w j h =
    let v = word (word_at s) in
    ap (λ (t : List ℕ). get_or t j 0) (starts_eq v s w.front) ∙ get_or-append v (drop (length v) s) 0 j h

-- the byte at place i of a text, and the one after it
module _ (s : List ℕ) (i : ℕ) where
  pub byte_at : get_or (drop i s) 0 0 ≡ get_or s i 0
  byte_at = get_or-drop i s 0 0 ∙ ap (λ (k : ℕ). get_or s k 0) (add-zero i)

  second_at : get_or (drop i s) 1 0 ≡ get_or s (i + 1) 0
  second_at = get_or-drop i s 1 0

module _ (f : ℕ → ℕ → Bool) where
  both_pass : ℕ → Bool
  both_pass n = leb 2 (length (get_or words n [])) && f (get_or (get_or words n []) 0 0) (get_or (get_or words n []) 1 0)

  none_by_two : below both_pass 9 ≡ true → (s : List ℕ) → f (get_or s 0 0) (get_or s 1 0) ≡ false → word_at s ≡ 0
  unfolding both_pass word
  none_by_two all s e =
      by_eq (word_at s) 0
      (λ z. z)
      (λ h.
      let w = word_at_lem s h in
      let v = word (word_at s) in
      let t = at_each both_pass 9 all (word_at s - 1) (omega (arith, w.some_word, w.last_word)) in
      let two : 2 ≤ length v = leb-true 2 (length v) (and_left (leb 2 (length v)) (f (get_or v 0 0) (get_or v 1 0)) t) in
      let yes : f (get_or s 0 0) (get_or s 1 0) ≡ true = rw (letter_at s w 0 (omega (arith, two)), letter_at s w 1 (omega (arith, two))) (and_right (leb 2 (length v)) (f (get_or v 0 0) (get_or v 1 0)) t) in
      absurd (false≢true (sym e ∙ yes)))

  none_by_two_at : below both_pass 9 ≡ true → (s : List ℕ) (i : ℕ) → f (get_or s i 0) (get_or s (i + 1) 0) ≡ false → word_at (drop i s) ≡ 0
  none_by_two_at all s i e = none_by_two all (drop i s) (rw (byte_at s i, second_at s i) e)

all_open : below (both_pass may_open) 9 ≡ true
unfolding below both_pass may_open first_letter second_letter words
all_open = refl

pub unopened : (s : List ℕ) (i : ℕ) → may_open (get_or s i 0) (get_or s (i + 1) 0) ≡ false → word_at (drop i s) ≡ 0
unopened = none_by_two_at may_open all_open

all_marked : below (both_pass both_marked) 9 ≡ true
unfolding below both_pass both_marked has_mark first_marks second_marks words
all_marked = refl

pub unmarked : (s : List ℕ) (i : ℕ) → both_marked (get_or s i 0) (get_or s (i + 1) 0) ≡ false → word_at (drop i s) ≡ 0
unmarked = none_by_two_at both_marked all_marked

-- no word is a single letter
short_marks : (s : List ℕ) → length s ≤ 1 → both_marked (get_or s 0 0) (get_or s 1 0) ≡ false
unfolding both_marked has_mark second_marks
short_marks [] h = and-false (has_mark first_marks 0)
short_marks (x ∷ []) h = and-false (has_mark first_marks x)
short_marks (x ∷ y ∷ t) h = absurd (omega arith)

pub none_short : (s : List ℕ) → length s ≤ 1 → word_at s ≡ 0
none_short s h = none_by_two both_marked all_marked s (short_marks s h)

-- no word starts a text of no byte
pub word_none : (s : List ℕ) → None ≡ slice_get s 0 → word_at s ≡ 0
word_none [] e = none_short [] (omega arith)
word_none (x ∷ s) e = absurd (none-some x e)

-- ---- the one word that starts with a letter

off : {x n : ℕ} → (x ≡ n → ⊥) → eqb n x ≡ false
off {x} {n} h = ne_eqb n x (λ e. h (sym e))

no_letter : (x : ℕ) (t : List ℕ) → (x ≡ 47 → ⊥) → (x ≡ 86 → ⊥) → (x ≡ 80 → ⊥) → (x ≡ 72 → ⊥) → (x ≡ 97 → ⊥) → (x ≡ 65 → ⊥) → (x ≡ 112 → ⊥) → (x ≡ 68 → ⊥) → (x ≡ 71 → ⊥)
    → word_at (x ∷ t) ≡ 0
unfolding word_at first_of words starts pick
no_letter x t a b c d e f g h i =
    rw (off a, off b, off c, off d, off e, off f, off g, off h, off i)

module _ (s : List ℕ) (x : ℕ) (first : Some x ≡ slice_get s 0) where
  front_is : s ≡ x ∷ drop 1 s
  front_is = by s first
    where
      by : (t : List ℕ) → Some x ≡ slice_get t 0 → t ≡ x ∷ drop 1 t
      by [] e = absurd (none-some x (sym e))
      by (y ∷ t) e = ap (λ (z : ℕ). z ∷ t) (sym (same_Some x y e))

  -- the one word that starts with the letter decides
  pub by_letter : (n : ℕ) (w : List ℕ) → ((t : List ℕ) → word_at (x ∷ t) ≡ pick (starts w (x ∷ t)) n 0) → pick (starts w s) n 0 ≡ word_at s
  by_letter n w f = ap (λ (u : List ℕ). pick (starts w u) n 0) front_is ∙ sym (f (drop 1 s)) ∙ ap word_at (sym front_is)

  -- and its answer
  pub letter_spells : (n : ℕ) (w : List ℕ) → ((t : List ℕ) → word_at (x ∷ t) ≡ pick (starts w (x ∷ t)) n 0) → 1 ≤ n → n ≤ 9
      → (r : Option ℕ) → r ≡ pick (starts w s) (Some n) None → Spells s r
  unfolding pick
  letter_spells n w f low high r e =
      let told : word_at s ≡ pick (starts w s) n 0 = sym (by_letter n w f) in
      by_test (starts w s)
      (λ t. rw (e, t) (rw t at told, low, high))
      (λ t. rw (e, t) (rw t at told))

  pub by_no_letter : (x ≡ 47 → ⊥) → (x ≡ 86 → ⊥) → (x ≡ 80 → ⊥) → (x ≡ 72 → ⊥) → (x ≡ 97 → ⊥) → (x ≡ 65 → ⊥) → (x ≡ 112 → ⊥) → (x ≡ 68 → ⊥) → (x ≡ 71 → ⊥) → word_at s ≡ 0
  by_no_letter a b c d e f g h i = ap word_at front_is ∙ no_letter x (drop 1 s) a b c d e f g h i

-- ---- an answer

pub spells_some : (s : List ℕ) (r : Option ℕ) → is_some r ≡ true → Spells s r → word_at s ≡ 0 → ⊥
spells_some s None e h z = false≢true e
spells_some s (Some n) e h z = omega (arith, h)

pub spells_none : (s : List ℕ) (r : Option ℕ) → is_some r ≡ false → Spells s r → word_at s ≡ 0
spells_none s None e h = h
spells_none s (Some n) e h = absurd (false≢true (sym e))
