-- A run of plain bytes is coded as its bytes one by one.
-- Assumes nothing.
use mathlib.Core.Path.{◌≡◌, refl, sym, ap, ◌∙◌}
use mathlib.Core.Bool.{Bool, true, false, and-false}
use mathlib.Core.List.{List, [], ◌∷◌, ◌++◌, append_assoc}
use Rattle.std.proofs.Common.{Option, None, Some}
use Rattle.std.proofs.lemmas.Option.{same_Some}
use Prim.Native.Nat.{ℕ, zero, suc, ◌+◌, ◌*◌, ◌≤◌, ◌<◌}
use native.Mathlib.Numerals.{add-one}
use native.Mathlib.Omega.{arith}
use lib.ListN.{length, get_or, take, drop}
use lib.Seq.{drop-cons, drop-drop, length-take-le}
use lib.Dec.{eqb, ltb, leb}
use borrow.Author.Tests.{leb-false, lt-ltb, le-ltb, ltb-true, ltb-false, eq-eqb, ne_eqb, eqb-true}
use Rattle.laws.specs.Bits.{bits_of}
use Rattle.laws.specs.Pick.{pick}
use Rattle.laws.proofs.Cases.{by_test, and_left, and_right, or_left, or_right}
use Rattle.bits_write.specs.Text7.{sevens}
use Rattle.bits_write.proofs.Text7Laws.{length_sevens}
use Rattle.bits_write.proofs.WriteLaws.{top_bits_lem}
use Rattle.ax25_aprs.specs.Words.{word_at}
use Rattle.ax25_aprs.specs.Openings.{may_open, may_stop}
use Rattle.ax25_aprs.specs.Text.{before, joined, front_bits, front_size, text_bits}
use Rattle.ax25_aprs.specs.Runs.{plain_at, plain_len, part_bits, part_size}
use Rattle.ax25_aprs.proofs.WordLaws.{byte_at, unopened}
use Rattle.ax25_aprs.proofs.TextLaws.{text_step, bits_byte, size_byte, size_pos}
use Rattle.ax25_aprs.proofs.Sizes.{size_le, front_size_lem}

-- ---- a plain byte

module _ (s : List ℕ) where
  plain_yes : get_or s 0 0 < 128 → word_at s ≡ 0 → plain_at s ≡ true
  unfolding plain_at
  plain_yes h e = rw (lt-ltb (get_or s 0 0) 128 h, eq-eqb (word_at s) 0 e)

  plain_high : 128 ≤ get_or s 0 0 → plain_at s ≡ false
  unfolding plain_at
  plain_high h = rw (le-ltb (get_or s 0 0) 128 h)

  plain_word : (word_at s ≡ 0 → ⊥) → plain_at s ≡ false
  unfolding plain_at
  plain_word e = rw (ne_eqb (word_at s) 0 e) (and-false (ltb (get_or s 0 0) 128))

  plain_low : plain_at s ≡ true → get_or s 0 0 < 128
  unfolding plain_at
  plain_low e = ltb-true (get_or s 0 0) 128 (and_left (ltb (get_or s 0 0) 128) (eqb (word_at s) 0) e)

  plain_none : plain_at s ≡ true → word_at s ≡ 0
  unfolding plain_at
  plain_none e = eqb-true (word_at s) 0 (and_right (ltb (get_or s 0 0) 128) (eqb (word_at s) 0) e)

-- ---- how many there are

pub run_nil : (s : List ℕ) → length s ≡ 0 → plain_len s ≡ 0
unfolding plain_len
run_nil [] e = refl
run_nil (c ∷ s) e = absurd (omega arith)

run_stop : (s : List ℕ) → plain_at s ≡ false → plain_len s ≡ 0
unfolding plain_len pick
run_stop [] e = refl
run_stop (c ∷ s) e = rw e

run_on : (c : ℕ) (s : List ℕ) → plain_at (c ∷ s) ≡ true → plain_len (c ∷ s) ≡ suc (plain_len s)
unfolding plain_len pick
run_on c s e = rw e

pub run_le : (s : List ℕ) → plain_len s ≤ length s
run_le [] = omega (arith, run_nil [] refl)
run_le (c ∷ s) = by_test (plain_at (c ∷ s)) (λ e. omega (arith, run_on c s e, run_le s)) (λ e. omega (arith, run_stop (c ∷ s) e))

-- at place i of a text
module _ (s : List ℕ) (i : ℕ) where
  pub run_high : 128 ≤ get_or s i 0 → plain_len (drop i s) ≡ 0
  run_high h = run_stop (drop i s) (plain_high (drop i s) (rw (byte_at s i) h))

  pub run_word : (word_at (drop i s) ≡ 0 → ⊥) → plain_len (drop i s) ≡ 0
  run_word h = run_stop (drop i s) (plain_word (drop i s) h)

  pub run_next : i < length s → get_or s i 0 < 128 → word_at (drop i s) ≡ 0 → plain_len (drop i s) ≡ suc (plain_len (drop (i + 1) s))
  run_next h k e =
      let c = drop-cons s i 0 h in
      ap plain_len c
      ∙ run_on (get_or s i 0) (drop (suc i) s) (ap plain_at (sym c) ∙ plain_yes (drop i s) (rw (byte_at s i) k) e)
      ∙ ap (λ (k : ℕ). suc (plain_len (drop k s))) (sym (add-one i))

  -- the byte and the one after it tell that the run goes on
  pub run_calm : i < length s → may_stop (get_or s i 0) (get_or s (i + 1) 0) ≡ false → plain_len (drop i s) ≡ suc (plain_len (drop (i + 1) s))
  unfolding may_stop
  run_calm h e =
      let x = get_or s i 0 in
      let m = may_open x (get_or s (i + 1) 0) in
      run_next h (leb-false 128 x (or_left (leb 128 x) m e)) (unopened s i (or_right (leb 128 x) m e))

-- some bytes of a run less
run_drop : (k : ℕ) (s : List ℕ) → k ≤ plain_len s → plain_len s ≡ k + plain_len (drop k s)
run_drop zero s h = omega arith
run_drop (suc k) [] h = absurd (omega (arith, run_nil [] refl))
run_drop (suc k) (c ∷ s) h =
    by_test (plain_at (c ∷ s))
    (λ e. omega (arith, run_on c s e, run_drop k s (omega (arith, run_on c s e))))
    (λ e. absurd (omega (arith, run_stop (c ∷ s) e)))

-- from place i on k bytes are plain, and the rest of the run comes after them
pub run_later : (s : List ℕ) (i k : ℕ) → k ≤ plain_len (drop i s) → plain_len (drop i s) ≡ k + plain_len (drop (i + k) s)
run_later s i k h = run_drop k (drop i s) h ∙ ap (λ (t : List ℕ). k + plain_len t) (drop-drop k i s)

-- at the front of a text
module _ (s : List ℕ) where
  pub no_run_word : (word_at s ≡ 0 → ⊥) → plain_len s ≤ 0
  no_run_word h = omega (arith, run_word s 0 h)

  pub no_run_high : 128 ≤ get_or s 0 0 → plain_len s ≤ 0
  no_run_high h = omega (arith, run_high s 0 h)

  pub some_run : 0 < length s → get_or s 0 0 < 128 → word_at s ≡ 0 → 0 < plain_len s
  some_run h k e = omega (arith, run_next s 0 h k e)

-- ---- coded at once

before_nil : (o : Option (List Bool)) → before [] o ≡ o
unfolding before
before_nil None = refl
before_nil (Some y) = refl

before_before : (x y : List Bool) (o : Option (List Bool)) → before x (before y o) ≡ before (x ++ y) o
unfolding before
before_before x y None = refl
before_before x y (Some z) = ap Some (sym (append_assoc x y z))

byte_step : (p : Bool) (c : ℕ) (s : List ℕ) → plain_at (c ∷ s) ≡ true → text_bits p (c ∷ s) ≡ before (bits_of 7 c) (text_bits p s)
unfolding joined
byte_step p c s e =
    let w = plain_none (c ∷ s) e in
    text_step p (c ∷ s) (omega arith)
    ∙ rw (bits_byte p (c ∷ s) w, size_byte p (c ∷ s) w, top_bits_lem 7 c (omega arith) (plain_low (c ∷ s) e))

run_step : (p : Bool) (s : List ℕ) → text_bits p s ≡ before (sevens (take (plain_len s) s)) (text_bits p (drop (plain_len s) s))
unfolding sevens
run_step p [] = rw (run_nil [] refl) (sym (before_nil (text_bits p [])))
run_step p (c ∷ s) =
    by_test (plain_at (c ∷ s))
    (λ e.
    rw (run_on c s e)
    (byte_step p c s e ∙ ap (before (bits_of 7 c)) (run_step p s) ∙ before_before (bits_of 7 c) (sevens (take (plain_len s) s)) (text_bits p (drop (plain_len s) s))))
    (λ e. rw (run_stop (c ∷ s) e) (sym (before_nil (text_bits p (c ∷ s)))))

-- ---- one part

module _ (p : Bool) (s : List ℕ) where
  pub part_run : 0 < plain_len s → part_bits p s ≡ Some (sevens (take (plain_len s) s))
  unfolding part_bits pick
  part_run h = rw (lt-ltb 0 (plain_len s) h)

  pub part_run_size : 0 < plain_len s → part_size p s ≡ plain_len s
  unfolding part_size pick
  part_run_size h = rw (lt-ltb 0 (plain_len s) h)

  pub part_front : plain_len s ≤ 0 → part_bits p s ≡ front_bits p s
  unfolding part_bits pick
  part_front h = rw (le-ltb 0 (plain_len s) h)

  pub part_front_size : plain_len s ≤ 0 → part_size p s ≡ front_size p s
  unfolding part_size pick
  part_front_size h = rw (le-ltb 0 (plain_len s) h)

  by_run : {P : Type 0} → (0 < plain_len s → P) → (plain_len s ≤ 0 → P) → P
  by_run f g = by_test (ltb 0 (plain_len s)) (λ e. f (ltb-true 0 (plain_len s) e)) (λ e. g (ltb-false 0 (plain_len s) e))

  pub part_step : 0 < length s → text_bits p s ≡ joined (part_bits p s) (text_bits p (drop (part_size p s) s))
  unfolding joined
  part_step h =
      by_run
      (λ k. rw (part_run k, part_run_size k) (run_step p s))
      (λ k. rw (part_front k, part_front_size k) (text_step p s h))

  pub part_pos : 0 < part_size p s
  part_pos = by_run (λ k. omega (arith, part_run_size k)) (λ k. omega (arith, part_front_size k, size_pos p s))

  pub part_le : 0 < length s → part_size p s ≤ length s
  part_le h = by_run (λ k. omega (arith, part_run_size k, run_le s)) (λ k. omega (arith, part_front_size k, size_le p s h))

  pub part_bits_lem : (x : List Bool) → part_bits p s ≡ Some x → length x ≤ 7 * part_size p s
  part_bits_lem x e =
      by_run
      (λ k.
      let r = sevens (take (plain_len s) s) in
      let q : r ≡ x = same_Some r x (sym (part_run k) ∙ e) in
      omega (arith, part_run_size k, ap length q, length_sevens (take (plain_len s) s), length-take-le (plain_len s) s (run_le s)))
      (λ k. omega (arith, part_front_size k, front_size_lem p s x (sym (part_front k) ∙ e)))
