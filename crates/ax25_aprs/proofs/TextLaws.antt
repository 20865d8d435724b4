-- One step of coding a text, and one of reading it, by cases; numbers in digits.
-- Assumes nothing.
use mathlib.Core.Path.{◌≡◌, refl, ap, ◌∙◌}
use mathlib.Core.Bool.{Bool, true, false}
use mathlib.Core.List.{List, [], ◌∷◌, ◌++◌}
use Rattle.std.proofs.Common.{Some}
use Prim.Native.Nat.{ℕ, zero, suc, ◌+◌, ◌-◌, ◌*◌, ◌/◌, ◌%◌, ◌^◌, ◌≤◌, ◌<◌}
use native.Mathlib.Nat.{mod-eq_of_lt, not-suc-le-zero}
use native.Mathlib.Omega.{arith}
use lib.ListN.{length, get_or, take, drop, replicate, length-append, length-replicate}
use lib.Seq.{take_at, drop_at, drop-drop}
use lib.Dec.{eqb}
use borrow.Author.Tests.{le-leb, lt-leb, lt-ltb, le-ltb, eq-eqb, ne_eqb}
use Rattle.laws.specs.Bits.{num, bits_of, value_of}
use Rattle.laws.specs.Digits.{Digits, digits}
use Rattle.laws.specs.Pick.{pick}
use Rattle.laws.specs.Text.{between, is_digit}
use Rattle.laws.proofs.BitLaws.{length_bits, value_bits}
use Rattle.laws.proofs.Cases.{by_test, by_le, by_eq}
use Rattle.laws.proofs.DigitLaws.{digits_head, digits_tail, length_digits}
use Rattle.laws.proofs.TrimLaws.{between_yes, between_above, trim_solid}
use Rattle.bits.specs.Val.{val_of}
use Rattle.bits_write.specs.Write.{top_bits}
use Rattle.bits.proofs.ValLaws.{val_lt, digits_val}
use Rattle.ax25_address.specs.Address.{blank}
use Rattle.ax25_aprs.specs.Words.{words, word, word_at}
use Rattle.ax25_aprs.specs.Text.{joined, all_digits, unsigned, no_plus, altitude, altitude_bits, altitude_at, front_bits, front_size, text_from, text_bits, padded, altitude_text, code_text, code_span, read_from, read_text}
use Rattle.ax25_aprs.proofs.WordLaws.{word_at_lem, word_some, word_size}

-- ---- digits

pub padded_few : (n v : ℕ) → v < 10 ^ n → padded n v ≡ digits n v
unfolding padded pick
padded_few n v h = rw (lt-ltb v (10 ^ n) h)

pub padded_more : (n v : ℕ) → 10 ^ n ≤ v → padded n v ≡ digits (suc n) v
unfolding padded pick
padded_more n v h = rw (le-ltb v (10 ^ n) h)

pub length_padded : (n v : ℕ) → length (padded n v) ≤ suc n
length_padded n v =
    by_le (10 ^ n) v
    (λ h. rw (padded_more n v h) (omega (arith, length_digits (suc n) v)))
    (λ h. rw (padded_few n v h) (omega (arith, length_digits n v)))

-- the first of n digits, and the others
pub digits_first : (n v : ℕ) → 0 < n → digits n v ≡ (48 + v / 10 ^ (n - 1) % 10) ∷ digits (n - 1) v
unfolding digits
digits_first zero v h = absurd (omega arith)
digits_first (suc n) v h =
    let e : suc n - 1 ≡ n = omega arith in
    rw e

pub padded_val : (n : ℕ) (s : List ℕ) → length s ≡ n → Digits s → n ≤ 19 → padded n (val_of s) ≡ s
padded_val n s e h l =
    rw (← e) (padded_few (length s) (val_of s) (val_lt s h (omega arith)) ∙ digits_val s h (omega arith))

-- ---- an altitude of digits is their number

all_digits_lem : (s : List ℕ) → Digits s → all_digits s ≡ true
unfolding all_digits is_digit
all_digits_lem [] h = refl
all_digits_lem (c ∷ s) h =
    let f = digits_head c s h in
    rw (between_yes 48 57 c f.0 (omega arith), all_digits_lem s (digits_tail c s h))

unsigned_digits : (s : List ℕ) → 0 < length s → Digits s → unsigned s ≡ Some (val_of s)
unfolding unsigned pick
unsigned_digits [] l h = absurd (not-suc-le-zero l)
unsigned_digits (c ∷ s) l h = rw (all_digits_lem (c ∷ s) h)

no_plus_lem : (s : List ℕ) → Digits s → no_plus s ≡ s
unfolding no_plus pick
no_plus_lem [] h = refl
no_plus_lem (c ∷ s) h = rw (ne_eqb c 43 (λ e. omega (arith, digits_head c s h)))

blank_32 : blank 32 ≡ true
unfolding blank between
blank_32 = refl

no_blank : (c : ℕ) → 32 < c → blank c ≡ false
unfolding blank
no_blank c h = rw (between_above 9 13 c (omega arith) (omega arith), ne_eqb c 32 (λ e. omega arith))

pub altitude_digits : (s : List ℕ) → 0 < length s → Digits s → altitude s ≡ Some (val_of s)
unfolding altitude
altitude_digits s l h =
    rw (trim_solid blank blank_32 s (λ i k. no_blank (get_or s i 0) (omega (arith, h i k))), no_plus_lem s h) (unsigned_digits s l h)

-- ---- what stands at the front

pub altitude_yes : (s : List ℕ) → word_at s ≡ 1 → 9 ≤ length s → altitude_at true s ≡ true
unfolding altitude_at
altitude_yes s e h = rw (eq-eqb (word_at s) 1 e, le-leb 9 (length s) h)

pub altitude_text_lem : (s : List ℕ) → altitude_at false s ≡ false
unfolding altitude_at
altitude_text_lem s = refl

pub altitude_other : (p : Bool) (s : List ℕ) → (word_at s ≡ 1 → ⊥) → altitude_at p s ≡ false
unfolding altitude_at
altitude_other true s h = rw (ne_eqb (word_at s) 1 h)
altitude_other false s h = refl

module _ (p : Bool) (s : List ℕ) where
  pub bits_altitude : altitude_at p s ≡ true → front_bits p s ≡ altitude_bits (altitude (take 4 (drop 5 s)))
  unfolding front_bits pick
  bits_altitude e = rw e

  pub size_altitude : altitude_at p s ≡ true → front_size p s ≡ 9
  unfolding front_size pick
  size_altitude e = rw e

  pub bits_byte : word_at s ≡ 0 → front_bits p s ≡ Some (top_bits 7 (get_or s 0 0))
  unfolding front_bits pick
  bits_byte e = rw (altitude_other p s (λ z. omega arith), eq-eqb (word_at s) 0 e)

  pub size_byte : word_at s ≡ 0 → front_size p s ≡ 1
  unfolding front_size pick
  size_byte e = rw (altitude_other p s (λ z. omega arith), eq-eqb (word_at s) 0 e)

  pub bits_word : altitude_at p s ≡ false → (word_at s ≡ 0 → ⊥) → front_bits p s ≡ Some (bits_of 7 (word_at s))
  unfolding front_bits pick
  bits_word e h = rw (e, ne_eqb (word_at s) 0 h)

  pub size_word : altitude_at p s ≡ false → (word_at s ≡ 0 → ⊥) → front_size p s ≡ length (word (word_at s))
  unfolding front_size pick
  size_word e h = rw (e, ne_eqb (word_at s) 0 h)

  -- something is taken
  pub size_pos : 0 < front_size p s
  size_pos =
      by_test (altitude_at p s)
      (λ e. omega (arith, size_altitude e))
      (λ e.
      by_eq (word_at s) 0
      (λ z. omega (arith, size_byte z))
      (λ z. let w = word_at_lem s z in omega (arith, size_word e z, word_some (word_at s) w.some_word w.last_word)))

-- ---- coding, a step

text_skip : (p : Bool) (k : ℕ) (s : List ℕ) → text_from p k s ≡ text_from p 0 (drop k s)
unfolding text_from
text_skip p zero s = refl
text_skip p (suc k) [] = refl
text_skip p (suc k) (c ∷ s) = text_skip p k s

pub text_nil : (p : Bool) → text_bits p [] ≡ Some []
unfolding text_bits text_from
text_nil p = refl

pub text_step : (p : Bool) (s : List ℕ) → 0 < length s → text_bits p s ≡ joined (front_bits p s) (text_bits p (drop (front_size p s) s))
unfolding text_bits text_from
text_step p [] h = absurd (not-suc-le-zero h)
text_step p (c ∷ s) h =
    let n = front_size p (c ∷ s) in
    let e : n ≡ suc (n - 1) = omega (arith, size_pos p (c ∷ s)) in
    let t : drop n (c ∷ s) ≡ drop (n - 1) s = ap (λ (k : ℕ). drop k (c ∷ s)) e in
    rw (t, text_skip p (n - 1) s)

-- ---- what a code stands for

module _ (p : Bool) (c : ℕ) (b : List Bool) where
  pub code_zero : c ≡ 0 → code_text p c b ≡ []
  unfolding code_text pick
  code_zero e = rw (eq-eqb c 0 e)

  pub code_one : c ≡ 1 → code_text p c b ≡ word 1 ++ altitude_text p b
  unfolding code_text pick
  code_one e = rw (ne_eqb c 0 (λ z. omega arith), eq-eqb c 1 e)

  pub code_word : 2 ≤ c → c ≤ 9 → code_text p c b ≡ word c
  unfolding code_text pick
  code_word h k = rw (ne_eqb c 0 (λ z. omega arith), ne_eqb c 1 (λ z. omega arith), le-leb c 9 k)

  pub code_none : 10 ≤ c → c ≤ 31 → code_text p c b ≡ []
  unfolding code_text pick
  code_none h k = rw (ne_eqb c 0 (λ z. omega arith), ne_eqb c 1 (λ z. omega arith), lt-leb c 9 h, le-leb c 31 k)

  pub code_self : 32 ≤ c → code_text p c b ≡ c ∷ []
  unfolding code_text pick
  code_self h = rw (ne_eqb c 0 (λ z. omega arith), ne_eqb c 1 (λ z. omega arith), lt-leb c 9 (omega arith), lt-leb c 31 h)

pub span_altitude : (c : ℕ) → c ≡ 1 → code_span true c ≡ 14
unfolding code_span pick
span_altitude c e = rw (eq-eqb c 1 e)

pub span_text : (c : ℕ) → code_span false c ≡ 0
unfolding code_span pick
span_text c = refl

pub span_other : (p : Bool) (c : ℕ) → (c ≡ 1 → ⊥) → code_span p c ≡ 0
unfolding code_span pick
span_other true c h = rw (ne_eqb c 1 h)
span_other false c h = refl

pub span_le : (p : Bool) (c : ℕ) → code_span p c ≤ 14
unfolding code_span pick
span_le false c = omega arith
span_le true c = by_test (eqb c 1) (λ e. rw e (omega arith)) (λ e. rw e (omega arith))

pub altitude_number : (b : List Bool) → altitude_text true b ≡ padded 4 (value_of (take 14 b))
unfolding altitude_text pick
altitude_number b = refl

pub altitude_no : (b : List Bool) → altitude_text false b ≡ []
unfolding altitude_text pick
altitude_no b = refl

first_word : length (word 1) ≡ 5
unfolding word words
first_word = refl

-- eight bytes at most, or ten where fourteen bits are skipped
one_length : (p : Bool) (c : ℕ) → c ≡ 1 → (b : List Bool) → 7 * length (word 1 ++ altitude_text p b) ≤ 56 + code_span p c
unfolding altitude_text pick
one_length true c e b =
    rw (length-append (word 1) (padded 4 (value_of (take 14 b)))) (omega (arith, first_word, length_padded 4 (value_of (take 14 b)), span_altitude c e))
one_length false c e b = rw (length-append (word 1) []) (omega (arith, first_word))

pub code_length : (p : Bool) (c : ℕ) (b : List Bool) → 7 * length (code_text p c b) ≤ 56 + code_span p c
code_length p c b =
    by_eq c 0
    (λ e. rw (code_zero p c b e) (omega arith))
    (λ z.
    by_eq c 1
    (λ e. rw (code_one p c b e) (one_length p c e b))
    (λ n.
    by_le c 9
    (λ h. rw (code_word p c b (omega arith) h) (omega (arith, word_size c (omega arith) h)))
    (λ h.
    by_le c 31
    (λ k. rw (code_none p c b h k) (omega arith))
    (λ k. rw (code_self p c b k) (omega arith)))))

-- ---- reading, a step

read_skip : (p : Bool) (k : ℕ) (b : List Bool) → read_from p k b ≡ read_from p 0 (drop k b)
unfolding read_from
read_skip p zero b = refl
read_skip p (suc k) [] = refl
read_skip p (suc k) (x ∷ b) = read_skip p k b

pub read_short : (p : Bool) (b : List Bool) → length b < 7 → read_text p b ≡ []
unfolding read_text read_from pick
read_short p [] h = refl
read_short p (x ∷ b) h = rw (lt-leb 6 (length b) (omega arith))

pub read_step : (p : Bool) (b : List Bool) → 7 ≤ length b
    → read_text p b ≡ code_text p (value_of (take 7 b)) (drop 7 b) ++ read_text p (drop (7 + code_span p (value_of (take 7 b))) b)
unfolding read_text read_from pick
read_step p [] h = absurd (not-suc-le-zero h)
read_step p (x ∷ b) h =
    let n = code_span p (value_of (x ∷ take 6 b)) in
    let e : 7 + n ≡ suc (6 + n) = omega arith in
    rw (le-leb 6 (length b) (omega arith), read_skip p (6 + n) b, e)

-- a code that was written is read
pub read_code : (p : Bool) (c : ℕ) (b : List Bool) → c < 128 → read_text p (bits_of 7 c ++ b) ≡ code_text p c b ++ read_text p (drop (code_span p c) b)
read_code p c b h =
    let l = length_bits 7 c in
    read_step p (bits_of 7 c ++ b) (omega (arith, length-append (bits_of 7 c) b))
    ∙ rw (← drop-drop (code_span p (value_of (take 7 (bits_of 7 c ++ b)))) 7 (bits_of 7 c ++ b), take_at (bits_of 7 c) b 7 l, drop_at (bits_of 7 c) b 7 l, value_bits 7 c, mod-eq_of_lt h)

-- ---- zeros are read as nothing

zeros_value : (n k : ℕ) → value_of (take n (replicate k false)) ≡ 0
unfolding value_of num
zeros_value zero k = refl
zeros_value (suc n) zero = refl
zeros_value (suc n) (suc k) = rw (zeros_value n k) (omega arith)

zeros_from : (p : Bool) (j k : ℕ) → read_from p j (replicate k false) ≡ []
unfolding read_from pick
zeros_from p j zero = refl
zeros_from p (suc j) (suc k) = zeros_from p j k
zeros_from p zero (suc k) =
    by_le 6 k
    (λ h.
    let b = replicate k false in
    rw (le-leb 6 (length b) (omega (arith, length-replicate k false)), zeros_value 7 (suc k), code_zero p 0 (drop 6 b) refl, zeros_from p (6 + code_span p 0) k))
    (λ h. rw (lt-leb 6 (length (replicate k false)) (omega (arith, length-replicate k false))))

pub read_zeros : (p : Bool) (k : ℕ) → read_text p (replicate k false) ≡ []
unfolding read_text
read_zeros p k = zeros_from p 0 k
