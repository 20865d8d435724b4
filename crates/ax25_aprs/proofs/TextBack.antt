-- A text of bytes 20 to 7F is read back, whatever bits follow it: the induction follows the greedy coder.
-- Assumes nothing.
use mathlib.Core.Path.{◌≡◌, refl, ap, ◌∙◌}
use mathlib.Core.Bool.{Bool, true, false}
use mathlib.Core.List.{List, [], ◌∷◌, ◌++◌, append_assoc, append-nil}
use Rattle.std.proofs.Common.{Option, Some}
use Prim.Native.Nat.{ℕ, zero, suc, ◌+◌, ◌^◌, ◌≤◌, ◌<◌}
use native.Mathlib.Nat.{mod-eq_of_lt}
use native.Mathlib.Omega.{arith}
use lib.ListN.{length, get_or, take, drop, replicate, take-append-drop, length-drop, length-take}
use lib.Seq.{take_at, drop_at, take-add, take-suc, drop-drop, get_or-drop}
use Rattle.laws.specs.Bits.{bits_of}
use Rattle.laws.specs.Digits.{Digits}
use Rattle.laws.specs.Pick.{pick}
use Rattle.laws.specs.Text.{starts}
use Rattle.laws.proofs.BitLaws.{length_bits, value_bits}
use Rattle.laws.proofs.Cases.{by_test, by_eq, by_le}
use Rattle.bits.specs.Val.{val_of}
use Rattle.bits_write.specs.Write.{top_bits}
use Rattle.bits.proofs.ValLaws.{val_lt}
use Rattle.bits_write.proofs.WriteLaws.{top_bits_lem}
use Rattle.ax25_aprs.specs.Words.{words, word, word_at}
use Rattle.ax25_aprs.specs.Text.{before, joined, altitude_bits, altitude_at, front_bits, front_size, text_bits, altitude_text, code_text, code_span, read_text}
use Rattle.ax25_aprs.specs.Plain.{Printable, DigitsOf, Altitudes}
use Rattle.ax25_aprs.proofs.WordLaws.{word_at_lem, starts_take}
use Rattle.ax25_aprs.proofs.TextLaws.{padded_val, altitude_digits, altitude_yes, altitude_text_lem, altitude_other, bits_altitude, size_altitude, bits_byte, size_byte, bits_word, size_word, size_pos, text_nil, text_step, code_one, code_word, code_self, span_altitude, span_text, span_other, read_code, read_zeros}

-- bits x that are read as the bytes s, whatever follows them
abbrev Reads : Bool → List Bool → List ℕ → Type 0
Reads p x s = (r : List Bool) → read_text p (x ++ r) ≡ s ++ read_text p r

-- the text s has bits that are read as s
pub record Back (p : Bool) (s : List ℕ) : Type 0 where
  pub coded : List Bool
  pub is_coded : text_bits p s ≡ Some coded
  pub is_read : (r : List Bool) → read_text p (coded ++ r) ≡ s ++ read_text p r

-- so has what stands at its front
record Front (p : Bool) (s : List ℕ) : Type 0 where
  coded : List Bool
  is_coded : front_bits p s ≡ Some coded
  is_read : Reads p coded (take (front_size p s) s)

-- a code that takes no further bits
reads_code : (p : Bool) (c : ℕ) (t : List ℕ) → c < 128 → ((r : List Bool) → code_text p c r ≡ t) → code_span p c ≡ 0 → Reads p (bits_of 7 c) t
reads_code p c t h e z r = rw (read_code p c r h, e r, z)

first_five : (s : List ℕ) → starts (word 1) s ≡ true → take 5 s ≡ word 1
unfolding word words
first_five s e = starts_take (word 1) s e

-- an altitude
reads_altitude : (ds : List ℕ) → length ds ≡ 4 → Digits ds → Reads true (bits_of 7 1 ++ top_bits 14 (val_of ds)) (word 1 ++ ds)
unfolding altitude_text pick
reads_altitude ds l d r =
    let v = val_of ds in
    let small : v < 10000 = rw l at (val_lt ds d (omega arith)) in
    let n = length_bits 14 v in
    rw (top_bits_lem 14 v (omega arith) (omega arith), append_assoc (bits_of 7 1) (bits_of 14 v) r, read_code true 1 (bits_of 14 v ++ r) (omega arith), code_one true 1 (bits_of 14 v ++ r) refl, span_altitude 1 refl, take_at (bits_of 14 v) r 14 n, drop_at (bits_of 14 v) r 14 n, value_bits 14 v, mod-eq_of_lt {n = v} {m = 2 ^ 14} (omega arith), padded_val 4 ds l d (omega arith))

-- the word at the front, where it is no altitude
reads_word : (p : Bool) (n : ℕ) → 1 ≤ n → n ≤ 9 → (n ≡ 1 → p ≡ false) → Reads p (bits_of 7 n) (word n)
unfolding altitude_text pick
reads_word p n h k f =
    by_eq n 1
    (λ e. rw (f e, e) (reads_code false 1 (word 1) (omega arith) (λ r. code_one false 1 r refl ∙ append-nil (word 1)) (span_text 1)))
    (λ e. reads_code p n (word n) (omega arith) (λ r. code_word p n r (omega arith) k) (span_other p n e))

module _ (p : Bool) (s : List ℕ) (some_byte : 0 < length s) (printable : Printable s) (altitudes : p ≡ true → Altitudes s) where
  front_byte : word_at s ≡ 0 → Front p s
  front_byte z =
      let c = get_or s 0 0 in
      let b = printable 0 some_byte in
      record {
        coded = bits_of 7 c;
        is_coded = bits_byte p s z ∙ ap {B = Option (List Bool)} Some (top_bits_lem 7 c (omega arith) (omega arith));
        is_read = rw (size_byte p s z, take-suc s 0 0 some_byte) (reads_code p c (c ∷ []) (omega arith) (λ r. code_self p c r (omega arith)) (span_other p c (λ e. omega arith)));
      }

  first_word : word_at s ≡ 1 → starts (word 1) s ≡ true
  first_word w = rw w at (word_at_lem s (λ z. omega arith)).front

  front_altitude : altitude_at p s ≡ true → p ≡ true → word_at s ≡ 1 → Front p s
  unfolding altitude_bits
  front_altitude a t w =
      let d : DigitsOf 4 (take 4 (drop 5 s)) = altitudes t 0 (first_word w) in
      let ds = take 4 (drop 5 s) in
      let nine : take 9 s ≡ word 1 ++ ds = take-add 5 4 s ∙ ap (λ (l : List ℕ). l ++ ds) (first_five s (first_word w)) in
      record {
        coded = bits_of 7 1 ++ top_bits 14 (val_of ds);
        is_coded = bits_altitude p s a ∙ rw (altitude_digits ds (omega (arith, d.0)) d.1);
        is_read = rw (size_altitude p s a, nine, t) (reads_altitude ds d.0 d.1);
      }

  front_word : altitude_at p s ≡ false → (word_at s ≡ 0 → ⊥) → (word_at s ≡ 1 → p ≡ false) → Front p s
  front_word a z f =
      let w = word_at_lem s z in
      let n = word_at s in
      record {
        coded = bits_of 7 n;
        is_coded = bits_word p s a z;
        is_read = rw (size_word p s a z, starts_take (word n) s w.front) (reads_word p n w.some_word w.last_word f);
      }

  -- in a position type the first word is always an altitude
  long : p ≡ true → word_at s ≡ 1 → 9 ≤ length s
  long t w = omega (arith, (altitudes t 0 (first_word w)).0, length-take 4 (drop 5 s), length-drop 5 s)

  front : Front p s
  front =
      by_eq (word_at s) 0 front_byte
      (λ z.
      by_eq (word_at s) 1
      (λ w.
      by_test p
      (λ t. front_altitude (rw t (altitude_yes s w (long t w))) t w)
      (λ t. front_word (rw t (altitude_text_lem s)) z (λ _. t)))
      (λ w. front_word (altitude_other p s w) z (λ e. absurd (w e))))

-- what holds of all bytes holds after the first k
printable_drop : (k : ℕ) (s : List ℕ) → Printable s → Printable (drop k s)
printable_drop k s h i l = rw (get_or-drop k s i 0) (h (k + i) (omega (arith, length-drop k s)))

altitudes_drop : (k : ℕ) (s : List ℕ) → Altitudes s → Altitudes (drop k s)
altitudes_drop k s h i =
    let e : k + (i + 5) ≡ k + i + 5 = omega arith in
    rw (drop-drop i k s, drop-drop (i + 5) k s, e) (h (k + i))

-- the front, and the rest
front_then : (p : Bool) (s : List ℕ) → 0 < length s → Front p s → Back p (drop (front_size p s) s) → Back p s
unfolding joined before
front_then p s l f b =
    let n = front_size p s in
    let x = f.coded in
    let y = b.coded in
    record {
      coded = x ++ y;
      is_coded = rw (text_step p s l, f.is_coded, b.is_coded);
      is_read = λ r. rw (append_assoc x y r, f.is_read (y ++ r), b.is_read r, ← append_assoc (take n s) (drop n s) (read_text p r), take-append-drop n s);
    }

back_none : (p : Bool) (s : List ℕ) → length s ≡ 0 → Back p s
back_none p [] h = record { coded = []; is_coded = text_nil p; is_read = λ r. refl }
back_none p (c ∷ s) h = absurd (omega arith)

back_to : (n : ℕ) (p : Bool) (s : List ℕ) → length s ≤ n → Printable s → (p ≡ true → Altitudes s) → Back p s
back_to zero p s h pr al = back_none p s (omega arith)
back_to (suc n) p s h pr al =
    by_le 1 (length s)
    (λ l.
    let k = front_size p s in
    let fewer : length (drop k s) ≤ n = omega (arith, length-drop k s, size_pos p s) in
    front_then p s l (front p s l pr al) (back_to n p (drop k s) fewer (printable_drop k s pr) (λ t. altitudes_drop k s (al t))))
    (λ l. back_none p s (omega arith))

-- a text is read back, in a position type where each /A=00 is followed by four digits
pub text_back : (p : Bool) (s : List ℕ) → Printable s → (p ≡ true → Altitudes s) → Back p s
text_back p s = back_to (length s) p s (omega arith)

-- with zeros after it too
pub text_zeros : (p : Bool) (s : List ℕ) (b : Back p s) (z : ℕ) → read_text p (b.coded ++ replicate z false) ≡ s
text_zeros p s b z = b.is_read (replicate z false) ∙ rw (read_zeros p z) (append-nil s)
