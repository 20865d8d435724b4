-- What is written is read back: bytes in hexadecimal, and the line of bytes under a command.
-- Assumes nothing.
use mathlib.Core.Path.{◌≡◌, refl, sym, ap, ◌∙◌}
use mathlib.Core.Bool.{Bool, true, ◌&&◌}
use mathlib.Core.List.{List, [], ◌∷◌, ◌++◌, append-nil, flat_map}
use Prim.Native.Nat.{ℕ, suc, ◌+◌, ◌*◌, ◌/◌, ◌%◌, ◌≤◌, ◌<◌, suc-le-suc}
use native.Mathlib.Omega.{arith}
use lib.ListN.{length}
use lib.Dec.{eqb, ltb}
use borrow.Author.Tests.{eqb-true, ltb-true, lt-ltb, ne_eqb}
use Rattle.laws.specs.Bits.{Bytes}
use Rattle.laws.specs.Pick.{pick}
use Rattle.laws.specs.Text.{between, same}
use Rattle.laws.proofs.Cases.{by_eq, and_left, and_right}
use Rattle.laws.proofs.TextLaws.{below, at_each}
use Rattle.texts.specs.Hex.{digit_of, hex_byte, hex_of, hex_value, is_hex, bytes_of, read_of}
use Rattle.texts.specs.Part.{before, behind, piece_of, without_cr}
use Rattle.texts.specs.Say.{word_of, command_of, digits_of, spelled_of, line_room}
use Rattle.std.proofs.Common.{Ok}
use Rattle.texts.proofs.HexLaws.{read_all}
use Rattle.texts.proofs.SayLaws.{digits_none, digits_some}
use Rattle.texts.proofs.ShowLaws.{hex_length}

-- ---- a digit

-- it has its number for a value, and is above the blank
unfoldable right : ℕ → Bool
right n = eqb (hex_value (digit_of n)) n && ltb 32 (digit_of n)

all_right : below right 16 ≡ true
unfolding below right hex_value digit_of pick between
all_right = refl

module _ (n : ℕ) (h : n < 16) where
  digit_back : hex_value (digit_of n) ≡ n
  unfolding right
  digit_back = eqb-true (hex_value (digit_of n)) n (and_left _ (ltb 32 (digit_of n)) (at_each right 16 all_right n h))

  digit_high : 32 < digit_of n
  unfolding right
  digit_high = ltb-true 32 (digit_of n) (and_right (eqb (hex_value (digit_of n)) n) _ (at_each right 16 all_right n h))

-- ---- bytes

pub hex_back : (s : List ℕ) → Bytes s → bytes_of (hex_of s) ≡ s
unfolding hex_of hex_byte flat_map bytes_of
hex_back [] h = refl
hex_back (x ∷ s) h =
    let small : x < 256 = h 0 (omega arith) in
    let whole : x / 16 * 16 + x % 16 ≡ x = omega arith in
    rw (digit_back (x / 16) (omega arith), digit_back (x % 16) (omega arith), whole, hex_back s (λ i k. h (suc i) (suc-le-suc k)))

hex_digits : (s : List ℕ) → Bytes s → is_hex (hex_of s) ≡ true
unfolding hex_of hex_byte flat_map is_hex
hex_digits [] h = refl
hex_digits (x ∷ s) h =
    let small : x < 256 = h 0 (omega arith) in
    rw (digit_back (x / 16) (omega arith), digit_back (x % 16) (omega arith), lt-ltb (x / 16) 16 (omega arith), lt-ltb (x % 16) 16 (omega arith), hex_digits s (λ i k. h (suc i) (suc-le-suc k)))

-- where there is room for them, all of them are read
pub hex_read : (room : ℕ) (s : List ℕ) → Bytes s → length s ≤ room → read_of room (hex_of s) ≡ Ok (length s)
hex_read room s h few =
    let size : length (hex_of s) / 2 ≡ length s = omega (arith, hex_length s) in
    let even : length (hex_of s) % 2 ≡ 1 → ⊥ = λ q. omega (arith, hex_length s, q) in
    sym (read_all room (hex_of s) (hex_digits s h) even (omega (arith, size, few))) ∙ ap Ok size

-- ---- a text whose bytes are all above a bound

unfoldable pub above : ℕ → List ℕ → Bool
above b [] = true
above b (x ∷ s) = ltb b x && above b s

module _ (b : ℕ) where
  above_head : (x : ℕ) (s : List ℕ) → above b (x ∷ s) ≡ true → b < x
  unfolding above
  above_head x s h = ltb-true b x (and_left (ltb b x) (above b s) h)

  above_tail : (x : ℕ) (s : List ℕ) → above b (x ∷ s) ≡ true → above b s ≡ true
  unfolding above
  above_tail x s h = and_right (ltb b x) (above b s) h

  above_append : (s t : List ℕ) → above b s ≡ true → above b t ≡ true → above b (s ++ t) ≡ true
  unfolding above
  above_append [] t h k = k
  above_append (x ∷ s) t h k = rw (lt-ltb b x (above_head x s h), above_append s t (above_tail x s h) k)

  above_hex : b ≤ 32 → (s : List ℕ) → Bytes s → above b (hex_of s) ≡ true
  unfolding hex_of hex_byte flat_map above
  above_hex low [] h = refl
  above_hex low (x ∷ s) h =
      let small : x < 256 = h 0 (omega arith) in
      let first : b < digit_of (x / 16) = omega (arith, digit_high (x / 16) (omega arith)) in
      let second : b < digit_of (x % 16) = omega (arith, digit_high (x % 16) (omega arith)) in
      rw (lt-ltb b (digit_of (x / 16)) first, lt-ltb b (digit_of (x % 16)) second, above_hex low s (λ i k. h (suc i) (suc-le-suc k)))

  -- no byte of the bound or below it stands there
  module _ (c : ℕ) (low : c ≤ b) where
    pub before_past : (s t : List ℕ) → above b s ≡ true → before c (s ++ t) ≡ s ++ before c t
    unfolding before pick
    before_past [] t h = refl
    before_past (x ∷ s) t h =
        let other : x ≡ c → ⊥ = λ q. omega (arith, above_head x s h, low, q) in
        rw (ne_eqb x c other, before_past s t (above_tail x s h))

    behind_past : (s t : List ℕ) → above b s ≡ true → behind c (s ++ t) ≡ behind c t
    unfolding behind pick
    behind_past [] t h = refl
    behind_past (x ∷ s) t h =
        let other : x ≡ c → ⊥ = λ q. omega (arith, above_head x s h, low, q) in
        rw (ne_eqb x c other, behind_past s t (above_tail x s h))

  module _ (low : 13 ≤ b) where
    cr_past : (s : List ℕ) → above b s ≡ true → without_cr s ≡ s
    unfolding without_cr pick
    cr_past [] h = refl
    cr_past (x ∷ []) h =
        let other : x ≡ 13 → ⊥ = λ q. omega (arith, above_head x [] h, low, q) in
        rw (ne_eqb x 13 other)
    cr_past (x ∷ y ∷ s) h = rw (cr_past (y ∷ s) (above_tail x (y ∷ s) h))

-- ---- the line of bytes under a command

-- the command of its word is the same, and the word has no blank or byte below it
unfoldable named : ℕ → Bool
named c = eqb (command_of (word_of c)) c && (above 32 (word_of c) && above 31 (word_of c))

all_named : below named 3 ≡ true
unfolding below named command_of word_of piece_of before behind same pick above
all_named = refl

module _ (command : ℕ) (known : command ≤ 2) where
  is_named : named command ≡ true
  is_named = at_each named 3 all_named command (omega arith)

  command_back : command_of (word_of command) ≡ command
  unfolding named
  command_back = eqb-true (command_of (word_of command)) command (and_left _ (above 32 (word_of command) && above 31 (word_of command)) is_named)

  word_high : (above 32 (word_of command) && above 31 (word_of command)) ≡ true
  unfolding named
  word_high = and_right (eqb (command_of (word_of command)) command) _ is_named

  no_blank : above 32 (word_of command) ≡ true
  no_blank = and_left (above 32 (word_of command)) (above 31 (word_of command)) word_high

  line_word : (d : List ℕ) → before 32 (spelled_of command d) ≡ word_of command
  unfolding spelled_of before pick
  line_word [] = rw (digits_none [] refl, before_past 32 32 (omega arith) (word_of command) [] no_blank, append-nil)
  line_word (x ∷ d) = rw (digits_some (x ∷ d) (λ q. omega arith), before_past 32 32 (omega arith) (word_of command) (32 ∷ hex_of (x ∷ d)) no_blank, append-nil)

  line_rest : (d : List ℕ) → behind 32 (spelled_of command d) ≡ hex_of d
  unfolding spelled_of behind pick
  line_rest [] = rw (digits_none [] refl, behind_past 32 32 (omega arith) (word_of command) [] no_blank) (unfold hex_of flat_map in refl)
  line_rest (x ∷ d) = rw (digits_some (x ∷ d) (λ q. omega arith), behind_past 32 32 (omega arith) (word_of command) (32 ∷ hex_of (x ∷ d)) no_blank)

  module _ (d : List ℕ) (h : Bytes d) where
    digits_plain : above 31 (digits_of d) ≡ true
    digits_plain =
        by_eq (length d) 0
        (λ q. rw (digits_none d q) (unfold above in refl))
        (λ q. rw (digits_some d q) (unfold above in above_hex 31 (omega arith) d h))

    line_plain : above 31 (spelled_of command d) ≡ true
    unfolding spelled_of
    line_plain =
        above_append 31 (word_of command) (digits_of d)
        (and_right (above 32 (word_of command)) (above 31 (word_of command)) word_high)
        digits_plain

    -- it ends where a line feed stands
    pub line_end : (t : List ℕ) → before 10 (spelled_of command d ++ (10 ∷ t)) ≡ spelled_of command d
    line_end t = before_past 31 10 (omega arith) (spelled_of command d) (10 ∷ t) line_plain ∙ (unfold before pick in append-nil (spelled_of command d))

-- a line is read as a command and bytes
abbrev pub Spells : List ℕ → ℕ → List ℕ → Type 0
Spells line command d =
    (command_of (before 32 line) ≡ command) × (read_of line_room (behind 32 line) ≡ Ok (length d)) × (bytes_of (behind 32 line) ≡ d)

pub spelled_back : (command : ℕ) (d : List ℕ) → command ≤ 2 → Bytes d → length d ≤ line_room → Spells (without_cr (spelled_of command d)) command d
spelled_back command d known h few =
    rw (cr_past 31 (omega arith) (spelled_of command d) (line_plain command known d h), line_word command known d, line_rest command known d)
    (command_back command known, hex_read line_room d h few, hex_back d h)
