-- The command of a word, test by test, the digits of bytes, and a text that spells no bytes.
-- Assumes nothing.
use mathlib.Core.Path.{◌≡◌, sym, ap, ◌∙◌}
use mathlib.Core.List.{List, [], ◌∷◌, ◌++◌}
use Prim.Native.Nat.{ℕ, ◌≤◌, ◌<◌}
use native.Mathlib.Omega.{arith}
use mathlib.Core.Bool.{false}
use lib.Dec.{eqb}
use lib.Pointwise.{pointwise}
use lib.ListN.{length}
use Rattle.std.specs.Cmp.Lexicographic.{other_text}
use borrow.Author.Tests.{eq-eqb, ne_eqb, lt-ltb, le-ltb}
use Rattle.laws.specs.Text.{ascii}
use Rattle.laws.proofs.Cases.{pick_true, pick_false, by_le}
use Rattle.laws.proofs.TextLaws.{eq_same, ne_same}
use Rattle.texts.specs.Hex.{hex_of}
use Rattle.laws.specs.Bits.{num}
use Rattle.texts.specs.Say.{word_of, reason_of, command_of, named_of, digits_of, fault_of}
use Rattle.texts.proofs.PartLaws.{piece_length, piece_past, places}
use Rattle.texts.specs.declared.hex.HexError.{HexError}
use Rattle.texts.specs.declared.hex.HexError.TheVariants.{NoDigit, Odd, TooLong}
use Rattle.std.proofs.Common.{None, Some}
use Rattle.std.proofs.lemmas.Option.{none-some, same_Some}

-- what a test of a word has told
pub other_word : (w s : List ℕ) {t : List ℕ} → s ≡ t → false ≡ pointwise eqb w s → w ≡ t → ⊥
other_word w s e h q = other_text w s h (q ∙ sym e)

module _ (w : List ℕ) where
  pub command_ax25 : w ≡ ascii "ax25" → 0 ≡ command_of w
  unfolding command_of
  command_ax25 e = sym (pick_true _ _ (eq_same w (ascii "ax25") e))

  module _ (no_ax25 : w ≡ ascii "ax25" → ⊥) where
    pub command_long : w ≡ ascii "long" → 1 ≡ command_of w
    unfolding command_of
    command_long e = sym (pick_false _ _ (ne_same w (ascii "ax25") no_ax25) ∙ pick_true _ _ (eq_same w (ascii "long") e))

    module _ (no_long : w ≡ ascii "long" → ⊥) where
      pub command_generic : w ≡ ascii "generic" → 2 ≡ command_of w
      unfolding command_of
      command_generic e =
          sym (pick_false _ _ (ne_same w (ascii "ax25") no_ax25)
          ∙ (pick_false _ _ (ne_same w (ascii "long") no_long) ∙ pick_true _ _ (eq_same w (ascii "generic") e)))

      pub command_none : (w ≡ ascii "generic" → ⊥) → 3 ≡ command_of w
      unfolding command_of
      command_none e =
          sym (pick_false _ _ (ne_same w (ascii "ax25") no_ax25)
          ∙ (pick_false _ _ (ne_same w (ascii "long") no_long) ∙ pick_false _ _ (ne_same w (ascii "generic") e)))

-- a word and a reason are no longer than the list that has them
pub word_few : (command : ℕ) → length (word_of command) ≤ 17
unfolding word_of
word_few command = piece_length 124 command (ascii "ax25|long|generic")

pub reason_few : (n : ℕ) → length (reason_of n) ≤ 502
unfolding reason_of
reason_few n = piece_length 124 n _

pub word_past : (n : ℕ) → 2 < n → word_of n ≡ []
unfolding word_of places num
word_past n h = piece_past 124 n (ascii "ax25|long|generic") h

pub reason_past : (n : ℕ) → 27 < n → reason_of n ≡ []
unfolding reason_of places num
reason_past n h = piece_past 124 n _ h

module _ (w : List ℕ) (n : ℕ) (is : n ≡ command_of w) where
  pub named_some : n ≤ 2 → Some n ≡ named_of w
  unfolding named_of
  named_some h = ap Some is ∙ sym (pick_false _ _ (le-ltb 2 (command_of w) (omega arith)))

  pub named_none : 2 < n → None ≡ named_of w
  unfolding named_of
  named_none h = sym (pick_true _ _ (lt-ltb 2 (command_of w) (omega arith)))

module _ (w : List ℕ) where
  pub named_is : (n : ℕ) → Some n ≡ named_of w → (n ≡ command_of w) × (n ≤ 2)
  unfolding named_of
  named_is n e =
      by_le (command_of w) 2
      (λ h. let q = same_Some _ _ (e ∙ pick_false _ _ (le-ltb 2 (command_of w) h)) in (q, omega (arith, q)))
      (λ h. absurd (none-some n (sym (e ∙ pick_true _ _ (lt-ltb 2 (command_of w) h)))))

  pub named_not : None ≡ named_of w → 2 < command_of w
  unfolding named_of
  named_not e =
      by_le (command_of w) 2
      (λ h. absurd (none-some _ (e ∙ pick_false _ _ (le-ltb 2 (command_of w) h))))
      (λ h. h)

module _ (d : List ℕ) where
  pub digits_none : length d ≡ 0 → digits_of d ≡ []
  unfolding digits_of
  digits_none h = pick_true _ _ (eq-eqb (length d) 0 h)

  pub digits_some : (length d ≡ 0 → ⊥) → digits_of d ≡ (32 ∷ []) ++ hex_of d
  unfolding digits_of
  digits_some h = pick_false _ _ (ne_eqb (length d) 0 h)

pub fault_few : (e : HexError) → length (fault_of e) ≤ 30
unfolding fault_of
fault_few NoDigit = omega arith
fault_few Odd = omega arith
fault_few TooLong = omega arith
