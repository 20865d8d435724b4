-- How long a text is that shows bytes.
-- Assumes nothing.
use mathlib.Core.Path.{◌≡◌, refl}
use mathlib.Core.List.{List, [], ◌∷◌, ◌++◌, flat_map}
use Prim.Native.Nat.{ℕ, ◌*◌, ◌≤◌, ◌<◌}
use native.Mathlib.Omega.{arith}
use lib.ListN.{length}
use Rattle.laws.specs.Pick.{pick}
use Rattle.laws.specs.Text.{ascii, between}
use Rattle.laws.proofs.Cases.{by_test, by_le}
use Rattle.laws.proofs.TrimLaws.{between_below, between_yes, between_above}
use Rattle.texts.specs.Hex.{hex_byte, hex_of}
use Rattle.texts.specs.Show.{shown_byte, shown}
use Rattle.texts.proofs.HexLaws.{flat_length}

module _ (x : ℕ) where
  shown_low : x < 0x20 → shown_byte x ≡ ascii "<0x" ++ (hex_byte x ++ ascii ">")
  unfolding shown_byte pick
  shown_low h = rw (between_below 0x20 0x7E x h)

  shown_high : 0x7E < x → shown_byte x ≡ ascii "<0x" ++ (hex_byte x ++ ascii ">")
  unfolding shown_byte pick
  shown_high h = rw (between_above 0x20 0x7E x (omega arith) h)

  pub shown_other : (0x20 ≤ x → x ≤ 0x7E → ⊥) → shown_byte x ≡ ascii "<0x" ++ (hex_byte x ++ ascii ">")
  shown_other h = by_le 0x20 x (λ low. shown_high (by_le x 0x7E (λ high. absurd (h low high)) (λ high. high))) shown_low

  pub shown_plain : 0x20 ≤ x → x ≤ 0x7E → shown_byte x ≡ x ∷ []
  unfolding shown_byte pick
  shown_plain h k = rw (between_yes 0x20 0x7E x h k)

  pub shown_few : length (shown_byte x) ≤ 6
  unfolding shown_byte pick hex_byte
  shown_few = by_test (between 0x20 0x7E x) (λ t. rw t (omega arith)) (λ t. rw t (omega arith))

-- at most six characters a byte
pub shown_length : (s : List ℕ) → length (shown s) ≤ length s * 6
unfolding shown
shown_length s = flat_length shown_byte 6 shown_few s

-- two digits a byte
pub hex_length : (s : List ℕ) → length (hex_of s) ≡ length s * 2
unfolding hex_of hex_byte flat_map
hex_length [] = refl
hex_length (x ∷ s) = omega (arith, hex_length s)
