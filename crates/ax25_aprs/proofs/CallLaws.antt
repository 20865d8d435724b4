-- A clean call, filled up with blanks, is its own text again.
-- Assumes nothing.
use mathlib.Core.Path.{◌≡◌, refl}
use mathlib.Core.Logic.{◌⊎◌, inl, inr}
use mathlib.Core.Bool.{Bool, true, ◌&&◌}
use mathlib.Core.List.{List, [], ◌∷◌, ◌++◌}
use Prim.Native.Nat.{ℕ, zero, suc, ◌≤◌}
use native.Mathlib.Nat.{not-suc-le-zero, le_of_suc-le-suc}
use native.Mathlib.Omega.{arith}
use lib.ListN.{length}
use lib.Dec.{ltb}
use borrow.Author.Tests.{ltb-true, lt-ltb}
use Rattle.laws.specs.Pick.{pick}
use Rattle.laws.specs.Text.{filled}
use Rattle.laws.proofs.Cases.{and_left, and_right}
use Rattle.laws.proofs.TextLaws.{below, at_each}
use Rattle.laws.proofs.TrimLaws.{Solid, trim_filled}
use Rattle.ax25_token.specs.Token.{two_digits, decimal, suffix}
use Rattle.ax25_token.specs.Clean.{clean_letters, call_text, CleanCall}
use Rattle.ax25_token.proofs.CleanLaws.{letter_or_digit, clean_first, clean_rest, call_upper}
use Rattle.ax25_token.proofs.Sizes.{call_size}
use Rattle.ax25_address.specs.Address.{white}
use Rattle.ax25_address.proofs.AddressLaws.{not_white, white_blank}
use Rattle.ax25_aprs.specs.Body.{call_of}

-- ---- bytes above the blank, as all of a call's

visible : List ℕ → Bool
visible [] = true
visible (x ∷ xs) = ltb 32 x && visible xs

visible_append : (s t : List ℕ) → visible s ≡ true → visible t ≡ true → visible (s ++ t) ≡ true
unfolding visible
visible_append [] t e f = f
visible_append (x ∷ s) t e f = rw (and_left (ltb 32 x) (visible s) e, visible_append s t (and_right (ltb 32 x) (visible s) e) f)

visible_letter : (x : ℕ) → ((65 ≤ x) × (x ≤ 90)) ⊎ ((48 ≤ x) × (x ≤ 57)) → ltb 32 x ≡ true
visible_letter x (inl h) = lt-ltb 32 x (omega arith)
visible_letter x (inr h) = lt-ltb 32 x (omega arith)

visible_letters : (s : List ℕ) → clean_letters s ≡ true → visible s ≡ true
unfolding visible
visible_letters [] e = refl
visible_letters (x ∷ s) e = rw (visible_letter x (letter_or_digit x (clean_first x s e)), visible_letters s (clean_rest x s e))

-- (by a computed test over the SSIDs)
seen : ℕ → Bool
seen v = visible (suffix v)

all_seen : below seen 16 ≡ true
unfolding below seen visible suffix decimal two_digits pick
all_seen = refl

-- none of them is trimmed
visible_solid : (s : List ℕ) → visible s ≡ true → Solid white s
unfolding visible
visible_solid [] e i h = absurd (not-suc-le-zero h)
visible_solid (x ∷ s) e zero h = not_white x (ltb-true 32 x (and_left (ltb 32 x) (visible s) e))
visible_solid (x ∷ s) e (suc i) h = visible_solid s (and_right (ltb 32 x) (visible s) e) i (le_of_suc-le-suc h)

-- ---- a clean call

module _ (mended : Bool) (letters : List ℕ) (ssid : ℕ) (h : CleanCall mended letters ssid) where
  pub call_nine : length (call_text letters ssid) ≤ 9
  call_nine = omega (arith, call_size letters ssid, h.few_letters)

  call_visible : visible (call_text letters ssid) ≡ true
  unfolding call_text seen
  call_visible = visible_append letters (suffix ssid) (visible_letters letters h.clean) (at_each seen 16 all_seen ssid h.small)

  pub call_filled : (n : ℕ) → call_of (filled n (call_text letters ssid)) ≡ call_text letters ssid
  unfolding call_of
  call_filled n =
      rw (trim_filled white white_blank n (call_text letters ssid) (visible_solid (call_text letters ssid) call_visible)) (call_upper letters ssid h.clean h.small)
