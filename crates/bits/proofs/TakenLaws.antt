-- What an answer of `take` or `text` says of the bits it was read from.
-- Assumes nothing.
use mathlib.Core.Path.{◌≡◌, refl, sym, ap, ◌∙◌}
use mathlib.Core.Bool.{Bool, true, false}
use mathlib.Core.List.{List, map}
use Rattle.std.proofs.Common.{Option, None, Some}
use Rattle.std.proofs.lemmas.Option.{same_Some, none-some}
use Prim.Native.Nat.{ℕ, suc, ◌+◌, ◌^◌, ◌≤◌, ◌<◌}
use native.Mathlib.Nat.{lt_of_lt_of_le, pow-le-pow_right}
use native.Mathlib.Omega.{arith}
use lib.ListN.{length, take, drop, length-take, length-drop, length-map}
use lib.Seq.{drop-drop}
use lib.Dec.{leb}
use Rattle.laws.specs.Bits.{value_of}
use Rattle.laws.specs.Pick.{pick}
use Rattle.laws.proofs.BitLaws.{value_take_lt}
use Rattle.laws.proofs.Cases.{by_le}
use Rattle.bits.specs.Read.{take_bits, take_text, letter, taken, after_of}
use Rattle.bits.specs.Val.{val_of}
use Rattle.bits.proofs.ReadLaws.{letters_are, take_yes, take_no}
use Rattle.bits.proofs.ValLaws.{val_lt}

-- the number, and the bits from the next position on
view : List Bool → Option (ℕ × ℕ) → Option (ℕ × List Bool)
view b (Some (v, q)) = Some (v, drop q b)
view b None = None

-- the next position, counted from 1
next : Option (ℕ × ℕ) → ℕ
next (Some (v, q)) = suc q
next None = 0

-- a reading after one that found its bits starts at the next position
pub next_at : (R : ℕ → Option (ℕ × ℕ)) (t u : Option (ℕ × ℕ)) (at v q : ℕ) → t ≡ Some (v, q) → u ≡ R (after_of t at) → u ≡ R q
unfolding after_of
next_at R t u at v q e h = h ∙ ap (λ (x : Option (ℕ × ℕ)). R (after_of x at)) e

-- n bits from a position on are read as w
abbrev Reads : List Bool → ℕ → ℕ → ℕ → Bool → Option (ℕ × List Bool)
Reads b at n w t = pick t (Some (w, drop n (drop at b))) None

is_view : (b : List Bool) (at n w : ℕ) (t : Bool) → Reads b at n w t ≡ view b (taken (at + n) (Reads b at n w t))
unfolding view taken pick
is_view b at n w true = rw (drop-drop n at b)
is_view b at n w false = refl

read_is : (b : List Bool) (n w : ℕ) (t : Bool) (v : ℕ) (r : List Bool)
    → pick {X = Option (ℕ × List Bool)} t (Some (w, drop n b)) None ≡ Some (v, r) → w ≡ v
unfolding pick
read_is b n w true v r e = ap (λ (p : ℕ × List Bool). p.0) (same_Some (w, drop n b) (v, r) e)
read_is b n w false v r e = absurd (none-some (v, r) e)

module _ (b : List Bool) (at n : ℕ) where
  -- bits as a number
  pub told_short : taken (at + n) (take_bits n (drop at b)) ≡ None → take_bits n (drop at b) ≡ None
  unfolding view take_bits
  told_short e = is_view b at n (value_of (take n (drop at b))) (leb n (length (drop at b))) ∙ ap (view b) e

  module _ (v q : ℕ) (e : taken (at + n) (take_bits n (drop at b)) ≡ Some (v, q)) where
    pub told_bits : take_bits n (drop at b) ≡ Some (v, drop q b)
    unfolding view take_bits
    told_bits = is_view b at n (value_of (take n (drop at b))) (leb n (length (drop at b))) ∙ ap (view b) e

    -- the next position stands within the bits
    pub told_within : 0 < n → q ≤ length b
    unfolding taken next
    told_within h =
        by_le n (length (drop at b))
        (λ k.
        let f : suc (at + n) ≡ suc q = ap next (ap (taken (at + n)) (sym (take_yes n (drop at b) k)) ∙ e) in
        omega (arith, f, k, h, length-drop at b))
        (λ k.
        let f : 0 ≡ suc q = ap next (ap (taken (at + n)) (sym (take_no n (drop at b) k)) ∙ e) in
        absurd (omega (arith, f)))

    -- k bits or fewer
    pub told_small : (k : ℕ) → n ≤ k → v < 2 ^ k
    unfolding take_bits
    told_small k h =
        let w = value_of (take n (drop at b)) in
        let m : w ≡ v = read_is (drop at b) n w (leb n (length (drop at b))) v (drop q b) told_bits in
        let le : 2 ^ n ≤ 2 ^ k = pow-le-pow_right {n = 2} (omega arith) h in
        rw (← m) (lt_of_lt_of_le (value_take_lt (drop at b) n) le)

  -- bits as decimal digits
  pub told_text_short : taken (at + n) (take_text n (drop at b)) ≡ None → take_text n (drop at b) ≡ None
  unfolding view take_text
  told_text_short e = is_view b at n (val_of (map letter (take n (drop at b)))) (leb n (length (drop at b))) ∙ ap (view b) e

  module _ (v q : ℕ) (e : taken (at + n) (take_text n (drop at b)) ≡ Some (v, q)) where
    pub told_text : take_text n (drop at b) ≡ Some (v, drop q b)
    unfolding view take_text
    told_text = is_view b at n (val_of (map letter (take n (drop at b)))) (leb n (length (drop at b))) ∙ ap (view b) e

    -- k digits or fewer
    pub told_text_small : (k : ℕ) → n ≤ k → k ≤ 19 → v < 10 ^ k
    unfolding take_text
    told_text_small k h l =
        let s = map letter (take n (drop at b)) in
        let few : length s ≤ k = omega (arith, length-map (take n (drop at b)) letter, length-take n (drop at b)) in
        let m : val_of s ≡ v = read_is (drop at b) n (val_of s) (leb n (length (drop at b))) v (drop q b) told_text in
        let le : 10 ^ length s ≤ 10 ^ k = pow-le-pow_right {n = 10} (omega arith) few in
        rw (← m) (lt_of_lt_of_le (val_lt s (letters_are (take n (drop at b))) (omega arith)) le)
