-- The ways through `spelled`, `pair` and `number`, one law for each.
-- Assumes nothing.
use mathlib.Core.Path.{◌≡◌, sym, ap, ◌∙◌}
use mathlib.Core.Bool.{Bool, true, false}
use mathlib.Core.List.{List, ◌∷◌, ◌++◌}
use Rattle.std.proofs.Common.{None, Some, Option}
use Prim.Native.Nat.{ℕ, ◌+◌, ◌≤◌, ◌<◌}
use native.Mathlib.Omega.{arith}
use lib.ListN.{drop}
use Rattle.laws.specs.Pick.{pick}
use Rattle.bits.specs.Read.{taken, took, took_text}
use Rattle.bits.proofs.TakenLaws.{told_bits, told_short, told_small, told_text, told_text_short, told_text_small}
use Rattle.ax25_token.specs.declared.Call.{Call}
use Rattle.ax25_token.specs.Call.{pushed, appended, took_wide}
use Rattle.ax25_token.specs.Token.{two_digits, suffix, wide_number, read_letters, read_spelled, read_pair, read_number}
use Rattle.ax25_token.proofs.Cases.{spelled_short, spelled_bare, spelled_whole, wide_binary, wide_text, pair_short, pair_bare, pair_whole, number_short, number_whole}
use Rattle.ax25_token.proofs.CallLaws.{taken_at, Onto, appended_append, onto_nothing, onto_next, got_next, got_none, got_len}

module _ (b : List Bool) (at n : ℕ) (c : Call) (t : Option (Call × ℕ)) (i : Onto b c n (read_letters false n (drop at b)) t) where
  abbrev Spelled : Option (Call × ℕ) → Type 0
  Spelled r = Onto b c (n + 3) (read_spelled n (drop at b)) r

  pub no_letters : t ≡ None → (r : Option (Call × ℕ)) → r ≡ None → Spelled r
  no_letters e r q = onto_nothing b c (n + 3) _ r (spelled_short n (drop at b) (got_none b c n _ t i e)) q

  module _ (x : Call) (p : ℕ) (e : t ≡ Some (x, p)) where
    pub no_ssid : taken_at b p 4 ≡ None → (r : Option (Call × ℕ)) → r ≡ None → Spelled r
    no_ssid f r q =
        let g = got_next b c n _ t x p i e in
        onto_nothing b c (n + 3) _ r (spelled_bare n (drop at b) g.text (drop p b) g.read (told_short b p 4 f)) q

    pub with_ssid : (v q : ℕ) → taken_at b p 4 ≡ Some (v, q) → (d : Call) → d ≡ appended x (suffix v) → d.len ≤ x.len + 3
        → Spelled (Some (d, q))
    with_ssid v q f d h l =
        let g = got_next b c n _ t x p i e in
        onto_next b c (n + 3) _ (g.text ++ suffix v) q d
        (spelled_whole n (drop at b) g.text (drop p b) g.read v (drop q b) (told_bits b p 4 v q f))
        (h ∙ ap (λ (y : Call). appended y (suffix v)) g.call ∙ appended_append c g.text (suffix v))
        (omega (arith, got_len b c n _ t x p i e))

-- the number after a digit, by both readings
module _ (b : List Bool) (at w : ℕ) where
  pub took_binary : (mended : Bool) → mended ≡ true → took w b at ≡ took_wide mended w b at
  took_binary mended e = ap (taken (at + w)) (sym (wide_binary mended w (drop at b) e))

  pub took_digits : (mended : Bool) → mended ≡ false → took_text w b at ≡ took_wide mended w b at
  took_digits mended e = ap (taken (at + w)) (sym (wide_text mended w (drop at b) e))

  pub told_wide_short : (mended : Bool) → took_wide mended w b at ≡ None → wide_number mended w (drop at b) ≡ None
  unfolding wide_number pick
  told_wide_short true e = told_short b at w e
  told_wide_short false e = told_text_short b at w e

  pub told_wide : (mended : Bool) (v q : ℕ) → took_wide mended w b at ≡ Some (v, q) → wide_number mended w (drop at b) ≡ Some (v, drop q b)
  unfolding wide_number pick
  told_wide true v q e = told_bits b at w v q e
  told_wide false v q e = told_text b at w v q e

  pub told_wide_small : (mended : Bool) (v q : ℕ) → took_wide mended w b at ≡ Some (v, q) → w ≤ 2 → v < 100
  unfolding wide_number pick
  told_wide_small true v q e h = omega (arith, told_small b at w v q e 2 h)
  told_wide_small false v q e h = omega (arith, told_text_small b at w v q e 2 h (omega arith))

module _ (mended : Bool) (b : List Bool) (at w : ℕ) (c : Call) where
  abbrev Paired : Option (Call × ℕ) → Type 0
  Paired r = Onto b c 4 (read_pair mended w (drop at b)) r

  pub no_digit : taken_at b at 1 ≡ None → (r : Option (Call × ℕ)) → r ≡ None → Paired r
  no_digit e r q = onto_nothing b c 4 _ r (pair_short mended w (drop at b) (told_short b at 1 e)) q

  module _ (d p : ℕ) (e : taken_at b at 1 ≡ Some (d, p)) where
    pub no_number : took_wide mended w b p ≡ None → (r : Option (Call × ℕ)) → r ≡ None → Paired r
    no_number f r q = onto_nothing b c 4 _ r (pair_bare mended w (drop at b) d (drop p b) (told_bits b at 1 d p e) (told_wide_short b p w mended f)) q

    pub with_pair : (v q : ℕ) → took_wide mended w b p ≡ Some (v, q)
        → (x y : Call) → x ≡ pushed c (49 + d) → y ≡ appended x (suffix v) → x.len ≡ c.len + 1 → y.len ≤ x.len + 3
        → Paired (Some (y, q))
    unfolding appended
    with_pair v q f x y g h k l =
        onto_next b c 4 _ ((49 + d) ∷ suffix v) q y
        (pair_whole mended w (drop at b) d (drop p b) (told_bits b at 1 d p e) v (drop q b) (told_wide b p w mended v q f))
        (h ∙ ap (λ (z : Call). appended z (suffix v)) g)
        (omega arith)

module _ (b : List Bool) (at low w : ℕ) (c : Call) where
  abbrev Numbers : Option (Call × ℕ) → Type 0
  Numbers r = Onto b c 2 (read_number low w (drop at b)) r

  pub number_none : taken_at b at w ≡ None → (r : Option (Call × ℕ)) → r ≡ None → Numbers r
  number_none e r q = onto_nothing b c 2 _ r (number_short w (drop at b) low (told_short b at w e)) q

  pub number_some : (v q : ℕ) → taken_at b at w ≡ Some (v, q) → (d : Call) → d ≡ appended c (two_digits (v + low)) → d.len ≡ c.len + 2
      → Numbers (Some (d, q))
  number_some v q e d h l =
      onto_next b c 2 _ (two_digits (v + low)) q d (number_whole w (drop at b) low v (drop q b) (told_bits b at w v q e)) h (omega arith)
