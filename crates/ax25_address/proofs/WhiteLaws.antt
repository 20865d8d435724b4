-- Trimming from the end byte by byte, and from both ends.
-- Assumes nothing.
use mathlib.Core.Path.{◌≡◌, sym, ap, ◌∙◌}
use mathlib.Core.Bool.{Bool, true, false}
use mathlib.Core.List.{List}
use Prim.Native.Nat.{ℕ, suc, ◌+◌, ◌-◌, ◌<◌}
use native.Mathlib.Omega.{arith}
use lib.ListN.{length, get_or, take, drop}
use lib.Seq.{take-suc}
use Rattle.laws.specs.Pick.{pick}
use Rattle.laws.specs.Text.{trim_front, trim_end, trim}
use Rattle.laws.proofs.ListLaws.{from_place}
use Rattle.laws.proofs.TrimLaws.{end_on, end_here}
use Rattle.ax25_address.specs.Address.{white, blank, white_in}

-- ---- byte by byte from the end

module _ (w : ℕ → Bool) (s : List ℕ) (i : ℕ) (h : i < length s) where
  pub right_more : w (get_or s i 0) ≡ true → trim_end w (take (suc i) s) ≡ trim_end w (take i s)
  right_more e = rw (take-suc s i 0 h) (end_on w (take i s) (get_or s i 0) e)

  pub right_here : w (get_or s i 0) ≡ false → trim_end w (take (suc i) s) ≡ take (suc i) s
  right_here e = rw (take-suc s i 0 h) (end_here w (take i s) (get_or s i 0) e)

-- ---- both ends

-- `&s[a..a + e]` with the answers of `front`, and of `end` over `&s[a..]`
part_trimmed : (w : ℕ → Bool) (s : List ℕ) (a e : ℕ) → drop a s ≡ trim_front w s → take e (take (length s - a) (drop a s)) ≡ trim_end w (take (length s - a) (drop a s))
    → take (a + e - a) (drop a s) ≡ trim w s
unfolding trim
part_trimmed w s a e f g =
    let k : a + e - a ≡ e = omega arith in
    rw k (ap (take e) (sym (from_place s a)) ∙ g ∙ ap (trim_end w) (from_place s a ∙ f))

module _ (s : List ℕ) (a e : ℕ) where
  pub call_trimmed : drop a s ≡ trim_front (white_in true) s → take e (take (length s - a) (drop a s)) ≡ trim_end (white_in true) (take (length s - a) (drop a s))
      → take (a + e - a) (drop a s) ≡ trim white s
  unfolding pick
  call_trimmed = part_trimmed white s a e

  pub height_trimmed : drop a s ≡ trim_front (white_in false) s → take e (take (length s - a) (drop a s)) ≡ trim_end (white_in false) (take (length s - a) (drop a s))
      → take (a + e - a) (drop a s) ≡ trim blank s
  unfolding pick
  height_trimmed = part_trimmed blank s a e
