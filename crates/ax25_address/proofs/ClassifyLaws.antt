-- The tests of the type: the scans step by step.
-- Assumes nothing.
use mathlib.Core.Path.{◌≡◌, ap₂, ◌∙◌}
use mathlib.Core.Bool.{true, false, ◌||◌}
use mathlib.Core.List.{List}
use Prim.Native.Nat.{ℕ, ◌+◌, ◌/◌, ◌≤◌, ◌<◌}
use native.Mathlib.Numerals.{add-one}
use native.Mathlib.Omega.{arith}
use lib.ListN.{length, get_or, drop, drop_of_length-le}
use lib.Seq.{drop-cons}
use lib.Bits.{bit_or, or_shr}
use lib.Dec.{leb, eqb}
use borrow.Author.Tests.{le-leb, lt-leb}
use Rattle.laws.specs.Pick.{pick}
use Rattle.laws.proofs.Cases.{by_test, by_le}
use Rattle.ax25_address.specs.Classify.{any_high, stops_at, ends_at, tally, scan_third}

-- ---- one bit of two bytes together

pub or_high : (a b : ℕ) → a < 256 → b < 256 → leb 0x80 (bit_or a b) ≡ (leb 0x80 a || leb 0x80 b)
or_high a b ha hb =
    by_le 0x80 a
    (λ p. by_le 0x80 b
    (λ q. let t = top 1 1 (omega arith) (omega arith) in rw (le-leb 0x80 a p, le-leb 0x80 (bit_or a b) (omega (arith, t))))
    (λ q. let t = top 1 0 (omega arith) (omega arith) in rw (le-leb 0x80 a p, le-leb 0x80 (bit_or a b) (omega (arith, t)))))
    (λ p. by_le 0x80 b
    (λ q. let t = top 0 1 (omega arith) (omega arith) in rw (lt-leb 0x80 a p, le-leb 0x80 b q, le-leb 0x80 (bit_or a b) (omega (arith, t))))
    (λ q. let t = top 0 0 (omega arith) (omega arith) in rw (lt-leb 0x80 a p, lt-leb 0x80 b q, lt-leb 0x80 (bit_or a b) (omega (arith, t)))))
  where
    top : (x y : ℕ) → a / 0x80 ≡ x → b / 0x80 ≡ y → bit_or a b / 0x80 ≡ bit_or x y
    top x y e f = or_shr a b 7 ∙ ap₂ bit_or e f

-- ---- from a place on

module _ (d : List ℕ) (i : ℕ) where
  pub high_end : length d ≤ i → any_high (drop i d) ≡ false
  unfolding any_high
  high_end h = rw (drop_of_length-le d h)

  pub high_at : i < length d → any_high (drop i d) ≡ (leb 0x80 (get_or d i 0) || any_high (drop (i + 1) d))
  unfolding any_high
  high_at h = rw (drop-cons d i 0 h, add-one i)

  module _ (gt comma : ℕ) where
    pub scan_end : length d ≤ i → scan_third gt comma (drop i d) ≡ false
    unfolding scan_third
    scan_end h = rw (drop_of_length-le d h)

    pub scan_at : i < length d
        → scan_third gt comma (drop i d)
        ≡ pick (stops_at comma (get_or d i 0) (drop (i + 1) d)) false
        (pick (ends_at gt comma (get_or d i 0) (drop (i + 1) d)) true
        (scan_third (tally gt (get_or d i 0) 0x3E) (tally comma (get_or d i 0) 0x2C) (drop (i + 1) d)))
    unfolding scan_third
    scan_at h = rw (drop-cons d i 0 h, add-one i)

-- a count that is at most the place stays so
pub tally_le : (n x c i : ℕ) → n ≤ i → tally n x c ≤ i + 1
unfolding tally pick
tally_le n x c i h = by_test (eqb x c) (λ t. rw t (omega arith)) (λ t. rw t (omega arith))
