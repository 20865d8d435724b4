-- `frame::fill` meets its contract: the marker and zeros up to the end, or nothing at the end.
-- Assumes nothing.
use mathlib.Core.Path.{◌≡◌, ap, ◌∙◌}
use mathlib.Core.List.{List}
use Prim.Native.Nat.{ℕ, suc, ◌+◌, ◌-◌, ◌≤◌}
use native.Mathlib.Omega.{arith}
use lib.ListN.{length, set, take, drop, replicate, length-replicate, length-set, length-drop}
use lib.Seq.{sets, length-take-le}
use borrow.Rule.Slice.PartMut.{put_mid}
use Rattle.laws.specs.Wrote.{Wrote}
use Rattle.laws.proofs.WroteLaws.{wrote_none}
use Rattle.frame.specs.Frame.{fill_of}
use Rattle.frame.proofs.PartLaws.{put_sets}
use Rattle.frame.proofs.fill.Goals as goal

no_fill : {b : List ℕ} {at end : ℕ} (marker : ℕ) → at ≤ end → end ≤ at → Wrote b at (fill_of (end - at) marker) b end
unfolding fill_of
no_fill {at = at} {end = end} marker f e =
    let z : end - at ≡ 0 = omega arith in
    let s : end ≡ at = omega arith in
    rw (z, s) wrote_none

-- the marker and n zeros, up to the end
filled : (b ys : List ℕ) (at n end marker : ℕ) → at + suc n ≡ end → end ≤ length b → ys ≡ replicate n 0
    → Wrote b at (fill_of (suc n) marker) (put_mid (at + 1) n (set b at marker) ys) end
unfolding fill_of
filled b ys at n end marker e h y =
    let zeros : List ℕ = replicate n 0 in
    let next : at + 1 ≡ suc at = omega arith in
    let size : length zeros ≡ n = length-replicate n 0 in
    record {
      stored = rw y (put_sets (at + 1) n (set b at marker) zeros size (omega (arith, length-set b at marker)) ∙ ap (λ (k : ℕ). sets (set b at marker) k zeros) next);
      next_is = omega arith;
    }

-- the part after the marker
size_part : (b : List ℕ) (at marker n : ℕ) → at + 1 + n ≤ length b → length (take n (drop (at + 1) (set b at marker))) ≡ n
size_part b at marker n h = length-take-le n (drop (at + 1) (set b at marker)) (omega (arith, length-drop (at + 1) (set b at marker), length-set b at marker))

pub returns-then-at-end : goal.returns-then-at-end
returns-then-at-end c =
    let a = c.args in
    let n : a.end - a.at ≡ suc (a.end - (a.at + 1)) = omega arith in
    let part : length (take (a.end - (a.at + 1)) (drop (a.at + 1) (set a.out.now a.at a.marker))) ≡ a.end - (a.at + 1) = size_part a.out.now a.at a.marker (a.end - (a.at + 1)) (omega arith) in
    rw n (filled a.out.now c.fill.new.self a.at (a.end - (a.at + 1)) a.end a.marker (omega arith) c.requires.1 (c.fill.ensures.after (λ y e. e) ∙ ap (λ (k : ℕ). replicate k 0) part))

pub returns-else-at-end : goal.returns-else-at-end
returns-else-at-end c = no_fill c.args.marker c.requires.0 c.if-at-end.false
