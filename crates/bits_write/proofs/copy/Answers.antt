-- `bits_write::copy` meets its contract: what has no room is not stored.
-- Assumes nothing.
use native.Mathlib.Omega.{arith}
use mathlib.Core.Path.{◌≡◌, refl, sym, ap, ◌∙◌}
use mathlib.Core.List.{List}
use Prim.Native.Nat.{ℕ, ◌-◌, ◌≤◌, min}
use lib.ListN.{length, take}
use lib.Seq.{sets, take_all}
use Rattle.laws.proofs.Cases.{by_le}
use Rattle.laws.proofs.ListLaws.{sets_out, sets_clip}
use Rattle.bits_write.proofs.copy.Goals as goal
use Rattle.bits_write.proofs.copy.Goals.{then-at-out, else-at-out}

-- what has no room is not stored
clipped : (out : List ℕ) (at : ℕ) (src : List ℕ) → at ≤ length out → sets out at (take (min (length src) (length out - at)) src) ≡ sets out at src
clipped out at src h =
    by_le (length src) (length out - at)
    (λ p. ap (sets out at) (take_all (min (length src) (length out - at)) src (omega arith)))
    (λ p. sets_clip out at (min (length src) (length out - at)) src (omega arith) (omega arith))

pub returns : goal.returns
returns c =
    let a = c.args in
    let out = a.out.now in
    let src = a.src.now in
    record {
      stored =
          elim c.if-at-out.branch [
            | then-at-out w ↦
                w.out-is ∙ w.copy_all.ensures ∙ ap (λ (n : ℕ). sets out a.at (take n src)) w.min.ensures ∙ clipped out a.at src (omega arith)
            | else-at-out w ↦ w.out-is ∙ sym (sets_out out a.at src w.if-at-out.false)
          ];
      next_is = refl;
    }
