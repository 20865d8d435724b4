-- `kept::copy_out` meets its contract.
-- Assumes nothing.
use mathlib.Core.Path.{◌≡◌, ap, ◌∙◌}
use Prim.Native.Nat.{ℕ, ◌+◌, ◌-◌, ◌*◌}
use native.Mathlib.Omega.{arith}
use lib.ListN.{take, drop}
use Rattle.kept.proofs.copy_out.Goals as goal

pub returns : goal.returns
returns c =
    let at = c.args.i * 5000 in
    let z : at + 5000 - at ≡ 5000 = omega arith in
    c.copy_from_slice.ensures.after ∙ ap (λ (k : ℕ). take k (drop at c.args.lent.now)) z
