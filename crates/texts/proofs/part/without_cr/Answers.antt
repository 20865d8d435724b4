-- `texts::part::without_cr` meets its contract.
-- Assumes nothing.
use mathlib.Core.Path.{◌≡◌}
use Prim.Native.Nat.{◌-◌}
use native.Mathlib.Omega.{arith}
use lib.ListN.{length, get_or}
use Rattle.texts.proofs.PartLaws.{cr_here, cr_none, cr_nothing}
use Rattle.texts.proofs.part.without_cr.Goals as goal

pub returns-in-13 : goal.returns-in-13
returns-in-13 c =
    let s = c.args.s.now in
    let some : length s ≡ 0 → ⊥ = λ e. omega (arith, c.in-13.len_at_least) in
    let e : get_or s (length s - 1) 0 ≡ 13 = omega arith in
    cr_here s some e

pub returns-in_default : goal.returns-in_default
returns-in_default c = cr_nothing c.args.s.now (omega arith)

pub returns-in_default-2 : goal.returns-in_default-2
returns-in_default-2 c =
    let s = c.args.s.now in
    let some : length s ≡ 0 → ⊥ = λ e. omega (arith, c.in_default.len_at_least) in
    let other : get_or s (length s - 1) 0 ≡ 13 → ⊥ = λ e. omega (arith, e) in
    cr_none s some other
