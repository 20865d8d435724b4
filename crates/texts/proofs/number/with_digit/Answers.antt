-- `texts::number::with_digit` meets its contract.
-- Assumes nothing.
use mathlib.Core.Path.{◌≡◌, sym, ◌∙◌}
use Prim.Native.Nat.{◌*◌}
use native.Mathlib.Omega.{arith}
use Rattle.laws.specs.Text.{between, is_digit}
use Rattle.texts.proofs.NumberLaws.{number_other, number_wide, number_added}
use Rattle.texts.proofs.number.with_digit.Goals as goal

pub returns-then-not-is_ascii_digit : goal.returns-then-not-is_ascii_digit
unfolding is_digit between
returns-then-not-is_ascii_digit c =
    number_other _ _ (sym c.is_ascii_digit.ensures.value ∙ c.if-not-is_ascii_digit.true)

pub returns-in_err-checked_mul : goal.returns-in_err-checked_mul
unfolding is_digit between
returns-in_err-checked_mul c =
    let wide = c.in_err-checked_mul.ensures in
    c.from_residual.ensures
    ∙ number_wide c.args.v c.args.c (sym c.is_ascii_digit.ensures.value ∙ c.if-not-is_ascii_digit.false) (omega (arith, c.in_err-checked_mul.ensures))

pub returns : goal.returns
unfolding is_digit between
returns c =
    let w : c.in_ok-checked_mul.field-0 ≡ c.args.v * 10 = omega (arith, c.in_ok-checked_mul.ensures) in
    number_added c.args.v c.args.c (sym c.is_ascii_digit.ensures.value ∙ c.if-not-is_ascii_digit.false) _ _ _ w c.from.ensures c.checked_add.ensures
