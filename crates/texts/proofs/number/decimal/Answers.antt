-- `texts::number::decimal` meets its contract. The number so far, with the rest after it, is that of the whole.
-- Assumes nothing.
use mathlib.Core.Path.{sym, ◌∙◌}
use lib.ListN.{length}
use borrow.Author.Tests.{eqb-true, eqb-false}
use Rattle.texts.proofs.NumberLaws.{decimal_none, decimal_some, number_end, number_none, number_next}
use Rattle.texts.proofs.number.decimal.Goals as goal

pub returns-then-is_empty : goal.returns-then-is_empty
returns-then-is_empty c =
    decimal_none _ (eqb-true (length c.args.text.now) 0 (sym c.is_empty.ensures ∙ c.if-is_empty.true))

pub returns-in_err-v : goal.returns-in_err-v
returns-in_err-v c =
    let some = eqb-false (length c.args.text.now) 0 (sym c.is_empty.ensures ∙ c.if-is_empty.false) in
    let stop = number_none _ _ _ c.loop-c-test.true (sym c.in_err-v.was ∙ c.with_digit.ensures) in
    c.from_residual.ensures ∙ sym stop ∙ c.loop-c.invariant ∙ decimal_some _ some

pub loop-c-preserved : goal.loop-c-preserved
loop-c-preserved c =
    number_next _ _ _ c.loop-c-test.true _ (sym c.in_ok-v.was ∙ c.with_digit.ensures) ∙ c.loop-c.invariant

pub returns : goal.returns
returns c =
    let some = eqb-false (length c.args.text.now) 0 (sym c.is_empty.ensures ∙ c.if-is_empty.false) in
    sym (number_end _ _ _ c.loop-c-test.false) ∙ c.loop-c.invariant ∙ decimal_some _ some
