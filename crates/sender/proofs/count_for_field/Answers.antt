-- `sender::count_for_field` meets its contract.
-- Assumes nothing.
use native.Mathlib.Omega.{arith}
use mathlib.Core.Path.{sym, ap, ◌∙◌}
use Rattle.refusals.specs.Outcome.{refused, answer}
use Rattle.refusals.proofs.OutcomeLaws.{exit_is}
use Rattle.sender.specs.Send.{count_of}
use Rattle.sender.proofs.SendLaws.{field_accepted, count_field, count_long, count_answer}
use Rattle.sender.proofs.count_for_field.Goals as goal

pub returns-in_err-field : goal.returns-in_err-field
returns-in_err-field c =
    let a = c.args in
    let e = c.in_err-field.ensures.refused in
    exit_is _ _ c.from_residual.ensures.1 ∙ ap refused e.0 ∙ sym (count_field a.total a.field e.1)

pub returns-then-total-gt-MAX_MESSAGE : goal.returns-then-total-gt-MAX_MESSAGE
returns-then-total-gt-MAX_MESSAGE c =
    let a = c.args in
    let made = c.in_ok-field.ensures.made in
    sym (count_long a.total a.field (field_accepted a.field (omega (arith, made)) (omega (arith, made))) c.if-total-gt-MAX_MESSAGE.true)

pub returns : goal.returns
returns c =
    let a = c.args in
    let made = c.in_ok-field.ensures.made in
    ap answer (c.count.ensures ∙ ap (count_of a.total) made)
    ∙ sym (count_answer a.total a.field (field_accepted a.field (omega (arith, made)) (omega (arith, made))) c.if-total-gt-MAX_MESSAGE.false)
