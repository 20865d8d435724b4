-- `sender::fragment` meets its contract.
-- Assumes nothing.
use native.Mathlib.Omega.{arith}
use mathlib.Core.Bool.{true}
use mathlib.Core.Path.{◌≡◌, sym, ◌∙◌}
use Rattle.refusals.specs.Limits.{field_ok, mask_ok}
use Rattle.refusals.proofs.OutcomeLaws.{exit_is, into_refuses}
use Rattle.sender.proofs.SendLaws.{field_accepted, send_field, send_mask, send_empty, send_long, send_high}
use Rattle.sender.proofs.fragment.Goals as goal

pub returns-in_err-field : goal.returns-in_err-field
returns-in_err-field c =
    let a = c.args in
    let e = c.in_err-field.ensures.refused in
    rw (exit_is _ _ c.from_residual.ensures.1, e.0) (into_refuses a.out.now 8 (send_field a.message.now a.field a.mask a.k e.1))

pub returns-then-not-mask_ok : goal.returns-then-not-mask_ok
returns-then-not-mask_ok c =
    let a = c.args in
    let made = c.in_ok-field.ensures.made in
    let field_good : field_ok c.args.field ≡ true = field_accepted a.field (omega (arith, made)) (omega (arith, made)) in
    into_refuses a.out.now 9
    (send_mask a.message.now a.field a.mask a.k field_good (sym c.mask_ok.ensures ∙ c.if-not-mask_ok.true))

pub returns-then-len-eq0 : goal.returns-then-len-eq0
returns-then-len-eq0 c =
    let a = c.args in
    let made = c.in_ok-field.ensures.made in
    let field_good : field_ok c.args.field ≡ true = field_accepted a.field (omega (arith, made)) (omega (arith, made)) in
    let mask_good : mask_ok c.args.mask ≡ true = sym c.mask_ok.ensures ∙ c.if-not-mask_ok.false in
    into_refuses a.out.now 10
    (send_empty a.message.now a.field a.mask a.k field_good mask_good c.if-len-eq0.true)

pub returns-then-len-gt-MAX_MESSAGE : goal.returns-then-len-gt-MAX_MESSAGE
returns-then-len-gt-MAX_MESSAGE c =
    let a = c.args in
    let made = c.in_ok-field.ensures.made in
    let field_good : field_ok c.args.field ≡ true = field_accepted a.field (omega (arith, made)) (omega (arith, made)) in
    let mask_good : mask_ok c.args.mask ≡ true = sym c.mask_ok.ensures ∙ c.if-not-mask_ok.false in
    into_refuses a.out.now 2
    (send_long a.message.now a.field a.mask a.k field_good mask_good c.if-len-gt-MAX_MESSAGE.true)

pub returns-then-message-ge128 : goal.returns-then-message-ge128
returns-then-message-ge128 c =
    let a = c.args in
    let made = c.in_ok-field.ensures.made in
    let field_good : field_ok c.args.field ≡ true = field_accepted a.field (omega (arith, made)) (omega (arith, made)) in
    let mask_good : mask_ok c.args.mask ≡ true = sym c.mask_ok.ensures ∙ c.if-not-mask_ok.false in
    into_refuses a.out.now 11
    (send_high a.message.now a.field a.mask a.k field_good mask_good (omega arith) c.if-len-gt-MAX_MESSAGE.false c.if-message-ge128.true)
