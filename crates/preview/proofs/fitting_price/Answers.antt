-- `preview::fitting_price` meets its contract.
-- Assumes nothing.
use mathlib.Core.Path.{sym, ◌∙◌}
use borrow.Author.Tests.{not-true, not-false}
use Rattle.refusals.proofs.OutcomeLaws.{exit_is}
use Rattle.preview.proofs.FittingLaws.{no_count, no_mask, no_room, costs}
use Rattle.preview.proofs.fitting_price.Goals as goal

pub returns-in_err-count : goal.returns-in_err-count
returns-in_err-count c =
    let a = c.args in
    exit_is _ _ c.from_residual.ensures.1 ∙ no_count a.length a.field a.mask c.requires _ c.in_err-count.ensures

pub returns-then-not-mask_ok : goal.returns-then-not-mask_ok
returns-then-not-mask_ok c =
    let a = c.args in
    no_mask a.length a.field a.mask c.requires _ c.in_ok-count.ensures (sym c.mask_ok.ensures ∙ c.if-not-mask_ok.true)

pub returns-then-room-count : goal.returns-then-room-count
returns-then-room-count c =
    let a = c.args in
    no_room a.length a.field a.mask c.requires _ c.in_ok-count.ensures (sym c.mask_ok.ensures ∙ c.if-not-mask_ok.false) c.if-room-count.true

pub returns : goal.returns
returns c =
    let a = c.args in
    costs a.length a.field a.mask c.requires _ c.in_ok-count.ensures (sym c.mask_ok.ensures ∙ c.if-not-mask_ok.false) c.if-room-count.false
