-- `preview::preview` meets its contract.
-- Assumes nothing.
use mathlib.Core.Path.{◌∙◌}
use Rattle.refusals.proofs.OutcomeLaws.{exit_is}
use Rattle.preview.proofs.PreviewLaws.{preview_length, preview_refused}
use Rattle.preview.proofs.preview.Goals as goal

pub returns-in_err-length : goal.returns-in_err-length
returns-in_err-length c =
    let a = c.args in
    exit_is _ _ c.from_residual.ensures.1 ∙ preview_refused a.command a.«data».now a.field a.mask _ c.in_err-length.ensures

pub fitting_price-requires : goal.fitting_price-requires
fitting_price-requires c =
    let a = c.args in
    (preview_length a.command a.«data».now a.field a.mask _ c.in_ok-length.ensures).0

pub returns : goal.returns
returns c =
    let a = c.args in
    c.fitting_price.ensures ∙ (preview_length a.command a.«data».now a.field a.mask _ c.in_ok-length.ensures).1
