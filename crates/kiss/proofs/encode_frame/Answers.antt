-- `kiss::encode_frame` meets its contract.
-- Assumes nothing.
use Rattle.refusals.specs.declared.Refusal.TheVariants as refusal
use Rattle.refusals.proofs.OutcomeLaws.{exit_missing}
use mathlib.Core.Path.{sym, ap, ◌∙◌}
use Rattle.ax25_address.specs.Record.{found_of}
use Rattle.kiss.proofs.EncodeLaws.{short_frame}
use Rattle.kiss.proofs.TellLaws.{tell_refused}
use borrow.Author.Rules.{rules}
use Rattle.kiss.proofs.encode_frame.Goals as goal

pub returns-in_err-r : goal.returns-in_err-r
returns-in_err-r c =
    let a = c.args in
    rw (exit_missing refusal.Short c.in_err-r.ensures.value c.in_err-r.ensures.ok_part _ c.from_residual.ensures.1)
    (tell_refused (λ x. x.bytes) (λ x. x.typ) a.out.now 3 (short_frame a.command a.«data».now (sym (ap found_of c.in_err-r.ensures.ok_part) ∙ c.parse.ensures)))

pub encode_found-requires : goal.encode_found-requires
encode_found-requires c =
    (c.requires, sym (ap found_of c.in_ok-r.ensures.ok_part) ∙ c.parse.ensures)
