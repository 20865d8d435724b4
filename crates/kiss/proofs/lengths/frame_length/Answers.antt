-- `kiss::frame_length` meets its contract.
-- Assumes nothing.
use Rattle.refusals.specs.declared.Refusal.TheVariants as refusal
use Rattle.refusals.proofs.OutcomeLaws.{exit_missing}
use mathlib.Core.Path.{sym, ap, ◌∙◌}
use Rattle.ax25_address.specs.Record.{found_of}
use Rattle.ax25.specs.Encode.{encode_of}
use Rattle.kiss.specs.Told.{length_of}
use Rattle.kiss.proofs.EncodeLaws.{short_frame, run_length}
use borrow.Author.Rules.{rules}
use Rattle.kiss.proofs.lengths.frame_length.Goals as goal

pub returns-in_err-r : goal.returns-in_err-r
returns-in_err-r c =
    let a = c.args in
    rw (exit_missing refusal.Short c.in_err-r.ensures.value c.in_err-r.ensures.ok_part _ c.from_residual.ensures.1)
    (ap length_of (sym (short_frame a.command a.«data».now (sym (ap found_of c.in_err-r.ensures.ok_part) ∙ c.parse.ensures))))

pub encode-requires : goal.encode-requires
encode-requires c =
    (c.requires, sym (ap found_of c.in_ok-r.ensures.ok_part) ∙ c.parse.ensures)

pub returns : goal.returns
returns c =
    let d = c.encode in
    let a = c.args in
    run_length _ _ d.result (encode_of a.command a.«data».now) d.ensures
