-- `kiss::coded_length` meets its contract.
-- Assumes nothing.
use mathlib.Core.Path.{sym, ap, ◌∙◌}
use Rattle.refusals.specs.Outcome.{answer}
use Rattle.kiss.specs.Told.{length_of}
use Rattle.kiss.proofs.EncodeLaws.{no_command, data_long, of_generic, of_frame}
use borrow.Author.Rules.{rules}
use Rattle.kiss.proofs.lengths.coded_length.Goals as goal

pub returns-then-command-gt2 : goal.returns-then-command-gt2
returns-then-command-gt2 c =
    let a = c.args in
    ap length_of (sym (no_command a.command a.«data».now c.if-command-gt2.true))

pub returns-then-data-gt-MAX_DATA : goal.returns-then-data-gt-MAX_DATA
returns-then-data-gt-MAX_DATA c =
    let a = c.args in
    ap length_of (sym (data_long a.command a.«data».now c.if-command-gt2.false c.if-data-gt-MAX_DATA.true))

pub returns-then-command-eq2 : goal.returns-then-command-eq2
returns-then-command-eq2 c =
    let a = c.args in
    let e = of_generic a.command a.«data».now c.if-command-gt2.false c.if-data-gt-MAX_DATA.false c.if-command-eq2.true in
    ap answer c.generic_length.ensures ∙ ap length_of (sym e)

pub returns : goal.returns
returns c =
    let a = c.args in
    let e = of_frame a.command a.«data».now c.if-command-gt2.false c.if-data-gt-MAX_DATA.false c.if-command-eq2.false in
    c.frame_length.ensures ∙ ap length_of (sym e)
