-- `kiss::summary` meets its contract.
-- Assumes nothing.
use Rattle.refusals.specs.declared.Refusal.TheVariants as refusal
use Rattle.refusals.proofs.OutcomeLaws.{exit_missing}
use borrow.Author.Rules.{rules}
use mathlib.Core.Path.{sym, ap, ◌∙◌}
use Rattle.ax25_address.specs.Record.{found_of}
use Rattle.kiss.proofs.SummaryLaws.{no_command, too_long, of_generic, of_short, of_found}
use Rattle.kiss.proofs.summaries.summary.Goals as goal

pub returns-then-command-gt2 : goal.returns-then-command-gt2
returns-then-command-gt2 c =
    let a = c.args in
    no_command a.command a.«data».now c.if-command-gt2.true

pub returns-then-data-gt-MAX_DATA : goal.returns-then-data-gt-MAX_DATA
returns-then-data-gt-MAX_DATA c =
    let a = c.args in
    too_long a.command a.«data».now c.if-command-gt2.false c.if-data-gt-MAX_DATA.true

pub returns-then-command-eq2 : goal.returns-then-command-eq2
returns-then-command-eq2 c =
    let a = c.args in
    of_generic a.command a.«data».now c.if-command-gt2.false c.if-data-gt-MAX_DATA.false c.if-command-eq2.true

pub returns-in_err-found : goal.returns-in_err-found
returns-in_err-found c =
    let a = c.args in
    let p = sym c.parse.ensures ∙ ap found_of c.in_err-found.ensures.ok_part in
    rw (exit_missing refusal.Short c.in_err-found.ensures.value c.in_err-found.ensures.ok_part _ c.from_residual.ensures.1)
    (of_short a.command a.«data».now c.if-command-gt2.false c.if-data-gt-MAX_DATA.false c.if-command-eq2.false p)

pub returns : goal.returns
returns c =
    let a = c.args in
    let p = sym c.parse.ensures ∙ ap found_of c.in_ok-found.ensures.ok_part in
    of_found a.command a.«data».now c.if-command-gt2.false c.if-data-gt-MAX_DATA.false c.if-command-eq2.false _ _ p c.ui_control.ensures
