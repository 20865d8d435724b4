-- `kiss::encode` meets its contract.
-- Assumes nothing.
use mathlib.Core.Path.{sym, ap, ◌∙◌}
use Rattle.refusals.specs.Outcome.{Outcome}
use Rattle.ax25.specs.Encode.{Coded}
use Rattle.kiss.specs.Told.{code_into}
use Rattle.kiss.proofs.EncodeLaws.{no_command, data_long, of_generic, of_frame}
use Rattle.kiss.proofs.TellLaws.{tell_refused}
use native.Mathlib.Omega.{arith}
use Rattle.kiss.proofs.encode.Goals as goal

pub returns-then-command-gt2 : goal.returns-then-command-gt2
returns-then-command-gt2 c =
    let a = c.args in
    tell_refused (λ x. x.bytes) (λ x. x.typ) a.out.now 1 (no_command a.command a.«data».now (omega arith))

pub returns-then-data-gt-MAX_DATA : goal.returns-then-data-gt-MAX_DATA
returns-then-data-gt-MAX_DATA c =
    let a = c.args in
    tell_refused (λ x. x.bytes) (λ x. x.typ) a.out.now 2 (data_long a.command a.«data».now (omega arith) (omega arith))

pub returns-then-command-eq2 : goal.returns-then-command-eq2
returns-then-command-eq2 c =
    let a = c.args in
    let e = of_generic a.command a.«data».now (omega arith) (omega arith) c.if-command-eq2.true in
    c.encode_generic.ensures ∙ ap (λ (o : Outcome Coded). code_into o a.out.now) (sym e)

pub returns : goal.returns
returns c =
    let a = c.args in
    let e = of_frame a.command a.«data».now (omega arith) (omega arith) c.if-command-eq2.false in
    c.encode_frame.ensures ∙ ap (λ (o : Outcome Coded). code_into o a.out.now) (sym e)
