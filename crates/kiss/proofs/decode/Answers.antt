-- `kiss::decode` meets its contract.
-- Assumes nothing.
use native.Mathlib.Omega.{arith}
use mathlib.Core.Path.{sym, ap, ◌∙◌}
use Rattle.refusals.specs.Outcome.{Outcome}
use Rattle.kiss.specs.Codec.{Decoded}
use Rattle.kiss.specs.Told.{decode_into}
use Rattle.kiss.proofs.TellLaws.{tell_refused}
use Rattle.kiss.proofs.DecodeLaws.{too_long, of_empty, of_three, of_two, of_other}
use Rattle.kiss.proofs.decode.Goals as goal

pub returns-then-message-gt-MAX_MESSAGE : goal.returns-then-message-gt-MAX_MESSAGE
returns-then-message-gt-MAX_MESSAGE c =
    let a = c.args in
    tell_refused (λ d. d.bytes) (λ d. d.command) a.out.now 2 (too_long a.mended a.message.now c.if-message-gt-MAX_MESSAGE.true)

pub returns-then-message-eq0 : goal.returns-then-message-eq0
returns-then-message-eq0 c =
    let a = c.args in
    tell_refused (λ d. d.bytes) (λ d. d.command) a.out.now 7 (of_empty a.mended a.message.now c.if-message-eq0.true)

pub returns-then-command-eq3 : goal.returns-then-command-eq3
returns-then-command-eq3 c =
    let a = c.args in
    tell_refused (λ d. d.bytes) (λ d. d.command) a.out.now 7 (of_three a.mended a.message.now c.if-message-gt-MAX_MESSAGE.false c.if-message-eq0.false c.if-command-eq3.true)

pub returns-then-command-eq2 : goal.returns-then-command-eq2
returns-then-command-eq2 c =
    let a = c.args in
    let e = of_two a.mended a.message.now c.if-message-gt-MAX_MESSAGE.false c.if-message-eq0.false (λ e. omega (arith, e)) c.if-command-eq2.true in
    c.decode_generic.ensures ∙ ap (λ (o : Outcome Decoded). decode_into o a.out.now) (sym e)

pub returns : goal.returns
returns c =
    let a = c.args in
    let e = of_other a.mended a.message.now c.if-message-gt-MAX_MESSAGE.false c.if-message-eq0.false (λ e. omega (arith, e)) c.if-command-eq2.false in
    c.decode_frame.ensures ∙ ap (λ (o : Outcome Decoded). decode_into o a.out.now) (sym e)
