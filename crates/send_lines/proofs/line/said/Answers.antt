-- `send_lines::line::said` meets its contract, test by test.
-- Assumes nothing.
use mathlib.Core.Path.{refl, sym, ◌∙◌}
use lib.ListN.{length}
use borrow.Author.Tests.{eqb-true, eqb-false}
use Rattle.std.specs.Cmp.Lexicographic.{same_text}
use Rattle.laws.proofs.WroteLaws.{wrote_none}
use Rattle.texts.proofs.SayLaws.{other_word, named_is, named_not}
use Rattle.send_lines.specs.Line.{is_price}
use Rattle.send_lines.proofs.LineLaws.{line_none, line_text_lem, line_unknown, line_spelled}
use Rattle.send_lines.proofs.line.said.Goals as goal

pub returns-then-is_empty : goal.returns-then-is_empty
returns-then-is_empty c =
    let empty = eqb-true (length c.args.line.now) 0 (sym c.is_empty.ensures ∙ c.if-is_empty.true) in
    rw (line_none _ _ _ _ _ empty) wrote_none

pub returns-then-eq : goal.returns-then-eq
returns-then-eq c =
    let a = c.args in
    let some = eqb-false (length a.line.now) 0 (sym c.is_empty.ensures ∙ c.if-is_empty.false) in
    let word = c.piece-word.result.now in
    rw (line_text_lem (is_price a.job.task) a.job.field a.job.mask a.number a.line.now some word _ c.piece-word.ensures c.rest-text.ensures
    (same_text word c.as_slice.result.now c.if-eq.ensures ∙ c.as_slice.ensures))
    c.of_data.ensures

pub returns-in-Some : goal.returns-in-Some
returns-in-Some c =
    let a = c.args in
    let some = eqb-false (length a.line.now) 0 (sym c.is_empty.ensures ∙ c.if-is_empty.false) in
    let word = c.piece-word.result.now in
    let other = other_word word c.as_slice.result.now c.as_slice.ensures c.if-eq.ensures in
    let known = named_is word c.in-Some.command (sym c.in-Some.is ∙ c.command_of.ensures) in
    rw (line_spelled (is_price a.job.task) a.job.field a.job.mask a.number a.line.now some word _ c.piece-word.ensures c.rest-text.ensures other _ known.0 known.1)
    c.spelled.ensures

pub returns-in-None : goal.returns-in-None
returns-in-None c =
    let a = c.args in
    let some = eqb-false (length a.line.now) 0 (sym c.is_empty.ensures ∙ c.if-is_empty.false) in
    let word = c.piece-word.result.now in
    let other = other_word word c.as_slice.result.now c.as_slice.ensures c.if-eq.ensures in
    let unknown = named_not word (sym c.in-None.is ∙ c.command_of.ensures) in
    rw (line_unknown (is_price a.job.task) a.job.field a.job.mask a.number a.line.now some word _ c.piece-word.ensures c.rest-text.ensures other _ refl unknown)
    c.put_error.ensures
