-- `texts::say::command_of` meets its contract, test by test.
-- Assumes nothing.
use mathlib.Core.Path.{◌∙◌}
use native.Mathlib.Omega.{arith}
use Rattle.std.specs.Cmp.Lexicographic.{same_text}
use Rattle.texts.proofs.SayLaws.{command_ax25, command_long, command_generic, command_none, other_word, named_some, named_none}
use Rattle.texts.proofs.say.command_of.Goals as goal

pub returns-then-eq : goal.returns-then-eq
returns-then-eq c =
    let w = c.args.word.now in
    named_some w 0 (command_ax25 w (same_text w c.as_slice.result.now c.if-eq.ensures ∙ c.as_slice.ensures)) (omega arith)

pub returns-then-eq-2 : goal.returns-then-eq-2
returns-then-eq-2 c =
    let w = c.args.word.now in
    let no_ax25 = other_word w c.as_slice.result.now c.as_slice.ensures c.if-eq.ensures in
    let text = c.as_slice-else-eq in
    named_some w 1 (command_long w no_ax25 (same_text w text.result.now c.if-eq-2.ensures ∙ text.ensures)) (omega arith)

pub returns-then-eq-3 : goal.returns-then-eq-3
returns-then-eq-3 c =
    let w = c.args.word.now in
    let no_ax25 = other_word w c.as_slice.result.now c.as_slice.ensures c.if-eq.ensures in
    let no_long = other_word w c.as_slice-else-eq.result.now c.as_slice-else-eq.ensures c.if-eq-2.ensures in
    let text = c.as_slice-else-eq-2 in
    named_some w 2 (command_generic w no_ax25 no_long (same_text w text.result.now c.if-eq-3.ensures ∙ text.ensures)) (omega arith)

pub returns-else-eq-3 : goal.returns-else-eq-3
returns-else-eq-3 c =
    let w = c.args.word.now in
    let no_ax25 = other_word w c.as_slice.result.now c.as_slice.ensures c.if-eq.ensures in
    let no_long = other_word w c.as_slice-else-eq.result.now c.as_slice-else-eq.ensures c.if-eq-2.ensures in
    let no_generic = other_word w c.as_slice-else-eq-2.result.now c.as_slice-else-eq-2.ensures c.if-eq-3.ensures in
    named_none w 3 (command_none w no_ax25 no_long no_generic) (omega arith)
