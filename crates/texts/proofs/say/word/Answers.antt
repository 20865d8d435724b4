-- `texts::say::word` meets its contract, number by number.
-- Assumes nothing.
use mathlib.Core.Path.{sym}
use native.Mathlib.Omega.{arith}
use Rattle.laws.specs.Pick.{pick}
use Rattle.texts.specs.Part.{piece_of, before, behind}
use Rattle.texts.specs.Say.{word_of}
use Rattle.texts.proofs.SayLaws.{word_past}
use Rattle.texts.proofs.say.word.Goals as goal

pub returns-in-0 : goal.returns-in-0
unfolding word_of piece_of before behind pick
returns-in-0 c = rw c.in-0.is

pub returns-in-1 : goal.returns-in-1
unfolding word_of piece_of before behind pick
returns-in-1 c = rw c.in-1.is

pub returns-in-2 : goal.returns-in-2
unfolding word_of piece_of before behind pick
returns-in-2 c = rw c.in-2.is

pub returns-in_default : goal.returns-in_default
returns-in_default c = sym (word_past c.args.command (omega arith))
