-- `ax25_aprs::words::word_from` meets its contract: a word has the marks of its first two letters.
-- Assumes nothing.
use native.Mathlib.Omega.{arith}
use lib.ListN.{drop, length-drop}
use Rattle.ax25_aprs.specs.Openings.{first_marks, second_marks, both_marked}
use Rattle.ax25_aprs.proofs.WordLaws.{unmarked, none_short}
use Rattle.ax25_aprs.proofs.words.word_from.Goals as goal

pub returns-then-s-i : goal.returns-then-s-i
returns-then-s-i c =
    let a = c.args in
    let s = a.s.now in
    none_short (drop a.i s) (omega (arith, length-drop a.i s, c.if-s-i.true))

pub returns : goal.returns
unfolding both_marked first_marks second_marks
returns c =
    let a = c.args in
    unmarked a.s.now a.i (rw (← c.has_mark.ensures, ← c.has_mark-2.ensures) c.if-has_mark.false)
