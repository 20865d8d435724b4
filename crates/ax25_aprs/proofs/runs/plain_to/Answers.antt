-- `ax25_aprs::runs::plain_to` meets its contract: the bytes before the place are plain.
-- Assumes nothing.
use native.Mathlib.Omega.{arith}
use mathlib.Core.Path.{sym, ◌∙◌}
use lib.ListN.{drop}
use Rattle.ax25_aprs.proofs.RunLaws.{run_high, run_word, run_next}
use Rattle.ax25_aprs.proofs.WordLaws.{spells_some, spells_none}
use Rattle.ax25_aprs.proofs.runs.plain_to.Goals as goal
use Rattle.ax25_aprs.proofs.runs.plain_to.Goals.{then-s-i-ge128-via-then-s-i-ge128, then-s-i-ge128-via-else-s-i-ge128+then-is_some}

pub returns-then-s-i-ge128 : goal.returns-then-s-i-ge128
returns-then-s-i-ge128 c =
    let s = c.args.s.now in
    let i = c.loop-i.i in
    elim c.then-s-i-ge128.branch [
      | then-s-i-ge128-via-then-s-i-ge128 w ↦ omega (arith, c.loop-i.invariant, run_high s i w.if-s-i-ge128.true)
      | then-s-i-ge128-via-else-s-i-ge128+then-is_some w ↦
          omega (arith, c.loop-i.invariant, run_word s i (spells_some (drop i s) w.word_from.result (sym w.is_some.ensures ∙ w.if-is_some.true) w.word_from.ensures))
    ]

pub loop-i-preserved : goal.loop-i-preserved
loop-i-preserved c =
    let s = c.args.s.now in
    let i = c.loop-i.i in
    let none = spells_none (drop i s) c.word_from.result (sym c.is_some.ensures ∙ c.if-is_some.false) c.word_from.ensures in
    omega (arith, c.loop-i.invariant, run_next s i (omega arith) (omega arith) none)
