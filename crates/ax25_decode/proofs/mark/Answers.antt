-- `ax25_decode::mark` meets its contract.
-- Assumes nothing.
use Rattle.laws.proofs.Cases.{pick_true, pick_false}
use Rattle.ax25_decode.proofs.ReaderLaws.{marks}
use Rattle.ax25_decode.proofs.mark.Goals as goal

pub returns-in-true-true : goal.returns-in-true-true
returns-in-true-true c = marks _ _ (pick_true 0x80 0 c.in-true-true.is-0) (pick_true 0x01 0 c.in-true-true.is-1)

pub returns-in-true-false : goal.returns-in-true-false
returns-in-true-false c = marks _ _ (pick_true 0x80 0 c.in-true-false.is-0) (pick_false 0x01 0 c.in-true-false.is-1)

pub returns-in-false-true : goal.returns-in-false-true
returns-in-false-true c = marks _ _ (pick_false 0x80 0 c.in-false-true.is-0) (pick_true 0x01 0 c.in-false-true.is-1)

pub returns-in-false-false : goal.returns-in-false-false
returns-in-false-false c = marks _ _ (pick_false 0x80 0 c.in-false-false.is-0) (pick_false 0x01 0 c.in-false-false.is-1)
