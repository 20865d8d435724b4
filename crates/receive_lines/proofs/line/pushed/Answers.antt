-- `receive_lines::line::pushed` meets its contract, by cases.
-- Assumes nothing.
use Rattle.receive_lines.specs.Line.{heard_text}
use Rattle.receive_lines.proofs.line.pushed.Goals as goal

pub returns-in-Dropped : goal.returns-in-Dropped
unfolding heard_text
returns-in-Dropped c = rw c.in-Dropped.is c.copy.ensures

pub returns-in-More : goal.returns-in-More
unfolding heard_text
returns-in-More c = rw c.in-More.is c.copy-in-More.ensures

pub returns-in-Done : goal.returns-in-Done
unfolding heard_text
returns-in-Done c = rw c.in-Done.is (rw c.front.ensures at c.decoded.ensures)
