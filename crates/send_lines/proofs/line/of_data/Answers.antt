-- `send_lines::line::of_data` meets its contract, by the task.
-- Assumes nothing.
use Rattle.laws.specs.Pick.{pick}
use Rattle.send_lines.specs.Line.{said_of}
use Rattle.send_lines.proofs.line.of_data.Goals as goal

pub returns-in-Send : goal.returns-in-Send
unfolding said_of pick
returns-in-Send c = rw c.in-Send.is c.coded.ensures

pub returns-in-Price : goal.returns-in-Price
unfolding said_of pick
returns-in-Price c = rw c.in-Price.is c.cost.ensures
