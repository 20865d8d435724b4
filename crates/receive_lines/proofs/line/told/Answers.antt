-- `receive_lines::line::told` meets its contract.
-- Assumes nothing.
use Rattle.receive_lines.specs.Line.{heard_text}
use Rattle.receive_lines.proofs.line.told.Goals as goal

pub returns-in-Err : goal.returns-in-Err
unfolding heard_text
returns-in-Err c = rw (c.in-Err.is, ← c.from.ensures) c.put_refusal.ensures
