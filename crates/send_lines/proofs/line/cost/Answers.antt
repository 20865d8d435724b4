-- `send_lines::line::cost` meets its contract.
-- Assumes nothing.
use Rattle.refusals.proofs.OutcomeLaws.{outcome_ok, outcome_err}
use Rattle.send_lines.specs.Line.{priced_text, price_text}
use Rattle.send_lines.proofs.line.cost.Goals as goal

pub returns-in-Ok : goal.returns-in-Ok
unfolding price_text priced_text
returns-in-Ok c = rw (outcome_ok c.preview.ensures c.in-Ok.is) c.put_price.ensures

pub returns-in-Err : goal.returns-in-Err
unfolding price_text priced_text
returns-in-Err c = rw (outcome_err c.preview.ensures c.in-Err.is, ← c.from.ensures) c.put_refusal.ensures
