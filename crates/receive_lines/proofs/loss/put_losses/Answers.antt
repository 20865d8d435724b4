-- `receive_lines::loss::put_losses` meets its contract.
-- Assumes nothing.
use Rattle.laws.proofs.WroteLaws.{wrote_then}
use Rattle.receive_lines.specs.Loss.{losses_line}
use Rattle.receive_lines.proofs.loss.put_losses.Goals as goal

pub returns : goal.returns
unfolding losses_line
returns c = wrote_then c.put_answers-p.ensures.0 c.put_causes.ensures
