-- `receive_lines::loss::put_causes` meets its contract.
-- Assumes nothing.
use Rattle.laws.proofs.WroteLaws.{wrote_then}
use Rattle.receive_lines.specs.Loss.{causes_text}
use Rattle.receive_lines.proofs.loss.put_causes.Goals as goal

pub returns : goal.returns
unfolding causes_text
returns c =
    wrote_then c.put_tally-p.ensures.0
    (wrote_then c.put_tally-q.ensures.0
    (wrote_then c.put_tally-r.ensures.0
    (wrote_then c.put_tally-s.ensures.0 (wrote_then c.put_tally-e.ensures.0 c.copy.ensures))))
