-- `receive_lines::loss::put_answers` meets its contract.
-- Assumes nothing.
use native.Mathlib.Omega.{arith}
use Rattle.laws.proofs.WroteLaws.{wrote_then}
use Rattle.receive_lines.specs.Loss.{answers_text}
use Rattle.receive_lines.proofs.loss.put_answers.Goals as goal

pub returns : goal.returns
unfolding answers_text
returns c = (
  wrote_then c.put_tally-p.ensures.0 (wrote_then c.put_tally-q.ensures.0 c.put_tally.ensures.0),
  omega (arith, c.put_tally-p.ensures.1, c.put_tally-q.ensures.1, c.put_tally.ensures.1),
)
