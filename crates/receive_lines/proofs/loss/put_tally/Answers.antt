-- `receive_lines::loss::put_tally` meets its contract.
-- Assumes nothing.
use native.Mathlib.Omega.{arith}
use Rattle.laws.proofs.WroteLaws.{wrote_then}
use Rattle.texts.proofs.NumberLaws.{numeral_length}
use Rattle.receive_lines.specs.Loss.{tally_text}
use Rattle.receive_lines.proofs.loss.put_tally.Goals as goal

pub returns : goal.returns
unfolding tally_text
returns c =
    let number = c.put_number in
    let label = c.copy-p in
    (wrote_then label.ensures number.ensures, omega (arith, label.ensures.next_is, number.ensures.next_is, numeral_length c.args.n, c.requires.1))
