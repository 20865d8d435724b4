-- `send_lines::line::frames` meets its contract.
-- Assumes nothing.
use native.Mathlib.Omega.{arith}
use lib.ListN.{length}
use Rattle.refusals.proofs.OutcomeLaws.{outcome_ok, outcome_err}
use Rattle.send_lines.specs.Line.{counted_text}
use Rattle.send_lines.proofs.LineLaws.{count_few}
use Rattle.send_lines.proofs.line.frames.Goals as goal

pub all-requires : goal.all-requires
all-requires c =
    let few = count_few (length c.args.message.now) c.args.job.field _ (outcome_ok c.count_for_field.ensures c.in-Ok.is) in
    omega (arith, few, c.requires)

pub returns-in-Ok : goal.returns-in-Ok
unfolding counted_text
returns-in-Ok c = rw (outcome_ok c.count_for_field.ensures c.in-Ok.is) c.all.ensures

pub returns-in-Err : goal.returns-in-Err
unfolding counted_text
returns-in-Err c = rw (outcome_err c.count_for_field.ensures c.in-Err.is, ← c.from.ensures) c.put_refusal.ensures
