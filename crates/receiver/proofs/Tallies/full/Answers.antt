-- `Tallies::full` meets its contract.
-- Assumes nothing.
use mathlib.Core.Path.{sym, ◌∙◌}
use native.Mathlib.Omega.{arith}
use Rattle.receiver.proofs.TallyLaws.{none_full, any_largest}
use Rattle.receiver.proofs.Tallies.full.Goals as goal

pub returns-then-first-last-lt18446744073709551615 : goal.returns-then-first-last-lt18446744073709551615
returns-then-first-last-lt18446744073709551615 c = sym (none_full _ c.if-first-last-lt18446744073709551615.true)

pub returns : goal.returns
returns c =
    c.contains.ensures.value
    ∙ any_largest c.args.self (omega arith) (omega arith) (omega arith) (omega arith) (omega arith) (omega arith) (omega arith) (omega arith)
