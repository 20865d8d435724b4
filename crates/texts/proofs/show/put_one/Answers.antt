-- `texts::show::put_one` meets its contract.
-- Assumes nothing.
use native.Mathlib.Omega.{arith}
use Rattle.texts.proofs.ShowLaws.{shown_other, shown_plain}
use Rattle.texts.proofs.show.put_one.Goals as goal

pub returns-in-32-to-126 : goal.returns-in-32-to-126
returns-in-32-to-126 c = rw (shown_plain c.args.x (omega arith) (omega arith)) c.byte.ensures

pub returns-in_default : goal.returns-in_default
returns-in_default c = rw (shown_other c.args.x (λ low high. omega arith)) c.put_number.ensures
