-- `bits::read::after` meets its contract.
-- Assumes nothing.
use mathlib.Core.Path.{sym, ap}
use Rattle.bits.specs.Read.{after_of}
use Rattle.bits.proofs.read.after.Goals as goal

pub returns-in-Some : goal.returns-in-Some
unfolding after_of
returns-in-Some c = ap (λ t. after_of t c.args.at) (sym c.in-Some.is)

pub returns-in-None : goal.returns-in-None
unfolding after_of
returns-in-None c = ap (λ t. after_of t c.args.at) (sym c.in-None.is)
