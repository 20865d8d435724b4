-- `sender::Field::frags_needed` meets its contract.
-- Assumes nothing.
use mathlib.Core.Path.{refl}
use Rattle.sender.specs.Send.{ceiling}
use Rattle.sender.proofs.Field.frags_needed.Goals as goal

pub returns : goal.returns
unfolding ceiling
returns c = refl
