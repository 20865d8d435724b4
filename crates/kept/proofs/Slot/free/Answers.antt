-- `kept::Slot::free` meets its contract.
-- Assumes nothing.
use mathlib.Core.Path.{refl}
use Rattle.laws.specs.Bits.{num}
use Rattle.kept.proofs.Slot.free.Goals as goal

pub returns : goal.returns
unfolding num
returns c = refl
