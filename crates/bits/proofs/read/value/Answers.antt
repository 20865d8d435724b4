-- `bits::read::value` meets its contract: no bits are the number 0.
-- Assumes nothing.
use mathlib.Core.Path.{refl}
use Rattle.laws.specs.Bits.{value_of}
use Rattle.bits.proofs.read.value.Goals as goal

pub returns-then-n-eq0 : goal.returns-then-n-eq0
unfolding value_of
returns-then-n-eq0 c = rw c.if-n-eq0.true refl
