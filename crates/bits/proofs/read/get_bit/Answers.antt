-- `bits::read::get_bit` meets its contract.
-- Assumes nothing.
use Rattle.laws.proofs.BitLaws.{num_odd}
use Rattle.laws.proofs.ByteLaws.{get_unpack}
use Rattle.bits.proofs.read.get_bit.Goals as goal

pub returns : goal.returns
returns c =
    rw (c.wide.ensures, get_unpack c.args.s.now c.args.at c.requires, num_odd)
