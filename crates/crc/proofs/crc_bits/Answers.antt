-- `crc::crc_bits` meets its contract.
-- Assumes nothing.
use Rattle.crc.specs.Crc.{crc_bits}
use Rattle.crc.proofs.crc_bits.Goals as goal

pub returns : goal.returns
unfolding crc_bits
returns c = rw c.crc16_genibus.ensures
