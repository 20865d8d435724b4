-- `bits_write::bit` meets its contract.
-- Assumes nothing.
use Rattle.bits_write.proofs.CopyLaws.{bits_one}
use Rattle.bits_write.proofs.bit.Goals as goal

pub returns : goal.returns
returns c = rw (c.from.ensures, bits_one c.args.b) at c.push.ensures.wrote
