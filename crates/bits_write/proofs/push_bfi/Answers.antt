-- `bits_write::push_bfi` meets its contract.
-- Assumes nothing.
use Rattle.bits_write.specs.Write.{top_bits}
use Rattle.bits_write.proofs.push_bfi.Goals as goal

pub returns-clause-wrote : goal.returns-clause-wrote
unfolding top_bits
returns-clause-wrote c = rw (c.saturating_sub.ensures, c.width.ensures.0) at c.push.ensures.wrote
