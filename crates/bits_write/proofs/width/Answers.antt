-- `bits_write::width` meets its contract.
-- Assumes nothing.
use borrow.Author.Rules.{rules}
use Rattle.bits_write.specs.Write.{width_of}
use Rattle.bits_write.proofs.width.Goals as goal

pub returns : goal.returns
unfolding width_of
returns c = search rules
