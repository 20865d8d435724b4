-- `ax25::encode::put_address` meets its contract.
-- Assumes nothing.
use borrow.Author.Rules.{rules}
use Rattle.ax25.proofs.encode.put_address.Goals as goal

pub returns : goal.returns
returns c = rw (← c.addr_call.ensures.0) c.put_call.ensures
