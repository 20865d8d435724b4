-- `ax25_body::body::put_trimmed` meets its contract.
-- Assumes nothing.
use Rattle.ax25_aprs.specs.Body.{call_of}
use borrow.Author.Rules.{rules}
use Rattle.ax25_body.proofs.body.put_trimmed.Goals as goal

pub returns : goal.returns
unfolding call_of
returns c = rw (← c.trimmed.ensures.0) c.put_call.ensures
