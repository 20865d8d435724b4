-- `ax25_token::encode::call_starts` meets its contract.
-- Assumes nothing.
use Rattle.ax25_token.specs.Call.{text_of}
use Rattle.ax25_token.proofs.encode.call_starts.Goals as goal

pub returns : goal.returns
unfolding text_of
returns c = rw (← c.c.view_is) c.starts.ensures
