-- `ax25_token::encode::put_call` meets its contract.
-- Assumes nothing.
use Rattle.ax25_token.specs.Call.{text_of}
use Rattle.ax25_token.proofs.encode.put_call.Goals as goal

pub returns : goal.returns
unfolding text_of
returns c = rw (← c.c.view_is) c.token_encode.ensures
