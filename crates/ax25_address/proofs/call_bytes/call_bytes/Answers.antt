-- `ax25_address::call_bytes::call_bytes` meets its contract.
-- Assumes nothing.
use Rattle.ax25_token.proofs.CallLaws.{text_front}
use Rattle.ax25_address.proofs.call_bytes.call_bytes.Goals as goal

pub returns : goal.returns
returns c =
    let a = c.args in
    rw (← text_front a.c, ← c.c.view_is) c.text_bytes.ensures
