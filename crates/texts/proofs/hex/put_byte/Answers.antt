-- `texts::hex::put_byte` meets its contract.
-- Assumes nothing.
use Rattle.laws.proofs.WroteLaws.{wrote_then}
use Rattle.texts.specs.Hex.{hex_byte}
use Rattle.texts.proofs.hex.put_byte.Goals as goal

pub returns : goal.returns
unfolding hex_byte
returns c =
    let high = c.digit_of in
    let low = c.digit_of-2 in
    rw (← high.ensures, ← low.ensures) (wrote_then c.byte-low.ensures c.byte.ensures)
