-- `lines::field::hex` meets its contract: there was room for what was read.
-- Assumes nothing.
use Rattle.texts.proofs.HexLaws.{read_few}
use Rattle.lines.proofs.field.hex.Goals as goal

pub returns : goal.returns
returns c =
    let few = read_few _ _ _ c.read_hex.ensures.0 in
    rw (c.ok.ensures.value, c.read_hex.auto.out) few
