-- `bits_write::words::word` meets its contract.
-- Assumes nothing.
use Rattle.bits_write.proofs.WordLaws.{bytes_join}
use Rattle.bits_write.proofs.words.word.Goals as goal

pub returns : goal.returns
returns c =
    let a = c.args in
    bytes_join a.s.now a.i 4 4 c.four.result c.four.ensures.0 c.four-2.ensures.0 c.four-2.ensures.1
