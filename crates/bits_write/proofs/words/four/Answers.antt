-- `bits_write::words::four` meets its contract.
-- Assumes nothing.
use native.Mathlib.Omega.{arith}
use Rattle.bits_write.proofs.WordLaws.{bytes_join}
use Rattle.bits_write.proofs.words.four.Goals as goal

pub returns : goal.returns
returns c =
    let a = c.args in
    (bytes_join a.s.now a.i 2 2 c.two.result c.two.ensures.0 c.two-2.ensures.0 c.two-2.ensures.1, omega arith)
