-- `bits_write::words::two` meets its contract.
-- Assumes nothing.
use native.Mathlib.Omega.{arith}
use Rattle.bits_write.proofs.WordLaws.{bytes_join}
use Rattle.bits_write.proofs.words.two.Goals as goal

pub returns : goal.returns
returns c =
    let a = c.args in
    (bytes_join a.s.now a.i 1 1 c.one.result c.one.ensures.0 c.one-2.ensures.0 c.one-2.ensures.1, omega arith)
