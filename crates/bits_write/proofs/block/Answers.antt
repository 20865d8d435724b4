-- `bits_write::block` meets its contract.
-- Assumes nothing.
use native.Mathlib.Omega.{arith}
use Rattle.bits_write.proofs.BlockLaws.{sevens_join}
use Rattle.bits_write.proofs.block.Goals as goal

pub returns : goal.returns
returns c =
    let a = c.args in
    let front = c.four in
    let back = c.four-2 in
    (sevens_join a.text.now a.k 4 4 front.result front.ensures.0 back.ensures.0 back.ensures.1, omega arith)
