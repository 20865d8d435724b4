-- `bits_write::four` meets its contract.
-- Assumes nothing.
use native.Mathlib.Omega.{arith}
use Rattle.bits_write.proofs.BlockLaws.{sevens_join}
use Rattle.bits_write.proofs.four.Goals as goal

pub returns : goal.returns
returns c =
    let a = c.args in
    let front = c.two in
    let back = c.two-2 in
    (sevens_join a.text.now a.k 2 2 front.result front.ensures.0 back.ensures.0 back.ensures.1, omega arith)
