-- `bits_write::two` meets its contract.
-- Assumes nothing.
use native.Mathlib.Omega.{arith}
use Prim.Native.Nat.{◌+◌, ◌%◌}
use Rattle.bits_write.proofs.BlockLaws.{seven_at, sevens_join}
use Rattle.bits_write.proofs.two.Goals as goal

pub returns : goal.returns
returns c =
    let a = c.args in
    let s = a.text.now in
    (sevens_join s a.k 1 1 (c.from.result % 128) (rw c.from.ensures (seven_at s a.k (omega arith))) (rw c.from-2.ensures (seven_at s (a.k + 1) (omega arith))) (omega arith), omega arith)
