-- `bits_write::words::one` meets its contract.
-- Assumes nothing.
use native.Mathlib.Omega.{arith}
use Rattle.bits_write.proofs.WordLaws.{byte_at}
use Rattle.bits_write.proofs.words.one.Goals as goal

pub returns : goal.returns
returns c =
    let a = c.args in
    (rw c.from.ensures (byte_at a.s.now a.i (omega arith)), omega (arith, c.from.ensures, c.type_inv.s a.i))
