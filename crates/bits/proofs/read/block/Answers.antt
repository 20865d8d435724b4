-- `bits::read::block` meets its contract.
-- Assumes nothing.
use native.Mathlib.Omega.{arith}
use Prim.Native.Nat.{◌/◌}
use Rattle.laws.specs.Bits.{unpack}
use Rattle.bits.proofs.WordLaws.{part_at}
use Rattle.bits.proofs.read.block.Goals as goal

pub returns : goal.returns
returns c =
    let a = c.args in
    part_at (unpack a.s.now) a.at (a.at / 8) 56 c.word.result _ (omega arith) (omega arith) c.word.ensures
