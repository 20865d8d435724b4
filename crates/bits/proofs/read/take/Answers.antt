-- `bits::read::take` meets its contract: each way out is a case of the definition.
-- Assumes nothing.
use native.Mathlib.Nat.{add-zero}
use native.Mathlib.Omega.{arith}
use Rattle.laws.specs.Bits.{value_of}
use Rattle.bits.proofs.ReadLaws.{taken_short, taken_bits}
use Rattle.bits.proofs.read.take.Goals as goal

pub returns-then-remaining-n : goal.returns-then-remaining-n
returns-then-remaining-n c =
    let a = c.args in
    rw (taken_short a.s.now a.at a.n (omega arith))

pub returns-then-n-eq0 : goal.returns-then-n-eq0
unfolding value_of
returns-then-n-eq0 c =
    let a = c.args in
    rw (taken_bits a.s.now a.at a.n (omega arith), c.if-n-eq0.true, add-zero)

pub returns : goal.returns
returns c =
    let a = c.args in
    rw (taken_bits a.s.now a.at a.n (omega arith), c.value.ensures)
