-- `bits::read::text` meets its contract: each way out is a case of the definition.
-- Assumes nothing.
use native.Mathlib.Nat.{add-zero}
use native.Mathlib.Omega.{arith}
use Rattle.laws.specs.Digits.{number_of}
use Rattle.bits.proofs.ReadLaws.{text_short, text_bits_lem}
use Rattle.bits.proofs.read.text.Goals as goal

pub returns-then-remaining-n : goal.returns-then-remaining-n
returns-then-remaining-n c =
    let a = c.args in
    rw (text_short a.s.now a.at a.n (omega arith))

pub returns-then-n-eq0 : goal.returns-then-n-eq0
unfolding number_of
returns-then-n-eq0 c =
    let a = c.args in
    rw (text_bits_lem a.s.now a.at a.n (omega arith) (omega arith), c.if-n-eq0.true, add-zero)

pub returns : goal.returns
returns c =
    let a = c.args in
    rw (text_bits_lem a.s.now a.at a.n (omega arith) (omega arith), c.digits.ensures)
