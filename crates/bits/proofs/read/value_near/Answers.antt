-- `bits::read::value_near` meets its contract.
-- Assumes nothing.
use native.Mathlib.Omega.{arith}
use Prim.Native.Nat.{◌+◌, ◌-◌, ◌*◌}
use lib.Pow.{pow_pos}
use Rattle.laws.specs.Bits.{unpack}
use Rattle.laws.proofs.BitLaws.{value_bits}
use Rattle.bits.proofs.WordLaws.{part_at}
use Rattle.bits.proofs.read.value_near.Goals as goal

pub nonzero_rem-result : goal.nonzero_rem-result
nonzero_rem-result c = omega (arith, pow_pos c.args.n)

pub returns : goal.returns
returns c =
    let a = c.args in
    let i = c.least-i.result in
    let w = c.word in
    rw (← part_at (unpack a.s.now) a.at i a.n w.result (64 + i * 8 - (a.at + a.n)) (omega arith) (omega arith) w.ensures, value_bits, c.power.ensures)
