-- `bits::read::value_in` meets its contract.
-- Assumes nothing.
use native.Mathlib.Omega.{arith}
use mathlib.Core.Path.{◌≡◌}
use Prim.Native.Nat.{◌+◌, ◌-◌, ◌/◌, ◌%◌, ◌^◌}
use lib.ListN.{take, drop}
use lib.Pow.{pow_pos, shr-shr}
use Rattle.laws.specs.Bits.{bits_of, unpack}
use Rattle.laws.proofs.BitLaws.{value_bits}
use Rattle.bits.proofs.WordLaws.{part_of}
use Rattle.bits.proofs.read.value_in.Goals as goal

pub nonzero_rem-result : goal.nonzero_rem-result
nonzero_rem-result c = omega (arith, pow_pos c.args.n)

pub returns : goal.returns
returns c =
    let a = c.args in
    let b = unpack a.s.now in
    let w = c.word.result in
    let o = a.at % 8 in
    let e : 64 - (o + a.n) ≡ (7 - o) + (57 - a.n) = omega arith in
    let part : bits_of a.n (w / 2 ^ (7 - o) / 2 ^ (57 - a.n)) ≡ take a.n (drop a.at b) =
    rw (shr-shr, ← e) (part_of b a.at a.n w (omega arith) c.word.ensures) in
    rw (← part, value_bits, c.power.ensures)
