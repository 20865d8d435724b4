-- `crc::crc_bit` meets its contract: twice c without its top bit is twice c below 2 ^ 16.
-- Assumes nothing.
use mathlib.Core.Path.{◌≡◌, ap}
use Prim.Native.Nat.{ℕ, ◌*◌, ◌-◌, ◌%◌}
use borrow.Author.Tests.{le-leb, lt-leb}
use native.Mathlib.Omega.{arith}
use lib.Bits.{bit_xor}
use Rattle.laws.specs.Pick.{pick}
use Rattle.crc.specs.Crc.{crc_bit, poly}
use Rattle.crc.proofs.crc_bit.Goals as goal

pub returns-then-c-ge32768 : goal.returns-then-c-ge32768
unfolding crc_bit pick
returns-then-c-ge32768 c =
    let x = c.args.c in
    let e : (x - 0x8000) * 2 ≡ x * 2 % 0x10000 = omega arith in
    simp (le-leb _ _ c.if-c-ge32768.true) (ap (λ (y : ℕ). bit_xor y poly) e)

pub returns-else-c-ge32768 : goal.returns-else-c-ge32768
unfolding crc_bit pick
returns-else-c-ge32768 c = simp (lt-leb _ _ c.if-c-ge32768.false) (omega arith)
