-- `bits_write::put_part` meets its contract: past the end nothing is stored.
-- Assumes nothing.
use borrow.Author.Rules.{rules}
use mathlib.Core.Path.{◌≡◌, sym}
use native.Mathlib.Omega.{arith}
use Prim.Native.Nat.{◌+◌, ◌-◌, ◌%◌}
use Rattle.laws.specs.Bits.{bits_of}
use Rattle.laws.proofs.BitLaws.{length_bits}
use Rattle.laws.proofs.ByteLaws.{bits_past, put_unpack}
use Rattle.bits_write.proofs.put_part.Goals as goal

pub returns-then-i-out : goal.returns-then-i-out
returns-then-i-out c =
    let a = c.args in
    let e : 8 - (a.m + (8 - (a.at % 8 + a.m))) ≡ a.at % 8 = omega arith in
    put_unpack a.out.now a.at c.spliced.result (bits_of a.m a.v) (omega (arith, length_bits a.m a.v)) (search rules)
    (rw e at c.spliced.ensures)

pub returns-else-i-out : goal.returns-else-i-out
returns-else-i-out c = let a = c.args in sym (bits_past a.out.now a.at (bits_of a.m a.v) c.if-i-out.false)
