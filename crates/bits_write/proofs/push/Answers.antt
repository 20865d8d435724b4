-- `bits_write::push` meets its contract. The loop has written all but the last `left` bits of v.
-- Assumes nothing.
use borrow.Author.Rules.{rules}
use native.Mathlib.Omega.{arith}
use native.Mathlib.Nat.{div-one, sub-zero}
use mathlib.Core.Path.{◌≡◌, refl, sym}
use Prim.Native.Nat.{◌/◌, ◌^◌}
use Rattle.laws.specs.Bits.{bits_of, unpack}
use Rattle.laws.proofs.BitLaws.{length_bits}
use Rattle.laws.proofs.ByteLaws.{bits_past}
use Rattle.bits_write.proofs.WriteLaws.{sets_bits_left, sets_bits_none}
use Rattle.bits_write.proofs.push.Goals as goal

pub returns-then-out-at : goal.returns-then-out-at
returns-then-out-at c =
    let a = c.args in record { wrote = record { stored = sym (bits_past a.out.now a.at (bits_of a.n a.v) c.if-out-at.true); next_is = omega (arith, length_bits a.n a.v) }; value = refl }

pub loop-left-init : goal.loop-left-init
loop-left-init c =
    let a = c.args in
    (search rules, search rules, search rules, sets_bits_none (unpack a.out.now) a.at (a.v / 2 ^ a.n) a.n)

pub loop-left-preserved : goal.loop-left-preserved
loop-left-preserved c =
    let a = c.args in
    let inv = c.loop-left.invariant in
    let more = sets_bits_left (unpack a.out.now) a.at a.v {m = c.min-m.result} inv.0 (omega arith) in
    (search rules, search rules, search rules, rw (← more, ← inv.3, ← inv.1) c.put_part.ensures)

pub returns : goal.returns
returns c =
    let a = c.args in
    let inv = c.loop-left.invariant in
    let none : c.loop-left.left ≡ 0 = omega arith in record { wrote = record { stored = rw (none, div-one, sub-zero) at inv.3; next_is = omega (arith, length_bits a.n a.v) }; value = search rules }
