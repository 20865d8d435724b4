-- `bits_write::put_blocks` meets its contract. With the carried bits j blocks are written.
-- Assumes nothing.
use borrow.Author.Rules.{rules}
use native.Mathlib.Omega.{arith}
use native.Mathlib.Nat.{add-zero, mod-lt}
use mathlib.Core.Path.{◌≡◌}
use Prim.Native.Nat.{◌+◌, ◌*◌, ◌/◌, ◌%◌, ◌^◌}
use lib.ListN.{length, take}
use lib.Pow.{pow_pos}
use lib.Seq.{sets, length-take-le}
use Rattle.laws.specs.Bits.{bits_of, unpack}
use Rattle.bits_write.specs.Text7.{sevens}
use Rattle.bits_write.proofs.BlockLaws.{sevens_add, carry, block_on}
use Rattle.bits_write.proofs.Text7Laws.{length_sevens}
use Rattle.bits_write.proofs.put_blocks.Goals as goal

pub loop-j-init : goal.loop-j-init
unfolding sevens
loop-j-init c = (search rules, search rules, rw add-zero)

pub loop-j-preserved : goal.loop-j-preserved
loop-j-preserved c =
    let a = c.args in
    let power = c.power-p in
    let block = c.block in
    let inv = c.loop-j.invariant in
    let j = c.loop-j.j in
    let x = c.loop-j.carried * 2 ^ 56 + block.result in
    let e : (a.i + j * 7) * 8 + 56 ≡ (a.i + (j + 1) * 7) * 8 = omega arith in
    let f : j * 8 + 8 ≡ (j + 1) * 8 = omega arith in
    let s = a.text.now in
    let room : (a.i + j * 7) * 8 + a.o ≡ a.i * 8 + a.o + length (sevens (take (j * 8) s)) = omega (arith, length_sevens (take (j * 8) s), length-take-le (j * 8) s (omega arith)) in
    let on =
    block_on (sets (unpack a.out.now) (a.i * 8) (bits_of a.o a.first)) (unpack c.loop-j.out) (a.i * 8 + a.o) ((a.i + j * 7) * 8) a.o 56 c.loop-j.carried (x / 2 ^ a.o) (x % 2 ^ a.o) (sevens (take (j * 8) s)) (bits_of 56 block.result) room inv.2 (carry a.o 56 c.loop-j.carried block.ensures.1) in
    (rw power.ensures (mod-lt x (pow_pos a.o)), search rules, rw (power.ensures, c.put_bytes.ensures, ← f, sevens_add (j * 8) 8 s, ← block.ensures.0) (rw e at on))
