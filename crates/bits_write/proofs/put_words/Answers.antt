-- `bits_write::put_words` meets its contract. With the carried bits j words are written.
-- Assumes nothing.
use borrow.Author.Rules.{rules}
use native.Mathlib.Omega.{arith}
use mathlib.Core.Path.{◌≡◌}
use Prim.Native.Nat.{◌+◌, ◌-◌, ◌*◌, ◌/◌, ◌%◌, ◌^◌}
use lib.ListN.{length, take}
use lib.Seq.{sets, length-take-le, take-add}
use Rattle.laws.specs.Bits.{bits_of, unpack}
use Rattle.laws.proofs.ByteLaws.{length_unpack}
use Rattle.bits_write.proofs.BlockLaws.{carry_word, carry_lt, block_on}
use Rattle.bits_write.proofs.put_words.Goals as goal

pub overflow_add-carried : goal.overflow_add-carried
overflow_add-carried c =
    omega (arith, carry_lt c.args.o 64 c.loop-j.carried (omega arith) c.word-v.type_inv)

pub loop-j-preserved : goal.loop-j-preserved
loop-j-preserved c =
    let a = c.args in
    let v = c.word-v in
    let carried = c.loop-j.carried in
    let j = c.loop-j.j in
    let b = unpack a.s.now in
    let x = carried * 2 ^ (64 - a.o) % 2 ^ 64 + v.result / 2 ^ a.o in
    let e : (a.i + j * 8) * 8 + 64 ≡ (a.i + (j + 1) * 8) * 8 = omega arith in
    let f : j * 64 + 64 ≡ (j + 1) * 64 = omega arith in
    let g : j * 8 * 8 ≡ j * 64 = omega arith in
    let more = rw g at v.ensures in
    let room : (a.i + j * 8) * 8 + a.o ≡ a.i * 8 + a.o + length (take (j * 64) b) = omega (arith, length-take-le (j * 64) b (omega (arith, length_unpack a.s.now))) in
    let on =
    block_on (sets (unpack a.out.now) (a.i * 8) (bits_of a.o a.first)) (unpack c.loop-j.out) (a.i * 8 + a.o) ((a.i + j * 8) * 8) a.o 64 carried x v.result (take (j * 64) b) (bits_of 64 v.result) room c.loop-j.invariant.1 (carry_word a.o 64 carried (omega arith) v.type_inv) in
    (search rules, rw (c.put_bytes.ensures, ← f, take-add (j * 64) 64 b, ← more) (rw e at on))
