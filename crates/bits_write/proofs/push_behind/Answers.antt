-- `bits_write::push_behind` meets its contract: the words, the bits that are carried then, and the rest of the bytes.
-- Assumes nothing.
use native.Mathlib.Omega.{arith}
use mathlib.Core.Path.{◌≡◌, ◌∙◌}
use Prim.Native.Nat.{◌+◌, ◌*◌, ◌/◌, ◌%◌}
use lib.ListN.{take}
use lib.Seq.{length-take-le}
use Rattle.laws.specs.Bits.{unpack}
use Rattle.laws.specs.Wrote.{Wrote}
use Rattle.laws.proofs.ByteLaws.{length_unpack}
use Rattle.laws.proofs.WroteLaws.{wrote_then, wrote_as}
use Rattle.bits_write.specs.Text7.{bits_each}
use Rattle.bits_write.proofs.BlockLaws.{bytes_parts, first_there}
use Rattle.bits_write.proofs.push_behind.Goals as goal

pub returns : goal.returns
unfolding unpack bits_each
returns c =
    let wide = c.from in
    let words = c.put_words-carried in
    let push = c.push-pos in
    let a = c.args in
    let s = a.s.now in
    let n = c.min-n.result in
    let e : a.at / 8 * 8 + a.at % 8 ≡ a.at = omega arith in
    let f : n * 64 ≡ n * 8 * 8 = omega arith in
    let there = first_there a.out.now (a.at / 8) (a.at % 8) (omega arith) (omega arith) in
    let front : Wrote (unpack a.out.now) a.at (take (n * 8 * 8) (unpack s)) _ push.result =
    record {
      stored = push.ensures.wrote.stored ∙ rw (wide.ensures, there, e, f) at words.ensures;
      next_is = omega (arith, push.ensures.value, length-take-le (n * 8 * 8) (unpack s) (omega (arith, length_unpack s)));
    } in
    wrote_as (bytes_parts s (n * 8)) (wrote_then front c.push_each.ensures.wrote)
