-- `bits_write::push_sevens` meets its contract: the blocks, the bits that are carried then, and the rest of the text.
-- Assumes nothing.
use borrow.Author.Rules.{rules}
use native.Mathlib.Omega.{arith}
use mathlib.Core.Path.{◌≡◌, refl, sym, ◌∙◌}
use Prim.Native.Nat.{◌+◌, ◌*◌, ◌/◌, ◌%◌, ◌<◌}
use Rattle.laws.proofs.ByteLaws.{bits_past}
use Rattle.bits_write.specs.Text7.{bits_each, sevens}
use Rattle.bits_write.proofs.BlockLaws.{sevens_wrote, first_there}
use Rattle.bits_write.proofs.Text7Laws.{length_sevens}
use Rattle.bits_write.proofs.WordLaws.{first_lt}
use Rattle.bits_write.proofs.push_sevens.Goals as goal

pub returns-then-out-i : goal.returns-then-out-i
returns-then-out-i c =
    let a = c.args in
    let s = a.text.now in record { wrote = record { stored = sym (bits_past a.out.now a.at (sevens s) c.if-out-i.true); next_is = omega (arith, length_sevens s) }; value = refl }

pub put_blocks-carried-requires : goal.put_blocks-carried-requires
put_blocks-carried-requires c =
    let a = c.args in
    let w = c.from in
    let byte : w.result < 256 = omega (arith, w.ensures, c.slice_known-2-1.given (a.at / 8)) in
    (search rules, first_lt w.result (omega arith) byte, search rules, search rules)

pub returns : goal.returns
unfolding sevens bits_each
returns c =
    let wide = c.from in
    let blocks = c.put_blocks-carried in
    let push = c.push-pos in
    let a = c.args in
    let s = a.text.now in
    let k = c.min-n.result * 8 in
    let e : a.at / 8 * 8 + a.at % 8 ≡ a.at = omega arith in
    let there = first_there a.out.now (a.at / 8) (a.at % 8) (omega arith) (omega arith) in
    let stored = push.ensures.wrote.stored ∙ rw (wide.ensures, there, e) at blocks.ensures.result_after in
    let all = sevens_wrote s k (omega arith) stored (omega (arith, push.ensures.value)) c.push_each.ensures.wrote in record { wrote = all; value = omega (arith, all.next_is, length_sevens s) }
