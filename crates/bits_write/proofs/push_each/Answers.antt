-- `bits_write::push_each` meets its contract: so many bytes are written, and at the end of the output the rest is not.
-- Assumes nothing.
use native.Mathlib.Omega.{arith}
use native.Mathlib.Numerals.{add-one}
use lib.ListN.{drop}
use Rattle.laws.proofs.ByteLaws.{length_unpack}
use Rattle.laws.proofs.WroteLaws.{wrote_then, wrote_none, stored_past}
use Rattle.bits_write.specs.Text7.{bits_each}
use Rattle.bits_write.proofs.Text7Laws.{length_each, each_take_suc, each_rest}
use Rattle.bits_write.proofs.push_each.Goals as goal

pub loop-x-init : goal.loop-x-init
unfolding bits_each
loop-x-init c = (omega arith, wrote_none)

pub returns-then-out-pos-clause-wrote : goal.returns-then-out-pos-clause-wrote
returns-then-out-pos-clause-wrote c =
    let a = c.args in
    let s = a.s.now in
    let i = c.loop-x.x-index in
    let all = each_rest a.n s i in
    let stored = rw all at (stored_past (bits_each a.n (drop i s)) c.loop-x.invariant.1 (omega (arith, length_unpack c.loop-x.out))) in
    record { stored = stored; next_is = omega (arith, length_each a.n s) }

pub loop-x-preserved : goal.loop-x-preserved
loop-x-preserved c =
    let a = c.args in
    let i = c.loop-x.x-index in (
      omega (arith, c.push-pos.ensures.value),
      rw (add-one, each_take_suc a.n a.s.now i (omega arith), ← c.from.ensures) (wrote_then c.loop-x.invariant.1 c.push-pos.ensures.wrote),
    )
