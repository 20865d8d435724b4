-- `bits::vb_val` meets its contract. What is left of the text, from a on, gives what all gives from 0.
-- Assumes nothing.
use borrow.Author.Rules.{rules}
use native.Mathlib.Omega.{arith}
use native.Mathlib.Numerals.{add-one}
use mathlib.Core.Path.{sym, ◌∙◌}
use Prim.Native.Nat.{◌≤◌}
use lib.ListN.{length, drop_of_length-le}
use Rattle.bits.specs.Val.{val_from, val_of}
use Rattle.bits.proofs.ValLaws.{val_stop, val_next}
use Rattle.bits.proofs.vb_val.Goals as goal

pub loop-c-init : goal.loop-c-init
unfolding val_of
loop-c-init c = search rules

pub returns-then-is_stop : goal.returns-then-is_stop
returns-then-is_stop c =
    let s = c.args.s.now in
    sym (c.loop-c.invariant ∙ val_stop c.loop-c.a s c.loop-c.c-index (omega arith) (sym c.is_stop.ensures ∙ c.if-is_stop.true))

pub loop-c-preserved : goal.loop-c-preserved
loop-c-preserved c =
    let s = c.args.s.now in
    rw (add-one, c.next_val-a.ensures)
    (c.loop-c.invariant ∙ val_next c.loop-c.a s c.loop-c.c-index (omega arith) (sym c.is_stop.ensures ∙ c.if-is_stop.false))

pub returns : goal.returns
unfolding val_from
returns c =
    let past : length c.args.s.now ≤ c.loop-c.c-index = omega arith in
    sym (rw (drop_of_length-le c.args.s.now past) at c.loop-c.invariant)
