-- `ax25_body::third::last_encode` meets its contract.
-- Assumes nothing.
use native.Mathlib.Omega.{arith}
use mathlib.Core.Path.{refl}
use Prim.Native.Nat.{◌+◌}
use lib.ListN.{length-drop}
use Rattle.ax25_body.proofs.CodeLaws.{rest_min}
use Rattle.ax25_body.proofs.PieceLaws.{coded, uncoded, coded_near, does_full, does_ended}
use borrow.Author.Rules.{rules}
use Rattle.refusals.proofs.OutcomeLaws.{exit_is}
use Rattle.ax25_body.proofs.third.last_encode.Goals as goal

pub inner_encode-requires : goal.inner_encode-requires
inner_encode-requires c =
    let pre = c.requires in
    let h = coded _ _ _ _ _ _ _ _ _ c.in_ok-i.was c.call_encode.ensures in
    (pre.0, omega (arith, pre.1, coded_near _ _ _ _ _ _ _ _ h), pre.2, pre.3)

pub returns-then-i-eq0 : goal.returns-then-i-eq0
returns-then-i-eq0 c =
    let h = coded _ _ _ _ _ _ _ _ _ c.in_ok-i.was c.call_encode.ensures in
    does_full _ _ _ _ _ _ _ _ h c.if-i-eq0.true _ _ c.inner_encode.ensures

pub overflow_add-i : goal.overflow_add-i
overflow_add-i c =
    let h = coded _ _ _ _ _ _ _ _ _ c.in_ok-i.was c.call_encode.ensures in
    omega (arith, h.within, c.requires.0)

pub inner_encode-requires-2 : goal.inner_encode-requires-2
inner_encode-requires-2 c =
    let pre = c.requires in
    let d = c.args.d.now in
    let i = c.in_ok-i.i in
    let m = c.least-j in
    let h = coded _ _ _ _ _ _ _ _ _ c.in_ok-i.was c.call_encode.ensures in
    (rw (rest_min d (i + 1) m.result m.ensures) (omega (arith, pre.0, length-drop (i + 1) d)), omega (arith, pre.1, coded_near _ _ _ _ _ _ _ _ h), pre.2, pre.3)

pub returns-in_err-i : goal.returns-in_err-i
returns-in_err-i c = rw ((uncoded _ _ _ _ _ _ _ _ c.in_err-i.was c.call_encode.ensures).last c.args.d.now) (exit_is _ _ c.from_residual.ensures.1)

pub returns : goal.returns
returns c =
    let d = c.args.d.now in
    let i = c.in_ok-i.i in
    let m = c.least-j in
    let h = coded _ _ _ _ _ _ _ _ _ c.in_ok-i.was c.call_encode.ensures in
    does_ended _ _ _ _ _ _ _ _ h c.if-i-eq0.false _ _ (rw (rest_min d (i + 1) m.result m.ensures) at c.inner_encode-2.ensures)
