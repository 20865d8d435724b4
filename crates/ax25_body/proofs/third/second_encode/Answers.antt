-- `ax25_body::third::second_encode` meets its contract.
-- Assumes nothing.
use native.Mathlib.Omega.{arith}
use mathlib.Core.Path.{refl}
use lib.ListN.{length-drop}
use Rattle.laws.proofs.ListLaws.{from_place}
use Rattle.ax25_aprs.specs.Third.{collect_of, path_field}
use Rattle.ax25_body.proofs.PieceLaws.{coded, uncoded, coded_near, does_field, second_is}
use borrow.Author.Rules.{rules}
use Rattle.refusals.proofs.OutcomeLaws.{exit_is}
use Rattle.ax25_body.proofs.third.second_encode.Goals as goal

pub slice_bounds-path_encode-count : goal.slice_bounds-path_encode-count
slice_bounds-path_encode-count c = (coded _ _ _ _ _ _ _ _ _ c.in_ok-i.was c.call_encode.ensures).within

pub slice_bounds-path_encode-start : goal.slice_bounds-path_encode-start
slice_bounds-path_encode-start c = (coded _ _ _ _ _ _ _ _ _ c.in_ok-i.was c.call_encode.ensures).within

pub path_encode-requires : goal.path_encode-requires
path_encode-requires c =
    let pre = c.requires in
    let d = c.args.d.now in
    let i = c.in_ok-i.i in
    let h = coded _ _ _ _ _ _ _ _ _ c.in_ok-i.was c.call_encode.ensures in
    (rw (from_place d i) (omega (arith, pre.0, length-drop i d)), omega (arith, pre.1, coded_near _ _ _ _ _ _ _ _ h), pre.2, pre.3)

pub returns-in_err-i : goal.returns-in_err-i
returns-in_err-i c =
    let a = c.args in
    let d = a.d.now in
    rw (second_is a.l d, (uncoded _ _ _ _ _ _ _ _ c.in_err-i.was c.call_encode.ensures).call d (λ e. path_field a.l (collect_of 0x2C 14 e))) (exit_is _ _ c.from_residual.ensures.1)

pub returns : goal.returns
returns c =
    let a = c.args in
    let d = a.d.now in
    let i = c.in_ok-i.i in
    let h = coded _ _ _ _ _ _ _ _ _ c.in_ok-i.was c.call_encode.ensures in
    rw (second_is a.l d) (does_field _ _ _ _ _ _ _ _ h (λ e. path_field a.l (collect_of 0x2C 14 e)) _ _ (rw (from_place d i) at c.path_encode.ensures))
