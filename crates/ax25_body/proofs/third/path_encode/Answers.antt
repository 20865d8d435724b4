-- `ax25_body::third::path_encode` meets its contract.
-- Assumes nothing.
use mathlib.Core.Path.{refl}
use Rattle.laws.proofs.ListLaws.{from_place}
use Rattle.ax25_body.proofs.PieceLaws.{found_is, found_within, found_short, path_short, path_full, path_ended}
use borrow.Author.Rules.{rules}
use Rattle.refusals.specs.declared.Refusal.TheVariants as refusal
use Rattle.refusals.proofs.OutcomeLaws.{exit_none}
use Rattle.ax25_body.proofs.third.path_encode.Goals as goal

pub returns-in_err-f : goal.returns-in_err-f
returns-in_err-f c =
    let a = c.args in
    let r = c.collect in
    rw (path_short a.l _ (found_short 14 a.d.now r.result _ c.in_err-f.ensures.ok_part r.ensures.result_value)) (exit_none refusal.Short c.in_err-f.ensures.value c.in_err-f.ensures.ok_part _ c.from_residual.ensures.1)

pub returns-then-f-eq0 : goal.returns-then-f-eq0
returns-then-f-eq0 c =
    let a = c.args in
    let d = a.d.now in
    let r = c.collect in
    let w = found_within 14 d r.result c.in_ok-f.f c.in_ok-f.ensures.ok_part r.ensures.within in
    rw (path_full a.l d c.in_ok-f.f.end _ c.in_ok-f.f.next (found_is 14 d r.result _ c.in_ok-f.f c.in_ok-f.ensures.ok_part r.ensures.result_value) c.if-f-eq0.true) refl

pub slice_bounds-last_encode-count : goal.slice_bounds-last_encode-count
slice_bounds-last_encode-count c =
    let a = c.args in
    let d = a.d.now in
    let r = c.collect in
    let w = found_within 14 d r.result c.in_ok-f.f c.in_ok-f.ensures.ok_part r.ensures.within in
    w.2

pub slice_bounds-last_encode-start : goal.slice_bounds-last_encode-start
slice_bounds-last_encode-start c =
    let a = c.args in
    let d = a.d.now in
    let r = c.collect in
    let w = found_within 14 d r.result c.in_ok-f.f c.in_ok-f.ensures.ok_part r.ensures.within in
    w.2

pub returns : goal.returns
returns c =
    let a = c.args in
    let d = a.d.now in
    let r = c.collect in
    let w = found_within 14 d r.result c.in_ok-f.f c.in_ok-f.ensures.ok_part r.ensures.within in
    rw (path_ended a.l d c.in_ok-f.f.end _ c.in_ok-f.f.next (found_is 14 d r.result _ c.in_ok-f.f c.in_ok-f.ensures.ok_part r.ensures.result_value) c.if-f-eq0.false, ← from_place d c.in_ok-f.f.next) c.last_encode.ensures
