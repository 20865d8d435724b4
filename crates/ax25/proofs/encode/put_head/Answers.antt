-- `ax25::encode::put_head` meets its contract.
-- Assumes nothing.
use borrow.Author.Rules.{rules}
use native.Mathlib.Omega.{arith}
use mathlib.Core.Path.{ap, ◌∙◌}
use mathlib.Core.Bool.{true}
use Prim.Native.Nat.{◌+◌, ◌*◌}
use lib.ListN.{length, length-drop}
use Rattle.laws.proofs.ListLaws.{from_place}
use Rattle.ax25_address.specs.Record.{record_of}
use Rattle.ax25_address.proofs.RecordLaws.{known}
use Rattle.ax25.proofs.CoderLaws.{address_room}
use Rattle.ax25.proofs.HeadCode.{from, parts_of, parts_are, heard_room, digis_room, bad_dest, bad_src, bad_digis, head_wrote}
use Rattle.ax25.proofs.encode.put_head.Goals as goal

pub slice_bounds-digis-count : goal.slice_bounds-digis-count
slice_bounds-digis-count c =
    let a = c.args in
    let d = a.frame.now in
    let k = known a.command a.l d (record_of a.r) c.requires.3 in
    k.front

pub slice_bounds-digis-start : goal.slice_bounds-digis-start
slice_bounds-digis-start c =
    let a = c.args in
    let d = a.frame.now in
    let k = known a.command a.l d (record_of a.r) c.requires.3 in
    k.front

pub put_heard-at-requires : goal.put_heard-at-requires
put_heard-at-requires c =
    let a = c.args in
    let d = a.frame.now in
    let k = known a.command a.l d (record_of a.r) c.requires.3 in
    let size = ap length (from_place d (2 * (a.l + 1))) ∙ length-drop (2 * (a.l + 1)) d in
    (k.few, c.requires.1, omega (arith, k.behind, size), omega (arith, size, c.requires.2), omega (arith, k.few))

pub put_address-requires : goal.put_address-requires
put_address-requires c =
    let a = c.args in
    let d = a.frame.now in
    let k = known a.command a.l d (record_of a.r) c.requires.3 in
    let at = heard_room a.l a.r.digis (from (2 * (a.l + 1)) d) _ _ 8 _ c.put_heard-at.ensures in
    (omega (arith, k.front), c.requires.1, omega (arith, at, k.few))

pub returns-in_err-p : goal.returns-in_err-p
returns-in_err-p c = λ p e.
    let a = c.args in
    let d = a.frame.now in
    let k = known a.command a.l d (record_of a.r) c.requires.3 in
    rw c.from_residual.ensures
    (bad_dest a.command a.l d (record_of a.r) p (parts_are a.command a.l d (record_of a.r) k p e) _ _ _ _ c.in_err-p.was c.put_address.ensures _ 8 _)

pub slice_bounds-put_address-count : goal.slice_bounds-put_address-count
slice_bounds-put_address-count c =
    let a = c.args in
    let d = a.frame.now in
    let k = known a.command a.l d (record_of a.r) c.requires.3 in
    omega (arith, k.front)

pub slice_bounds-put_address-start : goal.slice_bounds-put_address-start
slice_bounds-put_address-start c =
    let a = c.args in
    let d = a.frame.now in
    let k = known a.command a.l d (record_of a.r) c.requires.3 in
    omega (arith, k.front)

pub put_address-requires-2 : goal.put_address-requires-2
put_address-requires-2 c =
    let a = c.args in
    let d = a.frame.now in
    let k = known a.command a.l d (record_of a.r) c.requires.3 in
    let at = heard_room a.l a.r.digis (from (2 * (a.l + 1)) d) _ _ 8 _ c.put_heard-at.ensures in
    let first = address_room a.l c.requires.0 c.requires.1 _ _ _ _ _ c.in_ok-p.was true d c.put_address.ensures in
    let size = ap length (from_place d (a.l + 1)) ∙ length-drop (a.l + 1) d in
    (omega (arith, k.front, size), c.requires.1, omega (arith, at, first, k.few))

pub returns-in_err-q : goal.returns-in_err-q
returns-in_err-q c = λ p e.
    let a = c.args in
    let d = a.frame.now in
    let k = known a.command a.l d (record_of a.r) c.requires.3 in
    rw c.from_residual-in_err-q.ensures
    (bad_src a.command a.l d (record_of a.r) p (parts_are a.command a.l d (record_of a.r) k p e) _ _ _ _ _ c.in_ok-p.was c.put_address.ensures
    _ _ c.put_address-2.ensures c.in_err-q.was _ 8 _)

pub put_digis-requires : goal.put_digis-requires
put_digis-requires c =
    let a = c.args in
    let d = a.frame.now in
    let k = known a.command a.l d (record_of a.r) c.requires.3 in
    let at = heard_room a.l a.r.digis (from (2 * (a.l + 1)) d) _ _ 8 _ c.put_heard-at.ensures in
    let first = address_room a.l c.requires.0 c.requires.1 _ _ _ _ _ c.in_ok-p.was true d c.put_address.ensures in
    let second = address_room a.l c.requires.0 c.requires.1 _ _ _ _ _ c.in_ok-q.was true (from (a.l + 1) d) c.put_address-2.ensures in
    let size = ap length (from_place d (2 * (a.l + 1))) ∙ length-drop (2 * (a.l + 1)) d in
    (k.few, c.requires.0, c.requires.1, omega (arith, k.behind, size), omega (arith, size, c.requires.2), omega (arith, at, first, second, k.few), (parts_of a.command a.l d (record_of a.r) k).alias_is)

pub returns-in_err-e : goal.returns-in_err-e
returns-in_err-e c = λ p e.
    let a = c.args in
    let d = a.frame.now in
    let k = known a.command a.l d (record_of a.r) c.requires.3 in
    rw c.from_residual-in_err-e.ensures
    (bad_digis a.command a.l d (record_of a.r) p (parts_are a.command a.l d (record_of a.r) k p e) _ _ _ _ _ c.in_ok-p.was c.put_address.ensures
    _ _ c.put_address-2.ensures _ c.in_ok-q.was _ _ c.put_digis.ensures c.in_err-e.was _ 8 _)

pub put_type-requires : goal.put_type-requires
put_type-requires c =
    let a = c.args in
    let d = a.frame.now in
    let k = known a.command a.l d (record_of a.r) c.requires.3 in
    let at = heard_room a.l a.r.digis (from (2 * (a.l + 1)) d) _ _ 8 _ c.put_heard-at.ensures in
    let first = address_room a.l c.requires.0 c.requires.1 _ _ _ _ _ c.in_ok-p.was true d c.put_address.ensures in
    let second = address_room a.l c.requires.0 c.requires.1 _ _ _ _ _ c.in_ok-q.was true (from (a.l + 1) d) c.put_address-2.ensures in
    let third = digis_room a.command a.l c.requires.0 c.requires.1 d (record_of a.r) k _ _ _ _ _ c.in_ok-e.was c.put_digis.ensures in
    omega (arith, at, first, second, third, k.few)

pub returns : goal.returns
returns c = λ p e.
    let a = c.args in
    let d = a.frame.now in
    let k = known a.command a.l d (record_of a.r) c.requires.3 in
    head_wrote a.command a.l d (record_of a.r) p (parts_are a.command a.l d (record_of a.r) k p e) _ _ _ _ _ c.in_ok-p.was c.put_address.ensures
    _ _ c.put_address-2.ensures _ c.in_ok-q.was _ _ c.put_digis.ensures _ c.in_ok-e.was _ 8 c.put_heard-at.ensures _ _ c.put_type.ensures
