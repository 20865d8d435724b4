-- The proof of the cycle of calls {put_heard}. The measure is how many fields there are.
-- Assumes nothing.
use native.Mathlib.Omega.{arith}
use mathlib.Core.Path.{ap, ◌∙◌}
use lib.ListN.{length, length-drop}
use Rattle.laws.proofs.ListLaws.{from_place}
use Rattle.ax25_address.proofs.AliasLaws.{room_next}
use Rattle.ax25.proofs.CoderLaws.{room_first, heard_done, heard_wrote}
use borrow.Author.Rules.{rules}
use Prim.Native.Nat.{ℕ, ◌+◌, ◌≤◌, ◌<◌}
use Rattle.ax25.proofs.encode.+put_heard.{statement}
use Rattle.ax25.proofs.encode.+put_heard.Goals as goal

pub returns-then-n-eq0 : goal.returns-then-n-eq0
returns-then-n-eq0 t c =
    let a = c.args in
    heard_done a.l a.n a.f.now _ a.at c.if-n-eq0.true

pub bounds-f-l : goal.bounds-f-l
bounds-f-l t c =
    let a = c.args in
    let h : a.l + 1 ≤ length a.f.now = room_first a.l a.n (length a.f.now) c.if-n-eq0.false c.requires.2 in
    omega (arith, h)

pub slice_bounds-put_heard-count : goal.slice_bounds-put_heard-count
slice_bounds-put_heard-count t c =
    let a = c.args in
    let h : a.l + 1 ≤ length a.f.now = room_first a.l a.n (length a.f.now) c.if-n-eq0.false c.requires.2 in
    h

pub slice_bounds-put_heard-start : goal.slice_bounds-put_heard-start
slice_bounds-put_heard-start t c =
    let a = c.args in
    let h : a.l + 1 ≤ length a.f.now = room_first a.l a.n (length a.f.now) c.if-n-eq0.false c.requires.2 in
    h

pub put_heard-requires : goal.put_heard-requires
put_heard-requires t c =
    let a = c.args in
    let pre = c.requires in
    let other = c.if-n-eq0.false in
    let room = room_next a.l a.n (length a.f.now) other pre.2 in
    let size = ap length (from_place a.f.now (a.l + 1)) ∙ length-drop (a.l + 1) a.f.now in
    let p = c.bit-p.ensures.next_is in
    (omega (arith, other), (omega (arith, pre.0), pre.1, omega (arith, room.1, size), omega (arith, pre.3, size), omega (arith, pre.4, p, other)))

pub returns : goal.returns
returns t c =
    let put = c.put_heard in
    let bit = c.bit-p in
    let a = c.args in
    heard_wrote a.l a.n a.f.now _ a.at c.if-n-eq0.false _ _ bit.ensures put.ensures
