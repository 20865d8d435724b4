-- The proof of the cycle of calls {put_tokens}. The measure is how many fields there are.
-- Assumes nothing.
use native.Mathlib.Omega.{arith}
use mathlib.Core.Path.{ap, ◌∙◌}
use mathlib.Core.Bool.{false}
use lib.ListN.{length, length-drop}
use Rattle.laws.proofs.ListLaws.{from_place}
use Rattle.ax25_address.proofs.AliasLaws.{room_next}
use Rattle.ax25.proofs.CoderLaws.{room_first, tokens_done, tokens_bad, tokens_next, address_room}
use borrow.Author.Rules.{rules}
use Prim.Native.Nat.{ℕ, ◌+◌, ◌≤◌, ◌<◌}
use Rattle.ax25.proofs.encode.+put_tokens.{statement}
use Rattle.ax25.proofs.encode.+put_tokens.Goals as goal

pub returns-then-n-eq0 : goal.returns-then-n-eq0
returns-then-n-eq0 t c =
    let a = c.args in
    tokens_done a.l a.n a.f.now _ a.at c.if-n-eq0.true

pub put_address-requires : goal.put_address-requires
put_address-requires t c =
    let a = c.args in
    let pre = c.requires in
    let room = room_first a.l a.n (length a.f.now) c.if-n-eq0.false pre.3 in
    (omega (arith, room), pre.2, omega (arith, pre.5))

pub returns-in_err-p : goal.returns-in_err-p
returns-in_err-p t c =
    let put = c.put_address in
    let a = c.args in
    rw c.from_residual.ensures (tokens_bad a.l a.n a.f.now _ a.at c.if-n-eq0.false _ _ _ c.in_err-p.was put.ensures)

pub slice_bounds-put_tokens-count : goal.slice_bounds-put_tokens-count
slice_bounds-put_tokens-count t c =
    let a = c.args in
    let h : a.l + 1 ≤ length a.f.now = room_first a.l a.n (length a.f.now) c.if-n-eq0.false c.requires.3 in
    h

pub slice_bounds-put_tokens-start : goal.slice_bounds-put_tokens-start
slice_bounds-put_tokens-start t c =
    let a = c.args in
    let h : a.l + 1 ≤ length a.f.now = room_first a.l a.n (length a.f.now) c.if-n-eq0.false c.requires.3 in
    h

pub put_tokens-requires : goal.put_tokens-requires
put_tokens-requires t c =
    let a = c.args in
    let pre = c.requires in
    let other = c.if-n-eq0.false in
    let room = room_next a.l a.n (length a.f.now) other pre.3 in
    let size = ap length (from_place a.f.now (a.l + 1)) ∙ length-drop (a.l + 1) a.f.now in
    let put = c.put_address in
    let p = address_room a.l pre.1 pre.2 _ a.at _ _ _ c.in_ok-p.was false a.f.now put.ensures in
    (omega (arith, other), (omega (arith, pre.0), pre.1, pre.2, omega (arith, room.1, size), omega (arith, pre.4, size), omega (arith, pre.5, p, other)))

pub returns : goal.returns
returns t c =
    let rest = c.put_tokens in
    let put = c.put_address in
    let a = c.args in
    tokens_next a.l a.n a.f.now _ a.at c.if-n-eq0.false _ _ _ _ c.in_ok-p.was put.ensures _ rest.ensures
