-- `ax25_decode::read_head` meets its contract.
-- Assumes nothing.
use Prim.Native.Nat.{◌≤◌}
use native.Mathlib.Omega.{arith}
use lib.Dec.{eqb}
use lib.ListN.{length, drop}
use Rattle.laws.specs.Bits.{unpack}
use Rattle.laws.proofs.ByteLaws.{length_unpack}
use Rattle.ax25.specs.Decode.{read_digis}
use Rattle.ax25_decode.specs.Put.{ends_bytes, digi_bytes, read_ends, read_type}
use Rattle.ax25_decode.proofs.HeadLaws.{head_short, head_ends, head_digis, head_type, head_some, ends_place, typed, untyped}
use Rattle.ax25_decode.proofs.ReaderLaws.{took, untaken}
use borrow.Author.Rules.{rules}
use Rattle.ax25_decode.proofs.read_head.Goals as goal

pub returns-then-bits_in-n : goal.returns-then-bits_in-n
returns-then-bits_in-n c =
    let a = c.args in
    head_short a.mended a.l a.n (unpack a.s.now) (omega (arith, c.if-bits_in-n.true, c.bits_in.ensures, length_unpack a.s.now))

pub returns-in_err-p : goal.returns-in_err-p
returns-in_err-p c =
    let a = c.args in
    let b = unpack a.s.now in
    let room : a.n ≤ length b = omega (arith, c.if-bits_in-n.false, c.bits_in.ensures, length_unpack a.s.now) in
    rw c.from_residual.ensures
    (head_ends a.mended a.l a.n b room
    (untaken (ends_bytes a.l (eqb a.n 0)) b (read_ends a.mended a.l (drop a.n b)) _ 0 _ _ c.read_ends.ensures c.in_err-p.was))

pub read_digis-requires : goal.read_digis-requires
read_digis-requires c =
    let pre = c.requires in
    let a = c.args in
    let b = unpack a.s.now in
    let t = took (ends_bytes a.l (eqb a.n 0)) b (read_ends a.mended a.l (drop a.n b)) _ 0 _ _ c.read_ends.ensures _ _ c.in_ok-p.was in
    (pre.0, pre.1, pre.2, pre.3, omega (arith, c.if-bits_in-n.false, c.bits_in.ensures), omega (arith, ends_place a.l (eqb a.n 0) t, pre.2))

pub returns-in_err-u : goal.returns-in_err-u
returns-in_err-u c =
    let a = c.args in
    let b = unpack a.s.now in
    let room : a.n ≤ length b = omega (arith, c.if-bits_in-n.false, c.bits_in.ensures, length_unpack a.s.now) in
    let p = c.in_ok-p.p in
    let t = took (ends_bytes a.l (eqb a.n 0)) b (read_ends a.mended a.l (drop a.n b)) _ 0 _ _ c.read_ends.ensures _ _ c.in_ok-p.was in
    let y = c.is_ap-ap in
    rw c.from_residual-in_err-u.ensures
    (head_digis a.mended a.l a.n b room t.value (drop p b) t.is y.result y.ensures
    (untaken (digi_bytes a.l b a.n 0) b (read_digis a.mended a.l y.result a.n (drop p b)) _ _ _ _ c.read_digis.ensures c.in_err-u.was))

pub returns-in_err-typ : goal.returns-in_err-typ
returns-in_err-typ c =
    let a = c.args in
    let b = unpack a.s.now in
    let room : a.n ≤ length b = omega (arith, c.if-bits_in-n.false, c.bits_in.ensures, length_unpack a.s.now) in
    let p = c.in_ok-p.p in
    let u = c.in_ok-u.u in
    let t = took (ends_bytes a.l (eqb a.n 0)) b (read_ends a.mended a.l (drop a.n b)) _ 0 _ _ c.read_ends.ensures _ _ c.in_ok-p.was in
    let y = c.is_ap-ap in
    let d = took (digi_bytes a.l b a.n 0) b (read_digis a.mended a.l y.result a.n (drop p b)) _ _ _ _ c.read_digis.ensures _ _ c.in_ok-u.was in
    rw c.from_residual-in_err-typ.ensures
    (head_type a.mended a.l a.n b room t.value (drop p b) t.is y.result y.ensures d.value (drop u b) d.is
    (untyped b (read_type y.result (drop u b)) c.read_type.result c.read_type.ensures c.in_err-typ.was))

pub returns : goal.returns
returns c =
    let a = c.args in
    let b = unpack a.s.now in
    let room : a.n ≤ length b = omega (arith, c.if-bits_in-n.false, c.bits_in.ensures, length_unpack a.s.now) in
    let p = c.in_ok-p.p in
    let u = c.in_ok-u.u in
    let t = took (ends_bytes a.l (eqb a.n 0)) b (read_ends a.mended a.l (drop a.n b)) _ 0 _ _ c.read_ends.ensures _ _ c.in_ok-p.was in
    let y = c.is_ap-ap in
    let d = took (digi_bytes a.l b a.n 0) b (read_digis a.mended a.l y.result a.n (drop p b)) _ _ _ _ c.read_digis.ensures _ _ c.in_ok-u.was in
    let k = typed b (read_type y.result (drop u b)) c.read_type.result c.read_type.ensures _ _ c.in_ok-typ.was in
    head_some a.mended a.l a.n b room t.value (drop p b) t.is y.result y.ensures d.value (drop u b) d.is _ _ k.0 k.1 c.requires.3 _ _ _ _ _ t.wrote d.wrote
