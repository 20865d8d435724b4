-- `ax25_decode::decode` meets its contract.
-- Assumes nothing.
use mathlib.Core.Path.{refl}
use native.Mathlib.Omega.{arith}
use Rattle.laws.specs.Bits.{unpack}
use Rattle.laws.proofs.ByteLaws.{length_unpack}
use Rattle.ax25.specs.Decode.{read_head}
use Rattle.ax25_decode.proofs.BodyLaws.{headed, unheaded, frame_none, head_place, frame_some}
use borrow.Author.Rules.{rules}
use Rattle.ax25_decode.proofs.decode.Goals as goal

pub returns-in_err-p : goal.returns-in_err-p
returns-in_err-p c =
    let a = c.args in
    let b = unpack a.s.now in
    let n = c.digi_count in
    let h = c.read_head in
    rw (frame_none a.mended a.l a.header n.result b n.ensures.0 (unheaded a.l b (read_head a.mended a.l n.result b) _ _ h.result h.ensures c.in_err-p.was)) c.from_residual.ensures

pub put_ui-behind-requires : goal.put_ui-behind-requires
put_ui-behind-requires c =
    let a = c.args in
    let b = unpack a.s.now in
    let n = c.digi_count in
    let h = c.read_head in
    let k = headed a.l b (read_head a.mended a.l n.result b) _ _ h.result h.ensures _ _ _ c.in_ok-p.was in
    omega (arith, head_place a.mended a.l a.header n.result b n.ensures.0 _ _ _ _ _ k c.requires.2)

pub read_info-requires : goal.read_info-requires
read_info-requires c =
    let a = c.args in
    let b = unpack a.s.now in
    let n = c.digi_count in
    let h = c.read_head in
    let k = headed a.l b (read_head a.mended a.l n.result b) _ _ h.result h.ensures _ _ _ c.in_ok-p.was in
    let q = head_place a.mended a.l a.header n.result b n.ensures.0 _ _ _ _ _ k c.requires.2 in
    (c.requires.0, omega (arith, k.reaches, length_unpack a.s.now), c.requires.1, c.requires.2, omega (arith, q, c.put_ui-behind.ensures.upper_bound))

pub returns : goal.returns
returns c =
    let a = c.args in
    let b = unpack a.s.now in
    let n = c.digi_count in
    let h = c.read_head in
    let k = headed a.l b (read_head a.mended a.l n.result b) _ _ h.result h.ensures _ _ _ c.in_ok-p.was in
    let r = c.read_info in
    frame_some a.mended a.l a.header n.result b n.ensures.0 _ _ _ _ _ k _ _ c.put_ui-behind.ensures.wrote r.new.out r.result r.ensures
