-- `ax25_decode::read_info` meets its contract.
-- Assumes nothing.
use native.Mathlib.Omega.{arith}
use Prim.Native.Nat.{◌≤◌}
use lib.ListN.{length}
use Rattle.laws.specs.Bits.{unpack}
use Rattle.laws.proofs.ByteLaws.{length_unpack}
use Rattle.ax25_aprs.proofs.PartLaws.{reads}
use Rattle.ax25_decode.proofs.BodyLaws.{info_text, info_binary, info_third, info_body, text7_reads}
use borrow.Author.Rules.{rules}
use Rattle.ax25_decode.proofs.read_info.Goals as goal

pub returns-in-Text : goal.returns-in-Text
returns-in-Text c =
    let a = c.args in
    let b = unpack a.s.now in
    let room : a.at ≤ length b = omega (arith, c.requires.1, length_unpack a.s.now) in
    let t = c.text7_at.ensures in
    rw (info_text a.mended a.l b a.at a.typ c.in-Text.is room) (text7_reads _ _ _ _ _ t.0 t.1)

pub returns-in-Binary : goal.returns-in-Binary
returns-in-Binary c =
    let a = c.args in
    let b = unpack a.s.now in
    rw (info_binary a.mended a.l b a.at a.typ c.in-Binary.is) (reads c.read_bytes.ensures)

pub returns-in-ThirdParty : goal.returns-in-ThirdParty
returns-in-ThirdParty c =
    let a = c.args in
    let b = unpack a.s.now in
    rw (info_third a.mended a.l b a.at a.typ c.in-ThirdParty.is) c.third_decode.ensures

pub returns-in_default : goal.returns-in_default
returns-in_default c =
    let a = c.args in
    let b = unpack a.s.now in
    rw (info_body a.mended a.l b a.at a.typ (c.in_default.not-Text, c.in_default.not-Binary, c.in_default.not-ThirdParty)) c.aprs_decode.ensures
