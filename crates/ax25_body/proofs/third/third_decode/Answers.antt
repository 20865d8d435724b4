-- `ax25_body::third::third_decode` meets its contract.
-- Assumes nothing.
use native.Mathlib.Omega.{arith}
use mathlib.Core.Path.{refl}
use lib.ListN.{drop}
use Rattle.laws.specs.Bits.{unpack}
use Rattle.laws.specs.Text.{ascii}
use Rattle.laws.proofs.WroteLaws.{wrote_then}
use Rattle.ax25_aprs.proofs.PartLaws.{reads_then}
use Rattle.ax25_body.specs.Read.{read_inner}
use Rattle.ax25_body.proofs.ThirdLaws.{passed, passed_none, passed_near, third_first, third_second, third_last, third_all}
use borrow.Author.Rules.{rules}
use Rattle.ax25_body.proofs.third.third_decode.Goals as goal

pub returns-in_err-p : goal.returns-in_err-p
returns-in_err-p c =
    let a = c.args in
    let b = drop a.at (unpack a.s.now) in
    rw (third_first a.mended a.l b (passed_none _ _ _ _ _ _ _ c.in_err-p.was c.call_decode.ensures)) c.from_residual.ensures

pub call_decode-requires-2 : goal.call_decode-requires-2
call_decode-requires-2 c =
    let p = passed _ _ _ _ _ _ _ _ _ c.in_ok-p.was c.call_decode.ensures in
    let a = passed_near _ _ _ _ _ _ _ _ p in
    (search rules, search rules, search rules, search rules, omega (arith, a, c.requires))

pub returns-in_err-q : goal.returns-in_err-q
returns-in_err-q c =
    let a = c.args in
    let b = drop a.at (unpack a.s.now) in
    let p = passed _ _ _ _ _ _ _ _ _ c.in_ok-p.was c.call_decode.ensures in
    rw (third_second a.mended a.l b p.text _ p.is (passed_none _ _ _ _ _ _ _ c.in_err-q.was c.call_decode-2.ensures)) c.from_residual-in_err-q.ensures

pub call_decode-requires-3 : goal.call_decode-requires-3
call_decode-requires-3 c =
    let p = passed _ _ _ _ _ _ _ _ _ c.in_ok-p.was c.call_decode.ensures in
    let q = passed _ _ _ _ _ _ _ _ _ c.in_ok-q.was c.call_decode-2.ensures in
    let a = passed_near _ _ _ _ _ _ _ _ p in
    let b = passed_near _ _ _ _ _ _ _ _ q in
    (search rules, search rules, search rules, search rules, omega (arith, a, b, c.requires))

pub returns-in_err-r : goal.returns-in_err-r
returns-in_err-r c =
    let a = c.args in
    let b = drop a.at (unpack a.s.now) in
    let p = passed _ _ _ _ _ _ _ _ _ c.in_ok-p.was c.call_decode.ensures in
    let q = passed _ _ _ _ _ _ _ _ _ c.in_ok-q.was c.call_decode-2.ensures in
    rw (third_last a.mended a.l b p.text _ p.is q.text _ q.is (passed_none _ _ _ _ _ _ _ c.in_err-r.was c.call_decode-3.ensures)) c.from_residual-in_err-r.ensures

pub inner_decode-requires : goal.inner_decode-requires
inner_decode-requires c =
    let p = passed _ _ _ _ _ _ _ _ _ c.in_ok-p.was c.call_decode.ensures in
    let q = passed _ _ _ _ _ _ _ _ _ c.in_ok-q.was c.call_decode-2.ensures in
    let r = passed _ _ _ _ _ _ _ _ _ c.in_ok-r.was c.call_decode-3.ensures in
    let a = passed_near _ _ _ _ _ _ _ _ p in
    let b = passed_near _ _ _ _ _ _ _ _ q in
    let d = passed_near _ _ _ _ _ _ _ _ r in
    let pre = c.requires in
    (pre.0, omega (arith, a, b, d, pre), pre.2, pre.3)

pub returns : goal.returns
returns c =
    let a = c.args in
    let u = unpack a.s.now in
    let p = passed _ _ (ascii "}") _ _ _ _ _ _ c.in_ok-p.was c.call_decode.ensures in
    let q = passed _ _ (ascii ">") _ _ _ _ _ _ c.in_ok-q.was c.call_decode-2.ensures in
    let r = passed _ _ (ascii ",TCPIP,") _ _ _ _ _ _ c.in_ok-r.was c.call_decode-3.ensures in
    let rest = drop c.in_ok-r.r u in
    rw (third_all a.mended a.l (drop a.at u) p.text _ p.is q.text _ q.is r.text rest r.is)
    (reads_then (wrote_then p.wrote (wrote_then q.wrote r.wrote)) (read_inner a.mended a.l rest) _ _ c.inner_decode.ensures)
