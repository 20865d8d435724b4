-- `ax25_body::third::call_encode` meets its contract.
-- Assumes nothing.
use native.Mathlib.Omega.{arith}
use Prim.Native.Nat.{◌-◌}
use lib.ListN.{take, length-take}
use Rattle.laws.specs.Bits.{unpack}
use Rattle.ax25_token.specs.Token.{token_bits}
use Rattle.ax25_token.proofs.PutLaws.{gave, bad}
use Rattle.ax25_aprs.specs.Body.{call_of}
use Rattle.ax25_body.proofs.PieceLaws.{codes_exit, found_is, found_within, found_short, codes_short, codes_bad, codes_gave}
use borrow.Author.Rules.{rules}
use Rattle.refusals.specs.declared.Refusal.TheVariants as refusal
use Rattle.refusals.proofs.OutcomeLaws.{missing_is}
use Rattle.ax25_body.proofs.third.call_encode.Goals as goal

pub returns-in_err-f : goal.returns-in_err-f
returns-in_err-f c =
    let a = c.args in
    let r = c.collect in
    codes_exit _ _ _ _ _ _ _ _ c.from_residual.ensures.1
    (rw (missing_is refusal.Short c.in_err-f.ensures.value c.in_err-f.ensures.ok_part) (codes_short _ _ _ _ _ _ (found_short 10 a.d.now r.result _ c.in_err-f.ensures.ok_part r.ensures.result_value)))

pub put_trimmed-requires : goal.put_trimmed-requires
put_trimmed-requires c =
    let a = c.args in
    let d = a.d.now in
    let r = c.collect in
    let w = found_within 10 d r.result c.in_ok-f.f c.in_ok-f.ensures.ok_part r.ensures.within in
    (omega (arith, w.0, length-take (c.in_ok-f.f.end) d), search rules)

pub returns-in_err-p : goal.returns-in_err-p
returns-in_err-p c =
    let a = c.args in
    let d = a.d.now in
    let r = c.collect in
    let w = found_within 10 d r.result c.in_ok-f.f c.in_ok-f.ensures.ok_part r.ensures.within in
    let f = c.put_trimmed in
    let o = token_bits a.l (call_of (take c.in_ok-f.f.end d)) in
    let u = unpack a.out.now in
    let v = unpack f.new.out in
    codes_exit _ _ _ _ _ _ _ _ c.from_residual-in_err-p.ensures.1
    (rw (missing_is refusal.BadCall c.in_err-p.ensures.value c.in_err-p.ensures.ok_part) (codes_bad _ _ _ _ _ _ c.in_ok-f.f.end c.in_ok-f.f.next (found_is 10 d r.result _ c.in_ok-f.f c.in_ok-f.ensures.ok_part r.ensures.result_value)
    (bad u a.at v o f.result c.in_err-p.ensures.ok_part f.ensures)))

pub returns : goal.returns
returns c =
    let a = c.args in
    let d = a.d.now in
    let r = c.collect in
    let w = found_within 10 d r.result c.in_ok-f.f c.in_ok-f.ensures.ok_part r.ensures.within in
    let pre = c.requires in
    let f = c.put_trimmed in
    let o = token_bits a.l (call_of (take c.in_ok-f.f.end d)) in
    let u = unpack a.out.now in
    let v = unpack f.new.out in
    codes_gave _ _ _ _ _ _ pre.1 pre.2 c.in_ok-f.f.end c.in_ok-f.f.next _ (found_is 10 d r.result _ c.in_ok-f.f c.in_ok-f.ensures.ok_part r.ensures.result_value) (omega (arith, w.0, length-take c.in_ok-f.f.end d)) w.2
    (gave u a.at v o f.result _ c.in_ok-p.ensures.ok_part f.ensures)
