-- `ax25_body::body::message_encode` meets its contract.
-- Assumes nothing.
use native.Mathlib.Omega.{arith}
use mathlib.Core.Path.{refl}
use mathlib.Core.Bool.{false}
use Prim.Native.Nat.{◌-◌}
use lib.ListN.{take, drop, length-take, length-drop}
use Rattle.laws.specs.Bits.{unpack}
use Rattle.ax25_token.specs.Token.{token_bits}
use Rattle.ax25_token.proofs.PutLaws.{gave, bad}
use Rattle.ax25_aprs.specs.Body.{call_of}
use Rattle.ax25_aprs.specs.Coded.{or_refused}
use Rattle.ax25_aprs.specs.Text.{text_bits}
use Rattle.ax25_body.proofs.CodeLaws.{front_min, rest_min, does_gave, does_bad, gave_near, message_is}
use borrow.Author.Rules.{rules}
use Rattle.refusals.specs.declared.Refusal.TheVariants as refusal
use Rattle.refusals.proofs.OutcomeLaws.{exit_none}
use Rattle.ax25_body.proofs.body.message_encode.Goals as goal

pub returns-in_err-p : goal.returns-in_err-p
returns-in_err-p c =
    let a = c.args in
    let s = a.s.now in
    let n = c.least-n in
    let x = take (n.result) s in
    let f = c.put_trimmed in
    let o = token_bits a.l (call_of x) in
    let u = unpack a.out.now in
    let v = unpack f.new.out in
    rw (message_is a.l s x (drop 10 s) (front_min s 9 n.result n.ensures) refl)
    (does_bad 4 o (or_refused 5 (text_bits false (drop 10 s))) u a.at v _ (exit_none refusal.BadCall c.in_err-p.ensures.value c.in_err-p.ensures.ok_part _ c.from_residual.ensures.1) (bad u a.at v o f.result c.in_err-p.ensures.ok_part f.ensures))

pub text_encode-requires : goal.text_encode-requires
text_encode-requires c =
    let a = c.args in
    let pre = c.requires in
    let s = a.s.now in
    let n = c.least-n in
    let m = c.least-m in
    let x = take (n.result) s in
    let f = c.put_trimmed in
    let u = unpack a.out.now in
    let v = unpack f.new.out in
    let g = gave u a.at v (token_bits a.l (call_of x)) f.result _ c.in_ok-p.ensures.ok_part f.ensures in
    let near = gave_near a.l pre.2 pre.3 x (omega (arith, n.ensures, length-take (n.result) s)) u a.at v _ g in
    rw (rest_min s 10 m.result m.ensures) (omega (arith, near, pre.0, pre.1, length-drop 10 s))

pub returns : goal.returns
returns c =
    let a = c.args in
    let s = a.s.now in
    let n = c.least-n in
    let m = c.least-m in
    let x = take (n.result) s in
    let f = c.put_trimmed in
    let o = token_bits a.l (call_of x) in
    let u = unpack a.out.now in
    let v = unpack f.new.out in
    let g = gave u a.at v o f.result _ c.in_ok-p.ensures.ok_part f.ensures in
    rw (message_is a.l s x (drop 10 s) (front_min s 9 n.result n.ensures) refl)
    (does_gave 4 o (or_refused 5 (text_bits false (drop 10 s))) u a.at _ v _ _ g (rw (rest_min s 10 m.result m.ensures) at c.text_encode.ensures))
