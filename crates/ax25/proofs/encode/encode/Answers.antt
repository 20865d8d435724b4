-- `ax25::encode::encode` meets its contract.
-- Assumes nothing.
use native.Mathlib.Omega.{arith}
use mathlib.Core.Path.{◌≡◌, sym, subst}
use mathlib.Core.List.{List}
use Rattle.std.proofs.Common.{Some}
use mathlib.Core.Bool.{Bool}
use Prim.Native.Nat.{ℕ, ◌+◌}
use lib.Dec.{eqb}
use Rattle.laws.specs.Pick.{pick}
use Rattle.ax25.specs.Encode.{digi_code}
use Rattle.ax25_address.specs.Parse.{parse_of}
use Rattle.ax25_address.specs.Record.{Seen, record_of, seen_of}
use Rattle.ax25_address.specs.Types.{call_len}
use Rattle.ax25_address.proofs.RecordLaws.{Known, call_size, known}
use Rattle.ax25.proofs.MessageCode.{bad_codes, head_room, refused_codes, body_room, message_codes}
use borrow.Author.Rules.{rules}
use Rattle.refusals.specs.declared.Refusal.TheVariants as refusal
use Rattle.refusals.proofs.OutcomeLaws.{exit_is, exit_none}
use Rattle.ax25.proofs.encode.encode.Goals as goal

at_record : (command l : ℕ) (d : List ℕ) (s : Seen) → l ≡ call_len command → Some s ≡ seen_of command (parse_of (call_len command) d) → Some s ≡ seen_of command (parse_of l d)
at_record command l d s e f = subst (λ (m : ℕ). Some s ≡ seen_of command (parse_of m d)) (sym e) f

at_letters : (command l : ℕ) (d : List ℕ) (s : Seen) → l ≡ call_len command → Some s ≡ seen_of command (parse_of (call_len command) d) → Known command l d s
at_letters command l d s e f = known command l d s (at_record command l d s e f)

-- the header with what is known of the frame being UI
with_ui : (command n h : ℕ) (u : Bool) {v : Bool} → u ≡ v → h ≡ pick (eqb command 1) 0x10 0 + (pick u 0x40 0 + digi_code n) → h ≡ pick (eqb command 1) 0x10 0 + (pick v 0x40 0 + digi_code n)
with_ui command n h u e f = rw (← e) f

pub header-requires : goal.header-requires
header-requires c =
    let a = c.args in
    let d = a.frame.now in
    let l = c.call_len-l in
    let k = at_letters a.command l.result d (record_of a.r) l.ensures c.requires.1 in
    k.few

pub put_head-requires : goal.put_head-requires
put_head-requires c =
    let a = c.args in
    let d = a.frame.now in
    let l = c.call_len-l in
    let k = at_letters a.command l.result d (record_of a.r) l.ensures c.requires.1 in
    let few = call_size a.command in
    (omega (arith, l.ensures, few), omega (arith, l.ensures, few), omega (arith, c.requires.0), at_record a.command l.result d (record_of a.r) l.ensures c.requires.1)

pub returns-in_err-p : goal.returns-in_err-p
returns-in_err-p c =
    let a = c.args in
    let d = a.frame.now in
    let l = c.call_len-l in
    let k = at_letters a.command l.result d (record_of a.r) l.ensures c.requires.1 in
    bad_codes a.command l.result d (record_of a.r) l.ensures k _ _ _ c.put_head.ensures c.in_err-p.ensures.ok_part _ _ _
    (exit_none refusal.BadCall c.in_err-p.ensures.value c.in_err-p.ensures.ok_part _ c.from_residual.ensures.1)

pub put_body-requires : goal.put_body-requires
put_body-requires c =
    let a = c.args in
    let d = a.frame.now in
    let l = c.call_len-l in
    let k = at_letters a.command l.result d (record_of a.r) l.ensures c.requires.1 in
    let few = call_size a.command in
    let room = head_room a.command l.result d (record_of a.r) l.ensures k _ _ _ c.put_head.ensures _ c.in_ok-p.ensures.ok_part (omega (arith, l.ensures, few)) (omega (arith, l.ensures, few)) in
    (omega (arith, l.ensures, few), omega (arith, l.ensures, few), c.requires.0, omega (arith, room), at_record a.command l.result d (record_of a.r) l.ensures c.requires.1)

pub push-requires : goal.push-requires
push-requires c =
    let a = c.args in
    let d = a.frame.now in
    let l = c.call_len-l in
    let k = at_letters a.command l.result d (record_of a.r) l.ensures c.requires.1 in
    let few = call_size a.command in
    let room = head_room a.command l.result d (record_of a.r) l.ensures k _ _ _ c.put_head.ensures _ c.in_ok-p.ensures.ok_part (omega (arith, l.ensures, few)) (omega (arith, l.ensures, few)) in
    let more = body_room a.command l.result d (record_of a.r) l.ensures k _ _ _ c.put_head.ensures _ c.in_ok-p.ensures.ok_part _ _ c.put_body.ensures _ c.in_ok-q.was (omega (arith, l.ensures, few)) (omega (arith, l.ensures, few)) c.requires.0 in
    (omega arith, omega (arith, room, more))

pub returns-in_err-q : goal.returns-in_err-q
returns-in_err-q c =
    let a = c.args in
    let d = a.frame.now in
    let l = c.call_len-l in
    let k = at_letters a.command l.result d (record_of a.r) l.ensures c.requires.1 in
    refused_codes a.command l.result d (record_of a.r) l.ensures k _ _ _ c.put_head.ensures _ c.in_ok-p.ensures.ok_part _ _ c.put_body.ensures _ c.in_err-q.was _ _ _ (exit_is _ _ c.from_residual-in_err-q.ensures.1)

pub returns : goal.returns
returns c =
    let a = c.args in
    let d = a.frame.now in
    let l = c.call_len-l in
    let k = at_letters a.command l.result d (record_of a.r) l.ensures c.requires.1 in
    let header = c.header in
    message_codes a.command l.result d (record_of a.r) l.ensures k _ _ _ c.put_head.ensures _ c.in_ok-p.ensures.ok_part _ _ c.put_body.ensures _ c.in_ok-q.was
    _ (with_ui a.command a.r.digis _ _ c.is_ui.ensures header.ensures.0) header.ensures.1 _ _ c.byte.ensures (λ j h. omega (arith, c.slice_known-1.given j)) _ _ c.push.ensures.wrote (λ j h. omega (arith, c.type_inv.out j))
