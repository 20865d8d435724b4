-- `kiss::decode_frame` meets its contract.
-- Assumes nothing.
use Rattle.refusals.specs.declared.Refusal.TheVariants as refusal
use Rattle.refusals.proofs.OutcomeLaws.{exit_missing}
use borrow.Author.Rules.{rules}
use native.Mathlib.Omega.{arith}
use Rattle.kiss.proofs.DecodeLaws.{letters, frame_none, frame_short, frame_fits, frame_copied}
use Rattle.kiss.proofs.TellLaws.{lies_within}
use Rattle.kiss.proofs.decode_frame.Goals as goal

pub decode-requires : goal.decode-requires
decode-requires c =
    let l = c.call_len-l in
    let k = letters c.args.command l.result l.ensures in
    (search rules, k.0, k.1)

pub returns-in_err-needed : goal.returns-in_err-needed
returns-in_err-needed c =
    let a = c.args in
    let l = c.call_len-l in
    let d = c.decode in
    rw (exit_missing refusal.NotDecoded c.in_err-needed.ensures.value c.in_err-needed.ensures.ok_part _ c.from_residual.ensures.1)
    (frame_none a.mended a.command l.result _ a.message.now l.ensures a.out.now _ d.new.out d.result d.ensures c.in_err-needed.ensures.ok_part)

pub returns-then-out-needed : goal.returns-then-out-needed
returns-then-out-needed c =
    let a = c.args in
    let l = c.call_len-l in
    let d = c.decode in
    frame_short a.mended a.command l.result _ a.message.now l.ensures a.out.now _ d.new.out d.result d.ensures _ c.in_ok-needed.ensures.ok_part c.if-out-needed.true

pub decode-requires-then-room-needed : goal.decode-requires-then-room-needed
decode-requires-then-room-needed c =
    let l = c.call_len-l in
    let k = letters c.args.command l.result l.ensures in
    (search rules, k.0, k.1)

pub returns-then-room-needed : goal.returns-then-room-needed
returns-then-room-needed c =
    let a = c.args in
    let l = c.call_len-l in
    let d = c.decode in
    let w = c.decode-then-room-needed in
    frame_fits a.mended a.command l.result _ a.message.now l.ensures a.out.now _ d.new.out d.result d.ensures _ c.in_ok-needed.ensures.ok_part c.if-out-needed.false w.new.out w.result w.ensures

pub slice_bounds-copy_all-end : goal.slice_bounds-copy_all-end
slice_bounds-copy_all-end c =
    let d = c.decode in
    lies_within d.new.out _ d.auto.out (omega (arith, c.if-room-needed.false))

pub returns : goal.returns
returns c =
    let a = c.args in
    let l = c.call_len-l in
    let d = c.decode in
    let w = c.copy_all in
    frame_copied a.mended a.command l.result _ a.message.now l.ensures a.out.now _ d.new.out d.result d.ensures _ c.in_ok-needed.ensures.ok_part c.if-out-needed.false (omega (arith, c.if-room-needed.false)) _ w.new.out w.ensures
