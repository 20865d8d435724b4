-- `kiss::encode_found` meets its contract.
-- Assumes nothing.
use Rattle.refusals.proofs.OutcomeLaws.{exit_err}
use native.Mathlib.Omega.{arith}
use Rattle.ax25_address.specs.Record.{record_of}
use Rattle.ax25.specs.Encode.{encode_of}
use Rattle.kiss.proofs.EncodeLaws.{run_refused, run_short, run_copied, frame_run_fits}
use Rattle.kiss.proofs.TellLaws.{lies_within}
use borrow.Author.Rules.{rules}
use Rattle.kiss.proofs.encode_found.Goals as goal

pub returns-then-out-size : goal.returns-then-out-size
returns-then-out-size c =
    let d = c.encode in
    let a = c.args in
    run_short a.out.now _ _ d.result _ c.in_ok-size.was (encode_of a.command a.«data».now) d.ensures c.if-out-size.true

pub returns-then-room-size : goal.returns-then-room-size
returns-then-room-size c =
    let w = c.encode-then-room-size in
    let d = c.encode in
    let a = c.args in
    frame_run_fits a.command a.«data».now (record_of a.r) c.requires.1 a.out.now _ _ d.result d.ensures _ c.in_ok-size.was c.if-out-size.false w.new.out w.result w.ensures

pub slice_bounds-copy_all-end : goal.slice_bounds-copy_all-end
slice_bounds-copy_all-end c =
    let d = c.encode in
    lies_within d.new.out _ d.auto.out (omega (arith, c.if-room-size.false))

pub returns-in_err-size : goal.returns-in_err-size
returns-in_err-size c =
    let d = c.encode in
    let a = c.args in
    rw (exit_err _ _ c.from_residual.ensures.1)
    (run_refused a.out.now _ _ d.result (encode_of a.command a.«data».now) d.ensures _ c.in_err-size.was)

pub returns : goal.returns
returns c =
    let w = c.copy_all in
    let d = c.encode in
    let a = c.args in
    let size_is = c.in_ok-size.was in
    let z = run_copied a.out.now _ d.new.out d.result _ size_is (encode_of a.command a.«data».now) d.ensures (omega (arith, c.if-room-size.false)) _ w.new.out w.ensures in
    frame_run_fits a.command a.«data».now (record_of a.r) c.requires.1 a.out.now _ _ d.result d.ensures _ size_is c.if-out-size.false w.new.out d.result z
