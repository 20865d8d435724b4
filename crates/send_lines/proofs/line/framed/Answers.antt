-- `send_lines::line::framed` meets its contract.
-- Assumes nothing.
use mathlib.Core.Path.{refl, ap}
use native.Mathlib.Omega.{arith}
use lib.ListN.{length}
use Rattle.std.proofs.lemmas.Result.{err_from_is_err_and}
use Rattle.texts.proofs.ShowLaws.{hex_length}
use Rattle.send_lines.proofs.LineLaws.{frame_refused, frame_short, frame_lined}
use Rattle.send_lines.proofs.line.framed.Goals as goal

pub returns-in_err-n : goal.returns-in_err-n
returns-in_err-n c =
    let a = c.args in
    let exit = err_from_is_err_and c.from_residual.result c.from_residual.ensures.1 in
    rw (exit.1, exit.2) (frame_refused a.field a.«data».now _ _ c.build_frame.result _ c.in_err-n.was c.build_frame.ensures refl _ _)

pub byte-requires : goal.byte-requires
byte-requires c =
    let few = frame_short c.args.field c.args.«data».now _ _ c.build_frame.result _ c.in_ok-n.was c.build_frame.ensures in
    omega (arith, c.requires, few, ap length c.front.ensures, c.put_hex-end.ensures.next_is, hex_length c.front.result.now)

pub returns : goal.returns
returns c =
    let a = c.args in
    frame_lined a.field a.«data».now _ _ c.build_frame.result _ c.in_ok-n.was c.build_frame.ensures (rw c.front.ensures at c.put_hex-end.ensures) c.byte.ensures
