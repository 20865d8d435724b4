-- `send_lines::line::coded` meets its contract.
-- Assumes nothing.
use mathlib.Core.Path.{ap, ◌∙◌}
use native.Mathlib.Omega.{arith}
use lib.ListN.{length}
use Rattle.kiss.proofs.CodeBounds.{code_bounds}
use Rattle.send_lines.specs.Line.{coded_text, data_text}
use Rattle.send_lines.proofs.LineLaws.{code_refused, code_bytes}
use Rattle.send_lines.proofs.line.coded.Goals as goal

pub frames-requires : goal.frames-requires
frames-requires c =
    let a = c.args in
    let h = code_bytes a.command a.«data».now _ _ c.encode.result c.encode.ensures _ _ c.in-Ok.is in
    omega (arith, ap length (c.front.ensures ∙ h.front), (code_bounds a.command a.«data».now h.it h.is).fits)

pub returns-in-Ok : goal.returns-in-Ok
unfolding data_text coded_text
returns-in-Ok c =
    let a = c.args in
    let h = code_bytes a.command a.«data».now _ _ c.encode.result c.encode.ensures _ _ c.in-Ok.is in
    rw h.is (rw (c.front.ensures ∙ h.front) at c.frames.ensures)

pub returns-in-Err : goal.returns-in-Err
unfolding data_text coded_text
returns-in-Err c =
    let a = c.args in
    let none = code_refused a.command a.«data».now _ _ c.encode.result c.encode.ensures (omega (arith, c.zeros-message.ensures)) _ c.in-Err.is in
    rw (none, ← c.from.ensures) c.put_refusal.ensures
