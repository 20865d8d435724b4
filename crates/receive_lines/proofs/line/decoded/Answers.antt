-- `receive_lines::line::decoded` meets its contract.
-- Assumes nothing.
use mathlib.Core.Path.{◌∙◌}
use Rattle.receive_lines.specs.Line.{decoded_text}
use Rattle.receive_lines.proofs.LineLaws.{decode_refused, decode_bytes}
use Rattle.receive_lines.proofs.line.decoded.Goals as goal

pub returns-in-Err : goal.returns-in-Err
unfolding decoded_text
returns-in-Err c =
    let none = decode_refused _ c.args.message.now _ _ c.decode.result c.decode.ensures c.requires.0 _ c.in-Err.is in
    rw (none, ← c.from.ensures) c.put_refusal.ensures

pub returns-in-Ok : goal.returns-in-Ok
unfolding decoded_text
returns-in-Ok c =
    let h = decode_bytes _ c.args.message.now _ _ c.decode.result c.decode.ensures _ _ c.in-Ok.is in
    rw h.is (rw (h.beside, c.front.ensures ∙ h.front) at c.put_done.ensures)
