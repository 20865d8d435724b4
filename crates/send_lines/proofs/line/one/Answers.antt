-- `send_lines::line::one` meets its contract.
-- Assumes nothing.
use mathlib.Core.Path.{refl}
use Rattle.std.proofs.lemmas.Result.{err_from_is_err_and}
use Rattle.send_lines.proofs.LineLaws.{fragment_refused, fragment_framed}
use Rattle.send_lines.proofs.line.one.Goals as goal

pub returns-in_err-n : goal.returns-in_err-n
returns-in_err-n c =
    let a = c.args in
    let exit = err_from_is_err_and c.from_residual.result c.from_residual.ensures.1 in
    rw (exit.1, exit.2) (fragment_refused a.message.now a.job.field a.job.mask a.k _ _ c.fragment.result _ c.in_err-n.was c.fragment.ensures refl _ _)

pub returns : goal.returns
returns c =
    let a = c.args in
    fragment_framed a.message.now a.job.field a.job.mask a.k _ _ c.fragment.result _ c.in_ok-n.was c.fragment.ensures _ _ _ _ (rw c.front.ensures at c.framed.ensures)
