-- `frame::Control::byte` meets its contract.
-- Assumes nothing.
use native.Mathlib.Omega.{arith}
use mathlib.Core.Path.{◌∙◌}
use Rattle.frame.proofs.FlagLaws.{byte_num}
use Rattle.frame.specs.Frame.{control_byte}
use Rattle.frame.proofs.Control.byte.Goals as goal

pub returns : goal.returns
unfolding control_byte
returns c =
    let a = c.args in
    omega (arith, c.from.ensures ∙ byte_num a.self.compressed, c.from-2.ensures ∙ byte_num a.full)
