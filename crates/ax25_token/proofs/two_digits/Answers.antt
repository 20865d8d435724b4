-- `ax25_token::two_digits` meets its contract.
-- Assumes nothing.
use native.Mathlib.Omega.{arith}
use Rattle.ax25_token.proofs.CallLaws.{append_digits}
use Rattle.ax25_token.proofs.two_digits.Goals as goal

pub returns : goal.returns
returns c = (append_digits _ _ _ _ c.push-d.ensures.0 c.push.ensures.0, omega arith)
