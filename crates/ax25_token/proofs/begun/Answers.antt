-- `ax25_token::begun` meets its contract.
-- Assumes nothing.
use mathlib.Core.Path.{refl}
use Rattle.ax25_token.specs.Call.{appended}
use Rattle.ax25_token.proofs.begun.Goals as goal

pub returns : goal.returns
unfolding appended
returns c = (refl, refl)
