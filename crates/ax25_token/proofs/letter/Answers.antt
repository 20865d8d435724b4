-- `ax25_token::letter` meets its contract.
-- Assumes nothing.
use mathlib.Core.Path.{refl}
use Rattle.ax25_token.specs.Tables.{call_alphabet}
use Rattle.ax25_token.proofs.letter.Goals as goal

pub returns : goal.returns
unfolding call_alphabet
returns c = refl
