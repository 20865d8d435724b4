-- `ax25_token::encode::same` meets its contract.
-- Assumes nothing.
use Rattle.laws.specs.Text.{same}
use Rattle.ax25_token.proofs.encode.same.Goals as goal

pub returns : goal.returns
unfolding same
returns c = c.eq.ensures
