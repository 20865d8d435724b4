-- `texts::say::put_error` meets its contract.
-- Assumes nothing.
use Rattle.texts.specs.Say.{error_line}
use Rattle.texts.proofs.say.put_error.Goals as goal

pub returns : goal.returns
unfolding error_line
returns c = c.put_line.ensures
