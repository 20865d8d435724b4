-- `texts::hex::digit_of` meets its contract: the table is the definition's.
-- Assumes nothing.
use mathlib.Core.Path.{refl}
use Rattle.texts.specs.Hex.{digit_of}
use Rattle.texts.proofs.hex.digit_of.Goals as goal

pub returns : goal.returns
unfolding digit_of
returns c = refl
