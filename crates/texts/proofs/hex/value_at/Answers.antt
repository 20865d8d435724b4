-- `texts::hex::value_at` meets its contract: each byte of the text is a digit.
-- Assumes nothing.
use native.Mathlib.Omega.{arith}
use Rattle.texts.proofs.HexLaws.{hex_digit}
use Rattle.texts.proofs.hex.value_at.Goals as goal

pub returns : goal.returns
returns c = (c.digit.ensures.0, omega (arith, c.digit.ensures.0, hex_digit c.args.text.now c.requires.0 c.args.i c.requires.1))
