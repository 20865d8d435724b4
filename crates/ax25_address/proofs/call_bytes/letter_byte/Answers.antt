-- `ax25_address::call_bytes::letter_byte` meets its contract.
-- Assumes nothing.
use mathlib.Core.Path.{refl, ◌∙◌}
use Rattle.ax25_token.proofs.PutLaws.{cased_up}
use Rattle.ax25_address.proofs.CallField.{letter_there, letter_blank}
use Rattle.ax25_address.proofs.call_bytes.letter_byte.Goals as goal

pub returns-else-i-b : goal.returns-else-i-b
returns-else-i-b c = letter_blank _ c.args.b.now _ c.requires c.if-i-b.false

pub returns-then-i-b : goal.returns-then-i-b
returns-then-i-b c = letter_there _ c.args.b.now _ c.requires _ (c.cased.ensures ∙ cased_up _ _ refl) c.if-i-b.true
