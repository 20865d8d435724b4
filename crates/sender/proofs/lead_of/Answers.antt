-- `sender::lead_of` meets its contract.
-- Assumes nothing.
use native.Mathlib.Omega.{arith}
use mathlib.Core.Path.{sym}
use Rattle.sender.proofs.SendLaws.{lead_more, lead_last}
use Rattle.sender.proofs.lead_of.Goals as goal

pub returns-then-k-count : goal.returns-then-k-count
returns-then-k-count c = let a = c.args in sym (lead_more a.first a.k a.count (omega arith))

pub returns-else-k-count : goal.returns-else-k-count
returns-else-k-count c = let a = c.args in sym (lead_last a.first a.k a.count (omega arith))
