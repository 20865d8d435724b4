-- The proof of the cycle of calls {are_alias}. The measure is how many fields there are.
-- Assumes nothing.
use Rattle.ax25_address.proofs.alias.+are_alias.Given as goal

abbrev pub decreases-are_alias : goal.decreases-are_alias
decreases-are_alias l = l.n
