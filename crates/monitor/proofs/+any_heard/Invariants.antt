-- The proof of the cycle of calls {any_heard}. The measure is how many fields there are.
-- Assumes nothing.
use Rattle.monitor.proofs.+any_heard.Given as goal

abbrev pub decreases-any_heard : goal.decreases-any_heard
decreases-any_heard l = l.n
