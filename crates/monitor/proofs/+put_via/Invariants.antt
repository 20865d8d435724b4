-- The proof of the cycle of calls {put_via}. The measure is how many fields there are.
-- Assumes nothing.
use Rattle.monitor.proofs.+put_via.Given as goal

abbrev pub decreases-put_via : goal.decreases-put_via
decreases-put_via l = l.n
