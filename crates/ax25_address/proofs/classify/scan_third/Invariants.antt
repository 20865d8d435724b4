-- `ax25_address::classify::scan_third` meets its contract. The answer is that of the rest with the counts so far, which are at most the place.
-- Assumes nothing.
use mathlib.Core.Path.{◌≡◌}
use Prim.Native.Nat.{◌≤◌}
use lib.ListN.{drop}
use Rattle.ax25_address.specs.Classify.{scan_third}
use Rattle.ax25_address.proofs.classify.scan_third.Given as goal

abbrev pub invariant-loop-i : goal.invariant-loop-i
invariant-loop-i l = (l.gt ≤ l.i) × (l.comma ≤ l.i) × (scan_third l.gt l.comma (drop l.i l.d) ≡ scan_third 0 0 l.d)
