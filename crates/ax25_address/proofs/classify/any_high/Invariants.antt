-- `ax25_address::classify::any_high` meets its contract. `all` has bit 80 where a byte that was passed has it.
-- Assumes nothing.
use mathlib.Core.Path.{◌≡◌}
use mathlib.Core.Bool.{◌||◌}
use Prim.Native.Nat.{◌<◌}
use lib.Dec.{leb}
use lib.ListN.{drop}
use Rattle.ax25_address.specs.Classify.{any_high}
use Rattle.ax25_address.proofs.classify.any_high.Given as goal

abbrev pub invariant-loop-x : goal.invariant-loop-x
invariant-loop-x l = (l.all < 256) × (any_high l.d ≡ (leb 0x80 l.all || any_high (drop l.x-index l.d)))
