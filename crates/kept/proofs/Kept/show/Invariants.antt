-- `kept::Kept::show` meets its contract. The slots that were seen have flags that are 0 or 1.
-- Assumes nothing.
use mathlib.Core.Path.{◌≡◌}
use Rattle.kept.specs.Told.{to_slot}
use Rattle.kept.proofs.Flags.{firsts}
use Rattle.kept.proofs.Kept.show.Given as goal

abbrev pub invariant-loop-slot : goal.invariant-loop-slot
invariant-loop-slot l = l.slot-items ≡ firsts to_slot l.slot-index l.initial.slot-items
