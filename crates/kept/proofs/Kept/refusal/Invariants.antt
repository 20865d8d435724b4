-- `kept::Kept::refusal` meets its contract. What is left of the slots is still to be looked at.
-- Assumes nothing.
use mathlib.Core.Path.{◌≡◌}
use Prim.Native.Nat.{max}
use lib.ListN.{drop}
use Rattle.receiver.specs.Join.{code_of}
use Rattle.kept.specs.Keep.{kept_refusal}
use Rattle.kept.proofs.Kept.refusal.Given as goal

abbrev pub invariant-loop-slot : goal.invariant-loop-slot
invariant-loop-slot l = kept_refusal l.slot-items ≡ max (code_of l.refusal) (kept_refusal (drop l.slot-index l.slot-items))
