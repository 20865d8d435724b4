-- `ax25_address::call_bytes::put_base` meets its contract. The first i letters are written.
-- Assumes nothing.
use mathlib.Core.Path.{◌≡◌}
use Prim.Native.Nat.{◌+◌, ◌-◌, ◌≤◌}
use lib.ListN.{length, take}
use Rattle.laws.specs.Wrote.{Wrote}
use Rattle.ax25_address.proofs.CallField.{field_letters}
use Rattle.ax25_address.proofs.call_bytes.put_base.Given as goal

abbrev pub invariant-loop-i : goal.invariant-loop-i
invariant-loop-i l = (l.i ≤ l.l) × (l.next ≡ l.to + l.i) × (length l.out ≡ length l.initial.out) × Wrote l.initial.out l.to (take l.i (field_letters l.l l.b)) l.out l.next

abbrev pub decreases-loop-i : goal.decreases-loop-i
decreases-loop-i l = l.l - l.i
