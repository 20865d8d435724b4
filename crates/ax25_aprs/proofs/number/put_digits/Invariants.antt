-- `ax25_aprs::number::put_digits` meets its contract. What is left to write is the low digits.
-- Assumes nothing.
use mathlib.Core.Path.{◌≡◌}
use mathlib.Core.List.{List}
use Prim.Native.Nat.{ℕ, ◌+◌, ◌-◌}
use lib.ListN.{length}
use Rattle.laws.specs.Digits.{digits}
use Rattle.laws.specs.Wrote.{Wrote}
use Rattle.ax25_aprs.proofs.number.put_digits.Given as goal

abbrev pub invariant-loop-left : goal.invariant-loop-left
invariant-loop-left l =
    (length l.out ≡ length l.initial.out) × (l.next ≡ l.at + (l.n - l.left))
    × ((e : List ℕ) (r : ℕ) → Wrote l.out l.next (digits l.left l.v) e r → Wrote l.initial.out l.at (digits l.n l.v) e r)
