-- `ax25_aprs::text::selves` meets its contract. The first n codes stand for themselves.
-- Assumes nothing.
use mathlib.Core.Path.{◌≡◌}
use Prim.Native.Nat.{◌+◌, ◌-◌, ◌*◌, ◌≤◌}
use lib.ListN.{length, drop}
use Rattle.laws.specs.Bits.{unpack}
use Rattle.ax25_aprs.specs.Selves.{Selves}
use Rattle.ax25_aprs.proofs.text.selves.Given as goal

abbrev pub invariant-loop-i : goal.invariant-loop-i
invariant-loop-i l = (l.i ≡ l.at + l.n * 7) × (l.n * 7 ≤ length l.s * 8 - l.at) × Selves l.n (drop l.at (unpack l.s))

abbrev pub decreases-loop-i : goal.decreases-loop-i
decreases-loop-i l = length l.s * 8 - l.i
