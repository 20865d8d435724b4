-- `ax25_aprs::text::text_decode` meets its contract. What is left to write is the text after the bits that were read.
-- Assumes nothing.
use mathlib.Core.Path.{◌≡◌}
use mathlib.Core.List.{List}
use Prim.Native.Nat.{ℕ, ◌+◌, ◌-◌, ◌*◌, ◌≤◌}
use lib.ListN.{length, drop}
use Rattle.laws.specs.Bits.{unpack}
use Rattle.ax25_aprs.specs.Text.{read_text}
use Rattle.laws.specs.Wrote.{Wrote}
use Rattle.ax25_aprs.proofs.text.text_decode.Given as goal

abbrev pub invariant-loop-out : goal.invariant-loop-out
invariant-loop-out l =
    (length l.out ≡ length l.initial.out) × (l.next + (length l.s * 8 + 14 - l.i) * 2 ≤ l.to + (length l.s * 8 + 14) * 2)
    × ((e : List ℕ) (r : ℕ) → Wrote l.out l.next (read_text l.position (drop l.i (unpack l.s))) e r → Wrote l.initial.out l.to (read_text l.position (drop l.at (unpack l.s))) e r)

abbrev pub decreases-loop-out : goal.decreases-loop-out
decreases-loop-out l = length l.s * 8 - l.i
