-- `ax25_aprs::text::text_encode` meets its contract. What is left to code is the text after its first i bytes.
-- Assumes nothing.
use mathlib.Core.Path.{◌≡◌}
use mathlib.Core.Bool.{Bool}
use mathlib.Core.List.{List}
use Prim.Native.Nat.{ℕ, ◌+◌, ◌-◌, ◌*◌, ◌≤◌}
use lib.ListN.{length, drop}
use Rattle.laws.specs.Bits.{unpack}
use Rattle.ax25_aprs.specs.Coded.{or_refused}
use Rattle.ax25_aprs.specs.Text.{text_bits}
use Rattle.ax25_aprs.specs.Put.{Does}
use Rattle.std.proofs.Common.{Result}
use Rattle.refusals.specs.declared.Refusal.{Refusal}
use Rattle.ax25_aprs.proofs.text.text_encode.Given as goal

abbrev pub invariant-loop-i : goal.invariant-loop-i
invariant-loop-i l =
    (l.i ≤ length l.s) × (length l.out ≡ length l.initial.out) × (l.next + (length l.s - l.i) * 7 ≤ l.at + length l.s * 7)
    × ((e : List Bool) (r : Result ℕ Refusal) → Does (or_refused 5 (text_bits l.position (drop l.i l.s))) (unpack l.out) l.next e r → Does (or_refused 5 (text_bits l.position l.s)) (unpack l.initial.out) l.at e r)

abbrev pub decreases-loop-i : goal.decreases-loop-i
decreases-loop-i l = length l.s - l.i
