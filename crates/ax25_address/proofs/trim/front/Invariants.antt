-- `ax25_address::trim::front` meets its contract. The bytes passed are white space.
-- Assumes nothing.
use mathlib.Core.Path.{◌≡◌}
use lib.ListN.{drop}
use Rattle.laws.specs.Text.{trim_front}
use Rattle.ax25_address.specs.Address.{white_in}
use Rattle.ax25_address.proofs.trim.front.Given as goal

abbrev pub invariant-loop-i : goal.invariant-loop-i
invariant-loop-i l = trim_front (white_in l.call) (drop l.i l.s) ≡ trim_front (white_in l.call) l.s
