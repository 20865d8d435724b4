-- `ax25_address::trim::end` meets its contract. The bytes passed, from the end, are white space.
-- Assumes nothing.
use mathlib.Core.Path.{◌≡◌}
use lib.ListN.{take}
use Rattle.laws.specs.Text.{trim_end}
use Rattle.ax25_address.specs.Address.{white_in}
use Rattle.ax25_address.proofs.trim.end.Given as goal

abbrev pub invariant-loop-i : goal.invariant-loop-i
invariant-loop-i l = trim_end (white_in l.call) (take l.i l.s) ≡ trim_end (white_in l.call) l.s
