-- `ax25_address::address::halved` meets its contract: the call holds the letters before the place.
-- Assumes nothing.
use mathlib.Core.Path.{◌≡◌}
use mathlib.Core.List.{map}
use lib.ListN.{take}
use Rattle.ax25_token.specs.Call.{empty, appended}
use Rattle.ax25_address.specs.Address.{half}
use Rattle.ax25_address.proofs.address.halved.Given as goal

abbrev pub invariant-loop-x : goal.invariant-loop-x
invariant-loop-x l = (l.c ≡ appended empty (map half (take l.x-index l.x-items))) × (l.c.len ≡ l.x-index)
