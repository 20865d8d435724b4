-- `ax25_address::trim::copied` meets its contract: the call holds the bytes before the place.
-- Assumes nothing.
use mathlib.Core.Path.{◌≡◌}
use mathlib.Core.List.{map}
use lib.ListN.{length, take}
use Rattle.ax25_token.specs.declared.Call.{Call}
use Rattle.ax25_token.specs.Call.{empty, appended}
use Rattle.ax25_token.specs.Put.{cased_of}
use Rattle.ax25_address.proofs.trim.copied.Given as goal

abbrev pub invariant-loop-i : goal.invariant-loop-i
invariant-loop-i l = (length l.bytes ≡ 16) × (◌≡◌ {A = Call} (record { bytes = l.bytes; len = l.i }) (appended empty (map (cased_of l.up) (take l.i l.s))))
