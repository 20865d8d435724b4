-- The proof of the cycle of calls {put_heard}. The measure is how many fields there are.
-- Assumes nothing.
use native.Mathlib.Omega.{arith}
use mathlib.Core.Path.{ap, ◌∙◌}
use lib.ListN.{length, length-drop}
use Rattle.laws.proofs.ListLaws.{from_place}
use Rattle.ax25_address.proofs.AliasLaws.{room_next}
use Rattle.ax25.proofs.CoderLaws.{room_first, heard_done, heard_wrote}
use borrow.Author.Rules.{rules}
use Prim.Native.Nat.{ℕ, ◌+◌, ◌≤◌, ◌<◌}
use Rattle.ax25.proofs.encode.+put_heard.{statement}
use Rattle.ax25.proofs.encode.+put_heard.Given as goal

abbrev pub decreases-put_heard : goal.decreases-put_heard
decreases-put_heard l = l.n
