-- The proof of the cycle of calls {put_tokens}. The measure is how many fields there are.
-- Assumes nothing.
use native.Mathlib.Omega.{arith}
use mathlib.Core.Path.{ap, ◌∙◌}
use mathlib.Core.Bool.{false}
use lib.ListN.{length, length-drop}
use Rattle.laws.proofs.ListLaws.{from_place}
use Rattle.ax25_address.proofs.AliasLaws.{room_next}
use Rattle.ax25.proofs.CoderLaws.{room_first, tokens_done, tokens_bad, tokens_next, address_room}
use borrow.Author.Rules.{rules}
use Prim.Native.Nat.{ℕ, ◌+◌, ◌≤◌, ◌<◌}
use Rattle.ax25.proofs.encode.+put_tokens.{statement}
use Rattle.ax25.proofs.encode.+put_tokens.Given as goal

abbrev pub decreases-put_tokens : goal.decreases-put_tokens
decreases-put_tokens l = l.n
