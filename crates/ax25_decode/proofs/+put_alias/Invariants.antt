-- The proof of the cycle of calls {put_alias}. The measure is how many digipeaters there are.
-- Assumes nothing.
use mathlib.Core.Path.{◌∙◌, ap}
use mathlib.Core.List.{[]}
use mathlib.Core.Bool.{Bool}
use native.Mathlib.Omega.{arith}
use lib.Dec.{eqb}
use lib.ListN.{get_or}
use Rattle.laws.specs.Bits.{unpack}
use Rattle.laws.specs.Pick.{pick}
use Rattle.ax25_token.specs.Call.{text_of}
use Rattle.ax25_address.specs.Parse.{aliases}
use Rattle.ax25_decode.proofs.ReaderLaws.{bytes_next, alias_end, alias_more}
use borrow.Author.Rules.{rules}
use Prim.Native.Nat.{ℕ, ◌+◌, ◌<◌}
use Rattle.ax25_decode.proofs.+put_alias.{statement}
use Rattle.ax25_decode.proofs.+put_alias.Given as goal

abbrev pub decreases-put_alias : goal.decreases-put_alias
decreases-put_alias l = l.n
