-- The proof of the cycle of calls {read_tokens}. The measure is how many digipeaters there are.
-- Assumes nothing.
use native.Mathlib.Omega.{arith}
use lib.Dec.{eqb}
use lib.ListN.{drop}
use Rattle.laws.specs.Bits.{unpack}
use Rattle.ax25_token.specs.Token.{read_token}
use Rattle.ax25_decode.specs.Put.{field_of}
use Rattle.ax25_decode.proofs.ReaderLaws.{took, untaken, place_next, tokens_end, tokens_none, tokens_more}
use borrow.Author.Rules.{rules}
use Prim.Native.Nat.{ℕ, ◌<◌}
use Rattle.ax25_decode.proofs.+read_tokens.{statement}
use Rattle.ax25_decode.proofs.+read_tokens.Given as goal

abbrev pub decreases-read_tokens : goal.decreases-read_tokens
decreases-read_tokens l = l.n
