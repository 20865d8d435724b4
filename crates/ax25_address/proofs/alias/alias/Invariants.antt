-- `ax25_address::alias::alias` meets its contract. The invariant: the search from the i-th name on is the whole search.
-- Assumes nothing.
use mathlib.Core.Path.{◌≡◌}
use Prim.Native.Nat.{◌+◌}
use lib.ListN.{drop}
use Rattle.ax25_address.specs.Parse.{aliases, alias_from, alias_of}
use Rattle.ax25_address.proofs.AliasLaws.{digis}
use Rattle.ax25_address.proofs.alias.alias.Given as goal

abbrev pub invariant-loop-i : goal.invariant-loop-i
invariant-loop-i l = alias_from (l.i + 1) (drop l.i aliases) (digis l.l l.n l.f) ≡ alias_of (digis l.l l.n l.f)
