-- `ax25_token::encode::put_letters` meets its contract. The invariant: what codes the letters that are left, from here, codes all of them.
-- Assumes nothing.
use Rattle.std.proofs.Common.{Option}
use mathlib.Core.Path.{◌≡◌}
use mathlib.Core.Bool.{Bool}
use mathlib.Core.List.{List, map}
use Prim.Native.Nat.{◌+◌, ◌*◌, ℕ}
use lib.ListN.{drop}
use Rattle.laws.specs.Bits.{unpack}
use Rattle.ax25_token.specs.Put.{cased_of, Puts}
use Rattle.ax25_token.specs.Token.{spell}
use Rattle.ax25_token.proofs.encode.put_letters.Given as goal

abbrev pub invariant-loop-x : goal.invariant-loop-x
invariant-loop-x l =
    (l.p ≡ l.at + l.x-index * 6)
    × ((d : List Bool) (r : Option ℕ) → Puts (unpack l.out) l.p (spell (map (cased_of l.up) (drop l.x-index l.c))) d r → Puts (unpack l.initial.out) l.at (spell (map (cased_of l.up) l.c)) d r)
