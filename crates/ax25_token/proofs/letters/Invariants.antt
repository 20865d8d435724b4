-- `ax25_token::letters` meets its contract. What finishes the reading from here finishes the whole.
-- Assumes nothing.
use Prim.Native.Nat.{ℕ, ◌+◌, ◌-◌, ◌≤◌}
use Rattle.std.proofs.Common.{Option, ◌≡◌}
use lib.ListN.{length, drop}
use Rattle.laws.specs.Bits.{unpack}
use Rattle.ax25_token.specs.declared.Call.{Call}
use Rattle.ax25_token.specs.Token.{read_letters}
use Rattle.ax25_token.proofs.CallLaws.{Onto}
use Rattle.ax25_token.proofs.letters.Given as goal

abbrev pub invariant-loop : goal.invariant-loop
invariant-loop l =
    (l.len ≤ l.initial.len + l.counter) × (length l.bytes ≡ 16)
    × ((r : Option (Call × ℕ)) → Onto (unpack l.s) (record { bytes = l.bytes; len = l.len }) (l.n - l.counter) (read_letters l.strict (l.n - l.counter) (drop l.p (unpack l.s))) r
    → Onto (unpack l.s) (record { bytes = l.initial.bytes; len = l.initial.len }) l.n (read_letters l.strict l.n (drop l.at (unpack l.s))) r)
