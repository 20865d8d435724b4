-- The receiver without its tallies, over lists of calls.
-- Assumes nothing.
use mathlib.Core.List.{List, [], ◌∷◌}
use Rattle.std.proofs.Common.{Option, None, Some}
use Prim.Native.Nat.{ℕ}
use Rattle.receiver.specs.Join.{Heard, After, reset_of, join_of}
use Rattle.receiver.specs.Push.{push_of}
use Rattle.receiver.specs.declared.Joiner.{Joiner}
use Rattle.gateway.specs.Run.{Call, push, join, reset}

pub record Bare : Type 0 where
  pub receiver : Joiner
  pub store : List ℕ

abbrev pub bare : Joiner → List ℕ → Bare
bare r s = record { receiver = r; store = s }

pub record BareStep : Type 0 where
  pub answer : Option Heard
  pub next : Bare

abbrev pub bare_seen : After Joiner → BareStep
bare_seen a = record { answer = Some a.heard; next = bare a.receiver a.store }

abbrev pub bare_step : Bare → Call → BareStep
bare_step t (push f field) = bare_seen (push_of t.receiver t.store f field)
bare_step t (join f n) = bare_seen (join_of t.receiver t.store f n)
bare_step t reset = record { answer = None; next = bare (reset_of t.receiver) t.store }

unfoldable pub bare_run : Bare → List Call → List (Option Heard)
bare_run t [] = []
bare_run t (c ∷ cs) = (bare_step t c).answer ∷ bare_run (bare_step t c).next cs

unfoldable pub bare_left : Bare → List Call → Bare
bare_left t [] = t
bare_left t (c ∷ cs) = bare_left (bare_step t c).next cs
