-- `texts::number::decimal` meets its contract. The number so far, with the rest after it, is that of the whole.
-- Assumes nothing.
use mathlib.Core.Path.{◌≡◌}
use lib.ListN.{drop}
use Rattle.texts.specs.Number.{number_from}
use Rattle.texts.proofs.number.decimal.Given as goal

abbrev pub invariant-loop-c : goal.invariant-loop-c
invariant-loop-c l = number_from l.v (drop l.c-index l.text) ≡ number_from 0 l.text
