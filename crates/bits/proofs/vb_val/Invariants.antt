-- `bits::vb_val` meets its contract. What is left of the text, from a on, gives what all gives from 0.
-- Assumes nothing.
use mathlib.Core.Path.{◌≡◌}
use lib.ListN.{drop}
use Rattle.bits.specs.Val.{val_from, val_of}
use Rattle.bits.proofs.vb_val.Given as goal

abbrev pub invariant-loop-c : goal.invariant-loop-c
invariant-loop-c l = val_of l.s ≡ val_from l.a (drop l.c-index l.s)
