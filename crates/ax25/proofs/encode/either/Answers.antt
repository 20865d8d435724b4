-- `ax25::encode::either` meets its contract.
-- Assumes nothing.
use native.Mathlib.Omega.{arith}
use mathlib.Core.Path.{sym}
use Rattle.laws.proofs.Cases.{pick_true, pick_false}
use Rattle.ax25.proofs.encode.either.Goals as goal

pub returns-then-b : goal.returns-then-b
returns-then-b c = (sym (pick_true _ _ c.if-b.true), omega arith)

pub returns-else-b : goal.returns-else-b
returns-else-b c = (sym (pick_false _ _ c.if-b.false), omega arith)
