-- `ax25_decode::type_width` meets its contract.
-- Assumes nothing.
use mathlib.Core.Path.{sym}
use native.Mathlib.Omega.{arith}
use Rattle.laws.proofs.Cases.{pick_true, pick_false}
use Rattle.ax25_decode.proofs.type_width.Goals as goal

pub returns-then-ap : goal.returns-then-ap
returns-then-ap c = (sym (pick_true 3 1 c.if-ap.true), omega arith, omega arith)

pub returns-else-ap : goal.returns-else-ap
returns-else-ap c = (sym (pick_false 3 1 c.if-ap.false), omega arith, omega arith)
