-- `ax25_decode::digi_count` meets its contract.
-- Assumes nothing.
use mathlib.Core.Path.{◌∙◌}
use native.Mathlib.Omega.{arith}
use native.Mathlib.Numerals.{add-one}
use Rattle.ax25_decode.proofs.HeadLaws.{by_odd, by_even}
use borrow.Author.Rules.{rules}
use Rattle.ax25_decode.proofs.digi_count.Goals as goal

pub returns-then-header-eq1 : goal.returns-then-header-eq1
returns-then-header-eq1 c = (add-one _ ∙ by_odd _ _ _ c.if-header-eq1.true, omega arith)

pub returns : goal.returns
returns c = (by_even _ _ _ c.if-header-eq1.false, omega arith)
