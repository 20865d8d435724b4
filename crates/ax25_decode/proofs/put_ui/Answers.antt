-- `ax25_decode::put_ui` meets its contract.
-- Assumes nothing.
use native.Mathlib.Omega.{arith}
use Rattle.laws.proofs.WroteLaws.{wrote_none, wrote_then, wrote_as}
use Rattle.ax25_decode.proofs.HeadLaws.{by_odd, by_even}
use borrow.Author.Rules.{rules}
use Rattle.ax25_decode.proofs.put_ui.Goals as goal

pub returns-then-header-eq1 : goal.returns-then-header-eq1
returns-then-header-eq1 c = record { wrote = wrote_as (by_odd _ _ _ c.if-header-eq1.true) (wrote_then c.byte-p.ensures c.byte.ensures); upper_bound = omega (arith, c.byte-p.ensures.next_is, c.byte.ensures.next_is) }

pub returns : goal.returns
returns c = record { wrote = wrote_as (by_even _ _ _ c.if-header-eq1.false) wrote_none; upper_bound = omega arith }
