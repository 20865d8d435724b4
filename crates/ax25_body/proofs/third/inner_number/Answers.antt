-- `ax25_body::third::inner_number` meets its contract.
-- Assumes nothing.
use native.Mathlib.Omega.{arith}
use mathlib.Core.Path.{sym, ◌∙◌}
use borrow.Author.Tests.{eq-eqb, ne_eqb}
use Rattle.ax25_body.proofs.PieceLaws.{number_zero, number_one, number_two, number_last}
use borrow.Author.Rules.{rules}
use Rattle.ax25_body.proofs.third.inner_number.Goals as goal

pub returns-then-opens : goal.returns-then-opens
returns-then-opens c = (number_zero c.args.d.now (sym c.opens.ensures ∙ c.if-opens.true), omega arith)

pub returns-then-opens-2 : goal.returns-then-opens-2
returns-then-opens-2 c = (number_one c.args.d.now (sym c.opens.ensures ∙ c.if-opens.false) (sym c.opens-2.ensures ∙ c.if-opens-2.true), omega arith)

pub returns-then-d-eq58 : goal.returns-then-d-eq58
returns-then-d-eq58 c = (number_two c.args.d.now (sym c.opens.ensures ∙ c.if-opens.false) (sym c.opens-2.ensures ∙ c.if-opens-2.false) (eq-eqb _ 0x3A c.if-d-eq58.true), omega arith)

pub returns : goal.returns
returns c = (number_last c.args.d.now (sym c.opens.ensures ∙ c.if-opens.false) (sym c.opens-2.ensures ∙ c.if-opens-2.false) (ne_eqb _ 0x3A c.if-d-eq58.false), omega arith)
