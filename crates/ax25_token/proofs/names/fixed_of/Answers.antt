-- `ax25_token::names::fixed_of` meets its contract, a law for each row.
-- Assumes nothing.
use mathlib.Core.Path.{sym, ◌∙◌}
use Rattle.ax25_token.proofs.NameLaws.{fixed_all, fixed_cq, fixed_later}
use Rattle.ax25_token.proofs.names.fixed_of.Goals as goal

pub returns-then-same : goal.returns-then-same
returns-then-same c = fixed_all _ (sym c.same.ensures ∙ c.if-same.true)

pub returns-then-same-2 : goal.returns-then-same-2
returns-then-same-2 c = fixed_cq _ (sym c.same.ensures ∙ c.if-same.false) (sym c.same-2.ensures ∙ c.if-same-2.true)

pub returns : goal.returns
returns c = c.fixed_ap.ensures ∙ fixed_later _ (sym c.same.ensures ∙ c.if-same.false) (sym c.same-2.ensures ∙ c.if-same-2.false)
