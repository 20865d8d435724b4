-- `ax25::encode::body_start` meets its contract.
-- Assumes nothing.
use mathlib.Core.Path.{sym, ◌∙◌}
use Rattle.laws.proofs.Cases.{pick_true, pick_false}
use borrow.Author.Rules.{rules}
use Rattle.ax25.proofs.encode.body_start.Goals as goal

pub returns-then-is_ui : goal.returns-then-is_ui
returns-then-is_ui c = sym (pick_true _ _ (sym c.is_ui.ensures ∙ c.if-is_ui.true))

pub returns : goal.returns
returns c = sym (pick_false _ _ (sym c.is_ui.ensures ∙ c.if-is_ui.false))
