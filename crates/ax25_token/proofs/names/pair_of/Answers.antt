-- `ax25_token::names::pair_of` meets its contract, a law for each row.
-- Assumes nothing.
use mathlib.Core.Path.{sym, ◌∙◌}
use Rattle.ax25_token.proofs.NameLaws.{row_wide, row_pnw, row_mw, row_or, row_wa, row_none}
use Rattle.ax25_token.proofs.names.pair_of.Goals as goal

pub returns-then-is_wide : goal.returns-then-is_wide
returns-then-is_wide c = let whole = row_wide _ (sym c.is_wide.ensures ∙ c.if-is_wide.true) in record { c_value = whole.0; small_row = whole.1 }

pub returns-then-is_pair : goal.returns-then-is_pair
returns-then-is_pair c = let whole = row_pnw _ (sym c.is_wide.ensures ∙ c.if-is_wide.false) (sym c.is_pair.ensures ∙ c.if-is_pair.true) in record { c_value = whole.0; small_row = whole.1 }

pub returns-then-is_pair-2 : goal.returns-then-is_pair-2
returns-then-is_pair-2 c = let whole = row_mw _ (sym c.is_wide.ensures ∙ c.if-is_wide.false) (sym c.is_pair.ensures ∙ c.if-is_pair.false) (sym c.is_pair-2.ensures ∙ c.if-is_pair-2.true) in record { c_value = whole.0; small_row = whole.1 }

pub returns-then-is_pair-3 : goal.returns-then-is_pair-3
returns-then-is_pair-3 c = let whole = row_or _ (sym c.is_wide.ensures ∙ c.if-is_wide.false) (sym c.is_pair.ensures ∙ c.if-is_pair.false) (sym c.is_pair-2.ensures ∙ c.if-is_pair-2.false) (sym c.is_pair-3.ensures ∙ c.if-is_pair-3.true) in record { c_value = whole.0; small_row = whole.1 }

pub returns-then-is_pair-4 : goal.returns-then-is_pair-4
returns-then-is_pair-4 c = let whole = row_wa _ (sym c.is_wide.ensures ∙ c.if-is_wide.false) (sym c.is_pair.ensures ∙ c.if-is_pair.false) (sym c.is_pair-2.ensures ∙ c.if-is_pair-2.false) (sym c.is_pair-3.ensures ∙ c.if-is_pair-3.false) (sym c.is_pair-4.ensures ∙ c.if-is_pair-4.true) in record { c_value = whole.0; small_row = whole.1 }

pub returns : goal.returns
returns c = let whole = row_none _ (sym c.is_wide.ensures ∙ c.if-is_wide.false) (sym c.is_pair.ensures ∙ c.if-is_pair.false) (sym c.is_pair-2.ensures ∙ c.if-is_pair-2.false) (sym c.is_pair-3.ensures ∙ c.if-is_pair-3.false) (sym c.is_pair-4.ensures ∙ c.if-is_pair-4.false) in record { c_value = whole.0; small_row = whole.1 }
