-- `ax25_token::names::numbered_of` meets its contract, a law for each row.
-- Assumes nothing.
use mathlib.Core.Path.{sym, ◌∙◌}
use Rattle.ax25_token.proofs.NameLaws.{range_least, count_apin, count_apww, count_apdr, count_none}
use Rattle.ax25_token.proofs.names.numbered_of.Goals as goal

pub returns-then-in_range : goal.returns-then-in_range
returns-then-in_range c = let whole = count_apin _ _ c.requires c.number_at-v.ensures (sym c.in_range.ensures ∙ c.if-in_range.true) in record { result_value = whole.0; small_count = whole.1 }

pub returns-then-in_range-2 : goal.returns-then-in_range-2
returns-then-in_range-2 c = let whole = count_apww _ _ c.requires c.number_at-v.ensures (sym c.in_range.ensures ∙ c.if-in_range.false) (sym c.in_range-2.ensures ∙ c.if-in_range-2.true) in record { result_value = whole.0; small_count = whole.1 }

pub overflow_sub-result-then-in_range-3 : goal.overflow_sub-result-then-in_range-3
overflow_sub-result-then-in_range-3 c = range_least _ _ _ _ _ (sym c.in_range-3.ensures ∙ c.if-in_range-3.true)

pub returns-then-in_range-3 : goal.returns-then-in_range-3
returns-then-in_range-3 c = let whole = count_apdr _ _ c.requires c.number_at-v.ensures (sym c.in_range.ensures ∙ c.if-in_range.false) (sym c.in_range-2.ensures ∙ c.if-in_range-2.false) (sym c.in_range-3.ensures ∙ c.if-in_range-3.true) in record { result_value = whole.0; small_count = whole.1 }

pub returns : goal.returns
returns c = let whole = count_none _ _ c.requires c.number_at-v.ensures (sym c.in_range.ensures ∙ c.if-in_range.false) (sym c.in_range-2.ensures ∙ c.if-in_range-2.false) (sym c.in_range-3.ensures ∙ c.if-in_range-3.false) in record { result_value = whole.0; small_count = whole.1 }

pub overflow_sub-result : goal.overflow_sub-result
overflow_sub-result c = range_least _ _ _ _ _ (sym c.in_range.ensures ∙ c.if-in_range.true)

pub overflow_sub-result-then-in_range-2 : goal.overflow_sub-result-then-in_range-2
overflow_sub-result-then-in_range-2 c = range_least _ _ _ _ _ (sym c.in_range-2.ensures ∙ c.if-in_range-2.true)
