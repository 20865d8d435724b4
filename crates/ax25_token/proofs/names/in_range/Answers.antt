-- `ax25_token::names::in_range` meets its contract.
-- Assumes nothing.
use mathlib.Core.Path.{◌≡◌, sym, ◌∙◌}
use mathlib.Core.Bool.{false}
use mathlib.Core.Logic.{inl, inr}
use Rattle.ax25_token.specs.Put.{in_range}
use Rattle.ax25_token.proofs.NameLaws.{range_other, range_low, range_high}
use Rattle.ax25_token.proofs.names.in_range.Goals as goal

pub returns-then-low-v : goal.returns-then-low-v
returns-then-low-v c = sym (range_high _ _ _ _ _ (sym c.starts.ensures ∙ c.if-low-v.true.0) c.if-low-v.true.1)

pub returns-else-low-v : goal.returns-else-low-v
returns-else-low-v c =
    let a = c.args in
    let out : in_range a.n.now a.low a.high a.v a.c.now ≡ false =
    elim c.if-low-v.either [
      | inl p ↦ range_low _ _ _ _ _ (sym c.starts.ensures ∙ p.0) p.1
      | inr p ↦ range_other _ _ _ _ _ (sym c.starts.ensures ∙ p)
    ] in
    cc
