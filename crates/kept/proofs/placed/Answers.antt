-- `kept::placed` meets its contract.
-- Assumes nothing.
use mathlib.Core.Path.{refl, sym, ap, ◌∙◌}
use Rattle.refusals.specs.Outcome.{refused}
use Rattle.receiver.proofs.JoinLaws.{code_is, code_not, code_none}
use Rattle.kept.proofs.Checks.{placed_bad, placed_name, placed_at, or_place}
use Rattle.kept.proofs.placed.Goals as goal

pub returns-in-Some : goal.returns-in-Some
returns-in-Some c = ap refused (sym (code_is refl c.in-Some.is)) ∙ sym (placed_bad _ _ _ _ (code_not refl c.in-Some.is))

pub returns-then-not-name_ok : goal.returns-then-not-name_ok
returns-then-not-name_ok c = sym (placed_name _ _ _ _ (code_none refl c.in_default.is) (sym c.name_ok.ensures ∙ c.if-not-name_ok.true))

pub returns : goal.returns
returns c =
    or_place c.args.place c.args.n c.ok_or.ensures.value
    ∙ sym (placed_at _ _ _ _ (code_none refl c.in_default.is) (sym c.name_ok.ensures ∙ c.if-not-name_ok.false))
