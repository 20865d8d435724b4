-- `Reassembler::join` meets its contract: each way out is a case of the definition.
-- Assumes nothing.
use mathlib.Core.Path.{sym, ap, ◌∙◌}
use Rattle.receiver.specs.Tally.{counted}
use Rattle.receiver.proofs.JoinLaws.{code_none}
use Rattle.receiver.proofs.TallyLaws.{join_turned, join_full, join_counts}
use Rattle.receiver.proofs.Reassembler.join.Goals as goal

pub returns-in-Some : goal.returns-in-Some
returns-in-Some c = c.refused.ensures _ ∙ sym (join_turned _ _ _ _ c.refusal.ensures c.in-Some.is)

pub returns-then-full : goal.returns-then-full
returns-then-full c =
    c.refused-then-full.ensures _ ∙ sym (join_full _ _ _ _ (code_none c.refusal.ensures c.in_default.is) (sym c.full.ensures ∙ c.if-full.true))

pub returns : goal.returns
returns c =
    c.counted.ensures _
    ∙ ap (counted c.args.self.tallies) c.joined.ensures
    ∙ sym (join_counts _ _ _ _ (code_none c.refusal.ensures c.in_default.is) (sym c.full.ensures ∙ c.if-full.false))
