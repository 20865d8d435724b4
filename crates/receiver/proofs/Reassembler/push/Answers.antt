-- `Reassembler::push` meets its contract: each way out is a case of the definition.
-- Assumes nothing.
use mathlib.Core.Path.{sym, ap, ◌∙◌}
use Rattle.receiver.specs.Tally.{counted}
use Rattle.receiver.proofs.JoinLaws.{code_none}
use Rattle.receiver.proofs.TallyLaws.{push_turned, push_refuses_field, push_full, push_counts}
use Rattle.receiver.proofs.Reassembler.push.Goals as goal

pub returns-in-Some : goal.returns-in-Some
returns-in-Some c = c.refused.ensures _ ∙ sym (push_turned _ _ _ _ c.refusal.ensures c.in-Some.is)

pub returns-then-not-field_ok : goal.returns-then-not-field_ok
returns-then-not-field_ok c =
    c.refused-then-not-field_ok.ensures _
    ∙ sym (push_refuses_field _ _ _ _ (code_none c.refusal.ensures c.in_default.is) (sym c.field_ok.ensures ∙ c.if-not-field_ok.true))

pub returns-then-full : goal.returns-then-full
returns-then-full c =
    c.refused-then-full.ensures _
    ∙ sym (push_full _ _ _ _ (code_none c.refusal.ensures c.in_default.is) (sym c.field_ok.ensures ∙ c.if-not-field_ok.false) (sym c.full.ensures ∙ c.if-full.true))

pub returns : goal.returns
returns c =
    c.counted.ensures _
    ∙ ap (counted c.args.self.tallies) c.pushed.ensures
    ∙ sym (push_counts _ _ _ _ (code_none c.refusal.ensures c.in_default.is) (sym c.field_ok.ensures ∙ c.if-not-field_ok.false) (sym c.full.ensures ∙ c.if-full.false))
