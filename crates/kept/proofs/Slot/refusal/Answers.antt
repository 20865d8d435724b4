-- `kept::Slot::refusal` meets its contract.
-- Assumes nothing.
use mathlib.Core.Path.{sym, ap, ◌∙◌}
use Rattle.laws.proofs.Cases.{pick_true, pick_false}
use Rattle.receiver.specs.Join.{refusal_of}
use Rattle.receiver.specs.declared.Reassembler.{Reassembler}
use Rattle.kept.specs.Keep.{refusal_in}
use Rattle.kept.proofs.Slot.refusal.Goals as goal

pub returns-then-not-name_ok : goal.returns-then-not-name_ok
unfolding refusal_in
returns-then-not-name_ok c = sym (pick_false _ 0 (sym c.name_ok.ensures ∙ c.if-not-name_ok.true))

pub returns : goal.returns
unfolding refusal_in
returns c =
    c.refusal.ensures
    ∙ ap (λ (x : Reassembler). refusal_of x.state 5000) c.from-receiver.ensures
    ∙ sym (pick_true _ 0 (sym c.name_ok.ensures ∙ c.if-not-name_ok.false))
