-- `Joiner::refusal` meets its contract.
-- Assumes nothing.
use borrow.Author.Tests.{eq-eqb, le-ltb}
use mathlib.Core.Path.{sym, ◌∙◌}
use mathlib.Core.Logic.{inl, inr}
use Rattle.laws.specs.Pick.{pick}
use Rattle.receiver.specs.Join.{refusal_of}
use Rattle.receiver.proofs.JoinLaws.{refusal_store, refusal_held, refusal_few}
use Rattle.receiver.proofs.Joiner.refusal.Goals as goal

pub returns-then-len-ne-RX_BUFFER : goal.returns-then-len-ne-RX_BUFFER
returns-then-len-ne-RX_BUFFER c =
    elim c.then-len-ne-RX_BUFFER.either [
      | inl h ↦ sym (refusal_store _ _ h)
      | inr h ↦ elim h [ inl h ↦ sym (refusal_held _ _ h.0 h.1) | inr h ↦ sym (refusal_few _ _ h.0 h.1 h.2) ]
    ]

pub returns-then-mask_ok : goal.returns-then-mask_ok
unfolding refusal_of pick
returns-then-mask_ok c =
    simp (eq-eqb _ _ c.if-len-ne-RX_BUFFER.false, le-ltb _ _ c.if-self-gt-RX_BUFFER.false, le-ltb _ _ c.if-self-gt-RX_MAX_FRAGMENTS.false, sym c.mask_ok.ensures ∙ c.if-mask_ok.true)

pub returns : goal.returns
unfolding refusal_of pick
returns c =
    simp (eq-eqb _ _ c.if-len-ne-RX_BUFFER.false, le-ltb _ _ c.if-self-gt-RX_BUFFER.false, le-ltb _ _ c.if-self-gt-RX_MAX_FRAGMENTS.false, sym c.mask_ok.ensures ∙ c.if-mask_ok.false)
