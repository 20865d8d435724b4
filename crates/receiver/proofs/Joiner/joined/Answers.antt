-- `Joiner::joined` meets its contract: each way out is a case of the definition, where the state is not refused.
-- Assumes nothing.
use mathlib.Core.Path.{sym, ◌∙◌}
use mathlib.Core.Logic.{inl, inr}
use native.Mathlib.Omega.{arith}
use lib.ListN.{length}
use Rattle.receiver.proofs.JoinLaws.{refused_none, join_empty, join_past, join_on}
use Rattle.receiver.proofs.Joiner.joined.Goals as goal

pub returns-then-n-eq0 : goal.returns-then-n-eq0
returns-then-n-eq0 c =
    elim c.then-n-eq0.either [
      | inl h ↦ sym (join_empty _ _ _ _ c.requires h)
      | inr h ↦ sym (join_past _ _ _ _ c.requires h.0 h.1)
    ]

pub accept-requires : goal.accept-requires
accept-requires c =
    let s = refused_none c.args.self (length c.args.store.now) c.requires in record { store_len = (s.store, (s.fit, s.few)); n_nonzero = (omega (arith, c.if-n-eq0.false), c.if-f-n.false) }

pub returns : goal.returns
returns c =
    c.accept.ensures
    ∙ sym (join_on _ _ _ _ c.requires c.if-n-eq0.false c.if-f-n.false)
