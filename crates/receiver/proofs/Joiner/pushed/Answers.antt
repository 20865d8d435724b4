-- `Joiner::pushed` meets its contract: each way out is a case of the definition, where state and field are not refused.
-- Assumes nothing.
use mathlib.Core.Path.{sym, ◌∙◌}
use native.Mathlib.Omega.{arith}
use Rattle.receiver.proofs.PushLaws.{push_length, push_on}
use Rattle.receiver.proofs.Joiner.pushed.Goals as goal

pub returns-then-f-field : goal.returns-then-f-field
returns-then-f-field c =
    sym (push_length _ _ _ _ c.requires.0 c.requires.1 (omega arith))

pub returns : goal.returns
returns c =
    c.joined.ensures
    ∙ rw c.fragment_length-n.ensures
    (sym (push_on _ _ _ _ c.requires.0 c.requires.1 (omega arith)))
