-- `receiver::head` meets its contract.
-- Assumes nothing.
use mathlib.Core.Path.{sym}
use Rattle.receiver.proofs.JoinLaws.{headed_none, headed_some}
use Rattle.receiver.proofs.head.Goals as goal

pub returns-then-held-eq0 : goal.returns-then-held-eq0
returns-then-held-eq0 c = sym (headed_none _ c.args.store.now c.args.first c.if-held-eq0.true)

pub returns-else-held-eq0 : goal.returns-else-held-eq0
returns-else-held-eq0 c = sym (headed_some _ c.args.store.now c.args.first c.if-held-eq0.false)
