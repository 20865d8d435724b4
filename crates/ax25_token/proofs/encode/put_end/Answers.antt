-- `ax25_token::encode::put_end` meets its contract.
-- Assumes nothing.
use mathlib.Core.Path.{sym}
use Rattle.laws.proofs.WroteLaws.{wrote_none, wrote_as}
use Rattle.ax25_token.proofs.Cases.{ending_all, ending_short}
use Rattle.ax25_token.proofs.encode.put_end.Goals as goal

pub returns-then-n-l-clause-wrote : goal.returns-then-n-l-clause-wrote
returns-then-n-l-clause-wrote c = wrote_as (sym (ending_short _ _ c.if-n-l.true)) c.push.ensures.wrote

pub returns-else-n-l-clause-wrote : goal.returns-else-n-l-clause-wrote
returns-else-n-l-clause-wrote c = wrote_as (sym (ending_all _ _ c.if-n-l.false)) wrote_none
