-- `ax25_token::encode::put_unnamed` meets its contract.
-- Assumes nothing.
use mathlib.Core.Path.{sym, ◌∙◌}
use Rattle.ax25_token.proofs.NameLaws.{unnamed_plain, unnamed_other}
use Rattle.ax25_token.proofs.encode.put_unnamed.Goals as goal

pub returns-then-plain_ap : goal.returns-then-plain_ap
returns-then-plain_ap c =
    let a = c.args in
    rw (unnamed_plain a.l a.c.now (sym c.plain_ap.ensures ∙ c.if-plain_ap.true)) c.put_plain.ensures

pub returns-else-plain_ap : goal.returns-else-plain_ap
returns-else-plain_ap c =
    let a = c.args in
    rw (unnamed_other a.l a.c.now (sym c.plain_ap.ensures ∙ c.if-plain_ap.false)) c.put_spelled.ensures
