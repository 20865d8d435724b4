-- `kiss::generic::generic_decode` meets its contract.
-- Assumes nothing.
use borrow.Author.Rules.{rules}
use mathlib.Core.Path.{sym, ◌∙◌}
use Rattle.kiss.proofs.GenericLaws.{bytes_back, text_back}
use Rattle.kiss.proofs.generic.generic_decode.Goals as goal

pub returns-then-message-eq0 : goal.returns-then-message-eq0
returns-then-message-eq0 c =
    let a = c.args in
    bytes_back _ a.message.now c.if-message-eq0.true c.copy.ensures

pub returns : goal.returns
returns c =
    let text = c.text7_at in
    text_back _ c.args.message.now c.if-message-eq0.false text.ensures.0 c.unwrap_or.ensures text.ensures.1
