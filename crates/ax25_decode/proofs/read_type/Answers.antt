-- `ax25_decode::read_type` meets its contract.
-- Assumes nothing.
use mathlib.Core.Path.{sym, ◌∙◌}
use Rattle.laws.specs.Bits.{unpack}
use Rattle.ax25_decode.proofs.HeadLaws.{type_short, type_read}
use borrow.Author.Rules.{rules}
use Rattle.ax25_decode.proofs.read_type.Goals as goal

pub returns-in_err-v : goal.returns-in_err-v
returns-in_err-v c =
    let a = c.args in
    let width = c.type_width in
    rw c.from_residual.ensures
    (type_short a.ap (unpack a.s.now) a.at width.result width.ensures.0 (sym c.take_at.ensures ∙ c.in_err-v.was))

pub returns : goal.returns
returns c =
    let a = c.args in
    let width = c.type_width in
    type_read a.ap (unpack a.s.now) a.at width.result width.ensures.0 width.ensures.1 _ _ (sym c.take_at.ensures ∙ c.in_ok-v.was) c.from_code.result c.from_code.ensures
