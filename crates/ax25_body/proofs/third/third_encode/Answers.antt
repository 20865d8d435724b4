-- `ax25_body::third::third_encode` meets its contract: `&d[1..]` is what follows the type byte.
-- Assumes nothing.
use Rattle.laws.proofs.ListLaws.{from_place}
use borrow.Author.Rules.{rules}
use Rattle.ax25_body.proofs.third.third_encode.Goals as goal

pub returns : goal.returns
returns c =
    let a = c.args in
    rw (from_place a.d.now 1) at c.first_encode.ensures
