-- `ax25_body::body::put_text` meets its contract.
-- Assumes nothing.
use native.Mathlib.Omega.{arith}
use mathlib.Core.Path.{◌≡◌}
use lib.ListN.{length, length-take}
use borrow.Author.Rules.{rules}
use Rattle.ax25_token.specs.declared.Call.{Call}
use Rattle.ax25_token.specs.Call.{text_of}
use Rattle.ax25_body.proofs.body.put_text.Goals as goal

pub returns : goal.returns
unfolding text_of
returns c =
    let v : Call = record { bytes = c.c.inside.bytes; len = c.c.inside.len } in
    let n : length v.bytes ≡ 16 = search rules in
    let w = c.copy.ensures in
    rw (← c.c.view_is) record { wrote = w; value = omega (arith, w.next_is, length-take v.len v.bytes, n, c.c.invariant) }
