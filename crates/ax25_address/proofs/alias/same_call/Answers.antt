-- `ax25_address::alias::same_call` meets its contract: a call with nothing but its text is known by it.
-- Assumes nothing.
use mathlib.Core.Path.{◌∙◌}
use borrow.Author.Tests.{ne_eqb}
use Rattle.ax25_token.specs.declared.Call.{Call}
use Rattle.ax25_address.proofs.AliasLaws.{same_bytes, other_length}
use Rattle.ax25_address.proofs.SliceLaws.{same_is}
use Rattle.ax25_address.proofs.alias.same_call.Goals as goal

pub returns-then-c-d : goal.returns-then-c-d
returns-then-c-d c =
    let x : Call = record { bytes = c.c.inside.bytes; len = c.c.inside.len } in
    let y : Call = record { bytes = c.d.inside.bytes; len = c.d.inside.len } in
    rw (← c.c.view_is, ← c.d.view_is)
    (c.eq.ensures ∙ same_is _ _ ∙ same_bytes x y (rw (← c.c.view_is) at c.requires.0) (rw (← c.d.view_is) at c.requires.1) c.if-c-d.true)

pub returns-else-c-d : goal.returns-else-c-d
returns-else-c-d c =
    let x : Call = record { bytes = c.c.inside.bytes; len = c.c.inside.len } in
    let y : Call = record { bytes = c.d.inside.bytes; len = c.d.inside.len } in
    rw (← c.c.view_is, ← c.d.view_is)
    (ne_eqb _ _ c.if-c-d.false ∙ other_length x y (rw (← c.c.view_is) at c.requires.0) (rw (← c.d.view_is) at c.requires.1) c.if-c-d.false)
