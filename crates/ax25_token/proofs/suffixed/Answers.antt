-- `ax25_token::suffixed` meets its contract.
-- Assumes nothing.
use native.Mathlib.Omega.{arith}
use mathlib.Core.Path.{refl}
use Prim.Native.Nat.{◌+◌, ◌/◌, ◌≤◌}
use Rattle.ax25_token.specs.declared.Call.{Call}
use Rattle.ax25_token.specs.Call.{pushed}
use Rattle.ax25_token.proofs.CallLaws.{append_none, append_one, append_two, append_digits}
use Rattle.ax25_token.proofs.suffixed.Goals as goal

pub returns-then-v-eq0 : goal.returns-then-v-eq0
returns-then-v-eq0 c =
    let a : Call = record { bytes = c.c.inside.bytes; len = c.c.inside.len } in
    let short : a.len ≤ a.len + 3 = omega arith in
    rw (← c.c.view_is) (append_none a _ c.if-v-eq0.true, short)

pub returns-then-v-lt10 : goal.returns-then-v-lt10
returns-then-v-lt10 c =
    let a : Call = record { bytes = c.c.inside.bytes; len = c.c.inside.len } in
    let short : a.len + 1 + 1 ≤ a.len + 3 = omega arith in
    rw (← c.c.view_is) (append_one a _ c.if-v-eq0.false c.if-v-lt10.true (pushed a 45) _ refl refl, short)

pub returns : goal.returns
returns c =
    let a : Call = record { bytes = c.c.inside.bytes; len = c.c.inside.len } in
    let v = c.args.v in
    let d = pushed a 45 in
    let short : a.len + 1 + 1 + 1 ≤ a.len + 3 = omega arith in
    rw (← c.c.view_is) (append_two a v c.if-v-eq0.false c.if-v-lt10.false d _ refl (append_digits d (pushed d (48 + v / 10)) _ v refl refl), short)
