-- The proof of the cycle of calls {put_alias}. The measure is how many digipeaters there are.
-- Assumes nothing.
use mathlib.Core.Path.{◌∙◌, ap}
use mathlib.Core.List.{[]}
use mathlib.Core.Bool.{Bool}
use native.Mathlib.Omega.{arith}
use lib.Dec.{eqb}
use lib.ListN.{get_or}
use Rattle.laws.specs.Bits.{unpack}
use Rattle.laws.specs.Pick.{pick}
use Rattle.ax25_token.specs.Call.{text_of}
use Rattle.ax25_address.specs.Parse.{aliases}
use Rattle.ax25_decode.proofs.ReaderLaws.{bytes_next, alias_end, alias_more}
use borrow.Author.Rules.{rules}
use Prim.Native.Nat.{ℕ, ◌+◌, ◌<◌}
use Rattle.ax25_decode.proofs.+put_alias.{statement}
use Rattle.ax25_decode.proofs.+put_alias.Goals as goal

pub returns-then-n-eq0 : goal.returns-then-n-eq0
returns-then-n-eq0 t c =
    let a = c.args in
    alias_end a.l a.n a.k (unpack a.s.now) (get_or aliases a.i []) _ a.out.now a.to c.if-n-eq0.true

pub overflow_add-k : goal.overflow_add-k
overflow_add-k t c = omega (arith, c.requires.3)

pub alias_call-requires : goal.alias_call-requires
alias_call-requires t c =
    let pre = c.requires in
    (pre.2, omega (arith, pre.3, c.if-n-eq0.false))

pub bit-requires : goal.bit-requires
bit-requires t c =
    let pre = c.requires in
    (omega (arith, pre.4, c.if-n-eq0.false), omega (arith, pre.0))

pub call_bytes-q-requires : goal.call_bytes-q-requires
call_bytes-q-requires t c =
    let pre = c.requires in
    (pre.1, omega (arith, pre.5))

pub overflow_sub-n : goal.overflow_sub-n
overflow_sub-n t c = omega (arith, c.if-n-eq0.false)

pub overflow_add-k-2 : goal.overflow_add-k-2
overflow_add-k-2 t c = omega (arith, c.requires.3)

pub put_alias-requires : goal.put_alias-requires
put_alias-requires t c =
    let pre = c.requires in
    let a = c.args in
    let more = c.if-n-eq0.false in
    let q = bytes_next a.l (text_of c.alias_call.result) _ c.call_bytes-q.ensures in
    (omega (arith, more), (pre.0, pre.1, pre.2, omega (arith, pre.3, more), omega (arith, pre.4, more), omega (arith, pre.5, more, pre.1, q)))

pub returns : goal.returns
returns t c =
    let a = c.args in
    let b = unpack a.s.now in
    let call = c.alias_call in
    let mark = c.mark.ensures ∙ ap (λ (x : Bool). pick x 0x80 0 + pick (eqb a.n 1) 0x01 0) c.bit.ensures in
    alias_more a.l a.n a.k b (get_or aliases a.i []) c.if-n-eq0.false (text_of call.result) call.ensures.0 _ mark _ _ _ a.to _ _ c.call_bytes-q.ensures c.put_alias.ensures
