-- The proof of the cycle of calls {read_tokens}. The measure is how many digipeaters there are.
-- Assumes nothing.
use native.Mathlib.Omega.{arith}
use lib.Dec.{eqb}
use lib.ListN.{drop}
use Rattle.laws.specs.Bits.{unpack}
use Rattle.ax25_token.specs.Token.{read_token}
use Rattle.ax25_decode.specs.Put.{field_of}
use Rattle.ax25_decode.proofs.ReaderLaws.{took, untaken, place_next, tokens_end, tokens_none, tokens_more}
use borrow.Author.Rules.{rules}
use Prim.Native.Nat.{ℕ, ◌<◌}
use Rattle.ax25_decode.proofs.+read_tokens.{statement}
use Rattle.ax25_decode.proofs.+read_tokens.Goals as goal

pub returns-then-n-eq0 : goal.returns-then-n-eq0
returns-then-n-eq0 t c =
    let a = c.args in
    tokens_end a.mended a.l a.n a.k (unpack a.s.now) a.at a.out.now a.to c.if-n-eq0.true

pub bit-requires : goal.bit-requires
bit-requires t c =
    let pre = c.requires in
    (omega (arith, pre.3, c.if-n-eq0.false), omega (arith, pre.0))

pub read_address-requires : goal.read_address-requires
read_address-requires t c =
    let pre = c.requires in
    (pre.0, pre.1, pre.2, omega (arith, pre.4))

pub returns-in_err-p : goal.returns-in_err-p
returns-in_err-p t c =
    let a = c.args in
    let b = unpack a.s.now in
    rw c.from_residual.ensures
    (tokens_none a.mended a.l a.n a.k b (drop a.at b) c.if-n-eq0.false
    (untaken (field_of a.l c.bit.result (eqb a.n 1)) b (read_token a.mended a.l (drop a.at b)) _ a.to _ _ c.read_address.ensures c.in_err-p.was))

pub overflow_sub-n : goal.overflow_sub-n
overflow_sub-n t c = omega (arith, c.if-n-eq0.false)

pub overflow_add-k : goal.overflow_add-k
overflow_add-k t c = omega (arith, c.requires.3, c.requires.0)

pub read_tokens-requires : goal.read_tokens-requires
read_tokens-requires t c =
    let pre = c.requires in
    let a = c.args in
    let b = unpack a.s.now in
    let t = took (field_of a.l c.bit.result (eqb a.n 1)) b (read_token a.mended a.l (drop a.at b)) _ a.to _ _ c.read_address.ensures _ _ c.in_ok-p.was in
    let more = c.if-n-eq0.false in
    (omega (arith, more), (pre.0, pre.1, pre.2, omega (arith, pre.3, more), omega (arith, pre.4, more, pre.2, place_next a.l c.bit.result (eqb a.n 1) t)))

pub returns : goal.returns
returns t c =
    let a = c.args in
    let b = unpack a.s.now in
    let h = c.bit in
    let t = took (field_of a.l h.result (eqb a.n 1)) b (read_token a.mended a.l (drop a.at b)) _ a.to _ _ c.read_address.ensures _ _ c.in_ok-p.was in
    let rest = c.read_tokens in
    tokens_more a.mended a.l a.n a.k b (drop a.at b) c.if-n-eq0.false h.result h.ensures _ _ a.to _ _ t rest.new.out rest.result rest.ensures
