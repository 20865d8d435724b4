-- `ax25_body::third::inner_decode` meets its contract.
-- Assumes nothing.
use native.Mathlib.Omega.{arith}
use mathlib.Core.Path.{refl, sym, ◌∙◌}
use lib.ListN.{drop}
use Rattle.laws.specs.Bits.{unpack}
use Rattle.laws.proofs.ByteLaws.{length_unpack}
use Rattle.bits.proofs.TakenLaws.{told_short, told_bits, told_within, told_small}
use Rattle.ax25_aprs.specs.Body.{read_body}
use Rattle.ax25_aprs.specs.Third.{inner_type}
use Rattle.ax25_aprs.proofs.PartLaws.{reads_then}
use Rattle.ax25_body.proofs.ThirdLaws.{inner_none, inner_some}
use borrow.Author.Rules.{rules}
use Rattle.ax25_body.proofs.third.inner_decode.Goals as goal

pub returns-in_err-k : goal.returns-in_err-k
returns-in_err-k c =
    let a = c.args in
    let u = unpack a.s.now in
    rw (inner_none a.mended a.l (drop a.at u) (told_short u a.at 2 (sym c.take_at.ensures ∙ c.in_err-k.was))) c.from_residual.ensures

pub inner_type-requires : goal.inner_type-requires
inner_type-requires c =
    let a = c.args in
    told_small (unpack a.s.now) a.at 2 _ _ (sym c.take_at.ensures ∙ c.in_ok-k.was) 2 (omega arith)

pub aprs_decode-requires : goal.aprs_decode-requires
aprs_decode-requires c =
    let a = c.args in
    let t = told_within (unpack a.s.now) a.at 2 _ _ (sym c.take_at.ensures ∙ c.in_ok-k.was) (omega arith) in
    omega (arith, t, length_unpack a.s.now, c.copy-i.ensures.next_is)

pub returns : goal.returns
returns c =
    let a = c.args in
    let u = unpack a.s.now in
    let t = told_bits u a.at 2 c.in_ok-k.k c.in_ok-k.p (sym c.take_at.ensures ∙ c.in_ok-k.was) in
    rw (inner_some a.mended a.l (drop a.at u) c.in_ok-k.k (drop c.in_ok-k.p u) t)
    (reads_then c.copy-i.ensures (read_body a.mended (inner_type c.in_ok-k.k) a.l (drop c.in_ok-k.p u)) _ _ (rw c.inner_type.ensures at c.aprs_decode.ensures))
