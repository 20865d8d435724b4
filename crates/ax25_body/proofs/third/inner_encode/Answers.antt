-- `ax25_body::third::inner_encode` meets its contract.
-- Assumes nothing.
use mathlib.Core.Path.{refl}
use Rattle.ax25_aprs.specs.Body.{body_bits}
use Rattle.ax25_aprs.specs.Third.{inner_type}
use Rattle.ax25_aprs.proofs.PartLaws.{does_then}
use Rattle.ax25_body.specs.Read.{after_type}
use Rattle.ax25_body.proofs.PieceLaws.{inner_short, inner_is}
use borrow.Author.Rules.{rules}
use Rattle.ax25_body.proofs.third.inner_encode.Goals as goal

pub returns-then-d-lt2 : goal.returns-then-d-lt2
returns-then-d-lt2 c = rw (inner_short c.args.l c.args.d.now c.if-d-lt2.true) refl

pub returns : goal.returns
returns c =
    let a = c.args in
    let d = a.d.now in
    let k = c.inner_number-k in
    rw (inner_is a.l d c.if-d-lt2.false k.result k.ensures.0)
    (does_then c.push-p.ensures.wrote (body_bits (inner_type k.result) a.l (after_type (inner_type k.result) d)) _ _ (rw c.inner_type.ensures at c.aprs_encode.ensures))
