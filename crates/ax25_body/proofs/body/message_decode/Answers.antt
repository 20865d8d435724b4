-- `ax25_body::body::message_decode` meets its contract.
-- Assumes nothing.
use mathlib.Core.Path.{refl}
use lib.ListN.{drop}
use Rattle.laws.specs.Bits.{unpack}
use Rattle.laws.proofs.WroteLaws.{wrote_then}
use Rattle.ax25_token.specs.Token.{read_token}
use Rattle.ax25_token.proofs.CallLaws.{token_next, token_nothing}
use Rattle.ax25_aprs.proofs.PartLaws.{reads}
use Rattle.ax25_body.proofs.BodyLaws.{message_none, message_some}
use Rattle.ax25_body.proofs.body.message_decode.Goals as goal

pub returns-in_default : goal.returns-in_default
returns-in_default c =
    let a = c.args in
    let u = unpack a.s.now in
    let b = drop a.at u in
    let d = c.token_decode in
    rw (message_none a.mended a.l b (token_nothing u (read_token a.mended a.l b) d.result d.ensures.0 c.in_default.is)) refl

pub returns : goal.returns
returns c =
    let a = c.args in
    let u = unpack a.s.now in
    let b = drop a.at u in
    let t = token_next u (read_token a.mended a.l b) _ c.in-Some.ensures.0 _ _ refl in
    rw (message_some a.mended a.l b _ _ t)
    (reads (wrote_then c.byte-i.ensures (wrote_then c.put_filled-j.ensures.wrote (wrote_then c.byte-k.ensures c.text_decode.ensures))))
