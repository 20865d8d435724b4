-- `ax25_token::encode::put_plain` meets its contract.
-- Assumes nothing.
use Rattle.laws.proofs.WroteLaws.{wrote_then}
use Rattle.ax25_token.proofs.PutLaws.{plain_size}
use Rattle.ax25_token.proofs.NameLaws.{plain_unhyphened, plain_uncounted, plain_counted}
use Rattle.ax25_token.proofs.encode.put_plain.Goals as goal

pub numbered_of-requires : goal.numbered_of-requires
numbered_of-requires c = plain_unhyphened _ c.requires.0

pub put_ap-requires : goal.put_ap-requires
put_ap-requires c =
    let pre = c.requires in
    (plain_size _ pre.0, pre.1, pre.2)

pub returns-in_default : goal.returns-in_default
returns-in_default c =
    let a = c.args in
    rw (plain_uncounted a.l a.c.now _ c.numbered_of.ensures.result_value c.in_default.is) c.put_ap.ensures

pub returns : goal.returns
returns c =
    let a = c.args in
    rw (plain_counted a.l a.c.now _ c.numbered_of.ensures.result_value _ _ _ c.in-Some.is)
    (wrote_then c.push-p.ensures.wrote c.push.ensures.wrote)
