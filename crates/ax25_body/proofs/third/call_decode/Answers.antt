-- `ax25_body::third::call_decode` meets its contract.
-- Assumes nothing.
use native.Mathlib.Omega.{arith}
use mathlib.Core.Path.{refl}
use lib.ListN.{drop}
use Rattle.laws.specs.Bits.{unpack}
use Rattle.laws.proofs.WroteLaws.{wrote_then}
use Rattle.ax25_token.specs.Token.{read_token}
use Rattle.ax25_token.proofs.CallLaws.{token_next, token_nothing}
use Rattle.ax25_body.proofs.ThirdLaws.{passes, passes_none}
use Rattle.ax25_body.proofs.third.call_decode.Goals as goal

pub returns-in_default : goal.returns-in_default
returns-in_default c =
    let a = c.args in
    let u = unpack a.s.now in
    let d = c.token_decode in
    (passes_none _ _ _ _ _ _ (token_nothing u (read_token a.mended a.l (drop a.at u)) d.result d.ensures.0 c.in_default.is))

pub returns : goal.returns
returns c =
    let a = c.args in
    let u = unpack a.s.now in
    let w = c.put_text.ensures in
    passes _ _ _ _ _ _ _ _
    record {
      text = _;
      is = token_next u (read_token a.mended a.l (drop a.at u)) _ c.in-Some.ensures.0 _ _ refl;
      short = omega (arith, c.in-Some.ensures.1, w.wrote.next_is, w.value);
      wrote = wrote_then c.copy-i.ensures w.wrote;
    }
