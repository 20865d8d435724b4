-- `ax25_token::encode::token_encode` meets its contract.
-- Assumes nothing.
use Rattle.ax25_token.proofs.NameLaws.{token_unpaired, token_paired}
use Rattle.ax25_token.proofs.encode.token_encode.Goals as goal

pub returns-in_default : goal.returns-in_default
returns-in_default c =
    let a = c.args in
    rw (token_unpaired a.l a.c.now _ c.pair_of.ensures.c_value c.in_default.is) c.put_unpaired.ensures

pub returns : goal.returns
returns c =
    let a = c.args in
    rw (token_paired a.l a.c.now _ c.pair_of.ensures.c_value _ _ _ c.in-Some.is) c.put_pair.ensures
