-- `ax25_decode::read_address` meets its contract.
-- Assumes nothing.
use mathlib.Core.Path.{refl}
use Rattle.laws.specs.Bits.{unpack}
use Rattle.ax25_token.proofs.CallLaws.{token_nothing}
use Rattle.ax25_decode.proofs.ReaderLaws.{address_next}
use borrow.Author.Rules.{rules}
use Rattle.ax25_decode.proofs.read_address.Goals as goal

pub returns-in_default : goal.returns-in_default
returns-in_default c = token_nothing _ _ _ c.token_decode.ensures.0 c.in_default.is

pub returns : goal.returns
returns c =
    let a = c.args in
    address_next a.l a.h a.last (unpack a.s.now) _ _ c.in-Some.ensures.0 _ _ refl _ c.mark.ensures c.call_bytes.ensures
