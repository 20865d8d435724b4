-- `ax25_decode::read_ends` meets its contract.
-- Assumes nothing.
use mathlib.Core.Bool.{false}
use native.Mathlib.Omega.{arith}
use lib.ListN.{drop}
use Rattle.laws.specs.Bits.{unpack}
use Rattle.ax25_token.specs.Token.{read_token}
use Rattle.ax25_decode.specs.Put.{field_of}
use Rattle.ax25_decode.proofs.ReaderLaws.{took, untaken, place_next, ends_none, ends_then}
use borrow.Author.Rules.{rules}
use Rattle.ax25_decode.proofs.read_ends.Goals as goal

pub returns-in_err-p : goal.returns-in_err-p
returns-in_err-p c =
    let a = c.args in
    let b = unpack a.s.now in
    rw c.from_residual.ensures
    (ends_none a.mended a.l a.last b _ a.out.now 0 (untaken (field_of a.l false false) b (read_token a.mended a.l (drop a.at b)) _ 0 _ _ c.read_address.ensures c.in_err-p.was))

pub read_address-requires-2 : goal.read_address-requires-2
read_address-requires-2 c =
    let a = c.args in
    let b = unpack a.s.now in
    let t = took (field_of a.l false false) b (read_token a.mended a.l (drop a.at b)) _ 0 _ _ c.read_address.ensures _ _ c.in_ok-p.was in
    (c.requires.0, c.requires.1, c.requires.2, omega (arith, place_next a.l false false t, c.requires.2))

pub returns : goal.returns
returns c =
    let a = c.args in
    let b = unpack a.s.now in
    let t = took (field_of a.l false false) b (read_token a.mended a.l (drop a.at b)) _ 0 _ _ c.read_address.ensures _ _ c.in_ok-p.was in
    let second = c.read_address-2 in
    ends_then a.mended a.l a.last b (drop a.at b) _ 0 _ _ _ t second.new.out second.result second.ensures
