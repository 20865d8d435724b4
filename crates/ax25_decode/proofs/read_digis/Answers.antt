-- `ax25_decode::read_digis` meets its contract.
-- Assumes nothing.
use mathlib.Core.Path.{sym}
use lib.ListN.{drop}
use Rattle.laws.specs.Bits.{unpack}
use Rattle.ax25_decode.specs.Put.{digi_bytes}
use Rattle.ax25_decode.proofs.ReaderLaws.{reads_as_lem, digis_end, digis_aliased, digis_tokens}
use borrow.Author.Rules.{rules}
use Rattle.ax25_decode.proofs.read_digis.Goals as goal

pub returns-then-n-eq0 : goal.returns-then-n-eq0
returns-then-n-eq0 c =
    let a = c.args in
    digis_end a.mended a.l a.ap a.n (unpack a.s.now) a.at a.out.now a.to c.if-n-eq0.true

pub returns-then-ap : goal.returns-then-ap
returns-then-ap c =
    let a = c.args in
    let b = unpack a.s.now in
    let r = c.read_aliased in
    reads_as_lem (digi_bytes a.l b a.n 0) b (sym (digis_aliased a.mended a.l a.ap a.n (drop a.at b) c.if-n-eq0.false c.if-ap.true)) a.out.now a.to r.new.out r.result r.ensures

pub returns : goal.returns
returns c =
    let a = c.args in
    let b = unpack a.s.now in
    let r = c.read_tokens in
    reads_as_lem (digi_bytes a.l b a.n 0) b (sym (digis_tokens a.mended a.l a.ap a.n (drop a.at b) c.if-n-eq0.false c.if-ap.false)) a.out.now a.to r.new.out r.result r.ensures
