-- `ax25_decode::read_aliased` meets its contract.
-- Assumes nothing.
use mathlib.Core.Path.{sym, ◌∙◌}
use lib.ListN.{drop}
use Rattle.laws.specs.Bits.{unpack}
use Rattle.bits.specs.Read.{took}
use Rattle.bits.proofs.TakenLaws.{next_at, told_short, told_bits}
use Rattle.ax25_decode.specs.Put.{digi_bytes}
use Rattle.ax25_decode.proofs.ReaderLaws.{reads_as_lem, aliased_short, aliased_yes, aliased_no}
use borrow.Author.Rules.{rules}
use Rattle.ax25_decode.proofs.read_aliased.Goals as goal

pub returns-in_err-x : goal.returns-in_err-x
returns-in_err-x c =
    let a = c.args in
    let b = unpack a.s.now in
    rw c.from_residual.ensures
    (aliased_short a.mended a.l a.n (drop a.at b) (told_short b a.at 1 (sym c.bit_take_at-t.ensures.0 ∙ c.in_err-x.was)))

pub returns-then-x-eq1 : goal.returns-then-x-eq1
returns-then-x-eq1 c =
    let a = c.args in
    let b = unpack a.s.now in
    let t = c.bit_take_at-t in
    let u = told_bits b a.at 1 _ _ (sym t.ensures.0 ∙ c.in_ok-x.was) in
    let r = c.read_alias in
    reads_as_lem (digi_bytes a.l b a.n 0) b (sym (aliased_yes a.mended a.l a.n (drop a.at b) _ _ u c.if-x-eq1.true)) a.out.now a.to r.new.out r.result (r.ensures c.in_ok-x.p (next_at (took 3 b) _ _ a.at _ _ c.in_ok-x.was t.ensures.1))

pub returns : goal.returns
returns c =
    let a = c.args in
    let b = unpack a.s.now in
    let u = told_bits b a.at 1 _ _ (sym c.bit_take_at-t.ensures.0 ∙ c.in_ok-x.was) in
    let r = c.read_tokens in
    reads_as_lem (digi_bytes a.l b a.n 0) b (sym (aliased_no a.mended a.l a.n (drop a.at b) _ _ u c.if-x-eq1.false)) a.out.now a.to r.new.out r.result r.ensures
