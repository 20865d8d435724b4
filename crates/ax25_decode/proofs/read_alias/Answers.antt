-- `ax25_decode::read_alias` meets its contract.
-- Assumes nothing.
use mathlib.Core.Path.{sym, ◌∙◌}
use native.Mathlib.Omega.{arith}
use lib.ListN.{drop}
use Rattle.laws.specs.Bits.{unpack}
use Rattle.bits.proofs.TakenLaws.{told_short, told_bits}
use Rattle.ax25_decode.proofs.ReaderLaws.{alias_short, alias_zero, alias_past, alias_read}
use borrow.Author.Rules.{rules}
use Rattle.ax25_decode.proofs.read_alias.Goals.{then-i-eq0-via-then-i-eq0, then-i-eq0-via-else-i-eq0+then-i-gt5}
use Rattle.ax25_decode.proofs.read_alias.Goals as goal

pub returns-in_err-i : goal.returns-in_err-i
returns-in_err-i c = λ at h.
    let a = c.args in
    let b = unpack a.s.now in
    rw c.from_residual.ensures
    (alias_short a.l a.n (drop at b) (told_short b at 3 (sym h ∙ c.in_err-i.was)))

pub returns-then-i-eq0 : goal.returns-then-i-eq0
returns-then-i-eq0 c = λ at h.
    let a = c.args in
    let b = unpack a.s.now in
    let told = told_bits b at 3 _ _ (sym h ∙ c.in_ok-i.was) in
    elim c.then-i-eq0.branch [
      | then-i-eq0-via-then-i-eq0 w ↦ alias_zero a.l a.n (drop at b) _ _ told w.if-i-eq0.true
      | then-i-eq0-via-else-i-eq0+then-i-gt5 w ↦ alias_past a.l a.n (drop at b) _ _ told w.if-i-gt5.true
    ]

pub returns : goal.returns
returns c = λ at h.
    let a = c.args in
    let b = unpack a.s.now in
    alias_read a.l a.n (drop at b) b _ _ (told_bits b at 3 _ _ (sym h ∙ c.in_ok-i.was)) c.if-i-eq0.false (omega (arith, c.if-i-gt5.false)) _ _ a.to _ c.put_alias.ensures
