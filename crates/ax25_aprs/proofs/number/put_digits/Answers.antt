-- `ax25_aprs::number::put_digits` meets its contract. What is left to write is the low digits.
-- Assumes nothing.
use native.Mathlib.Omega.{arith}
use borrow.Author.Rules.{rules}
use mathlib.Core.Path.{◌≡◌}
use Rattle.laws.specs.Digits.{digits}
use Rattle.ax25_aprs.proofs.TextLaws.{digits_first}
use Rattle.laws.proofs.WroteLaws.{wrote_none, wrote_then}
use Rattle.ax25_aprs.proofs.number.put_digits.Goals as goal

pub loop-left-preserved : goal.loop-left-preserved
loop-left-preserved c =
    let a = c.args in
    let left = c.loop-left.left in
    let put = c.byte-next in (
      search rules,
      omega (arith, put.ensures.next_is),
      λ e r h. c.loop-left.invariant.2 e r (rw (digits_first left a.v (omega arith), ← c.digit.ensures) (wrote_then put.ensures h)),
    )

pub returns : goal.returns
unfolding digits
returns c =
    let none : c.loop-left.left ≡ 0 = omega arith in
    c.loop-left.invariant.2 c.loop-left.out c.loop-left.next (rw none wrote_none)
