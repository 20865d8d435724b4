-- `ax25_address::trim::end` meets its contract. The bytes passed, from the end, are white space.
-- Assumes nothing.
use native.Mathlib.Omega.{arith}
use mathlib.Core.Path.{◌≡◌, sym, ◌∙◌}
use mathlib.Core.Bool.{true, false}
use Prim.Native.Nat.{◌-◌, suc}
use native.Mathlib.Numerals.{add-one}
use lib.ListN.{get_or}
use Rattle.laws.specs.Text.{trim_end}
use Rattle.ax25_address.specs.Address.{white_in}
use Rattle.ax25_address.proofs.WhiteLaws.{right_more, right_here}
use Rattle.ax25_address.proofs.trim.end.Goals as goal

pub returns-then-not-is_white : goal.returns-then-not-is_white
returns-then-not-is_white c =
    let s = c.args.s.now in
    let w = white_in c.args.call in
    let i = c.loop-i.i in
    let k : suc (i - 1) ≡ i = omega arith in
    let no : w (get_or s (i - 1) 0) ≡ false = sym c.is_white.ensures ∙ c.if-not-is_white.true in
    (omega arith, rw add-one (sym (right_here w s (i - 1) (omega arith) no) ∙ rw (sym k) at c.loop-i.invariant))

pub loop-i-preserved : goal.loop-i-preserved
loop-i-preserved c =
    let s = c.args.s.now in
    let w = white_in c.args.call in
    let i = c.loop-i.i in
    let k : suc (i - 1) ≡ i = omega arith in
    let yes : w (get_or s (i - 1) 0) ≡ true = sym c.is_white.ensures ∙ c.if-not-is_white.false in
    sym (right_more w s (i - 1) (omega arith) yes) ∙ rw (sym k) at c.loop-i.invariant

pub returns : goal.returns
unfolding trim_end
returns c =
    let none : c.loop-i.i ≡ 0 = omega arith in
    (omega arith, rw none at c.loop-i.invariant)
