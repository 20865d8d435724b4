-- `ax25_address::trim::front` meets its contract. The bytes passed are white space.
-- Assumes nothing.
use native.Mathlib.Omega.{arith}
use borrow.Author.Rules.{rules}
use mathlib.Core.Path.{◌≡◌, sym, ◌∙◌}
use mathlib.Core.Bool.{true, false}
use lib.ListN.{get_or, drop_of_length-le, length}
use Prim.Native.Nat.{◌≤◌}
use Rattle.laws.specs.Text.{trim_front}
use Rattle.laws.proofs.TrimLaws.{front_on, front_here}
use Rattle.ax25_address.specs.Address.{white_in}
use Rattle.ax25_address.proofs.trim.front.Goals as goal

pub returns-then-not-is_white : goal.returns-then-not-is_white
returns-then-not-is_white c =
    let s = c.args.s.now in
    let w = white_in c.args.call in
    let i = c.loop-i.i in
    let no : w (get_or s i 0) ≡ false = sym c.is_white.ensures ∙ c.if-not-is_white.true in
    (search rules, sym (front_here w s i (omega arith) no) ∙ c.loop-i.invariant)

pub loop-i-preserved : goal.loop-i-preserved
loop-i-preserved c =
    let s = c.args.s.now in
    let w = white_in c.args.call in
    let i = c.loop-i.i in
    let yes : w (get_or s i 0) ≡ true = sym c.is_white.ensures ∙ c.if-not-is_white.false in
    sym (front_on w s i (omega arith) yes) ∙ c.loop-i.invariant

pub returns : goal.returns
unfolding trim_front
returns c =
    let s = c.args.s.now in
    let all : length s ≤ length s = omega arith in
    (all, rw (drop_of_length-le s all) (rw (drop_of_length-le s c.loop-i-test.false) at c.loop-i.invariant))
