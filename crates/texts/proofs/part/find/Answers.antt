-- `texts::part::find` meets its contract. No byte that was passed is b.
-- Assumes nothing.
use mathlib.Core.Path.{ap}
use native.Mathlib.Omega.{arith}
use lib.ListN.{length}
use Rattle.texts.proofs.PartLaws.{before_end, before_here, before_on}
use Rattle.texts.proofs.part.find.Goals as goal

pub returns-then-s-i : goal.returns-then-s-i
returns-then-s-i c =
    let a = c.args in
    let b = before_here a.b a.s.now c.loop-i.i c.loop-i-test.true c.if-s-i.true in
    (omega arith, omega arith, omega (arith, c.loop-i.invariant, ap length b))

pub loop-i-preserved : goal.loop-i-preserved
loop-i-preserved c =
    let a = c.args in
    let b = before_on a.b a.s.now c.loop-i.i c.loop-i-test.true c.if-s-i.false in
    omega (arith, c.loop-i.invariant, ap length b)

pub returns : goal.returns
returns c =
    let a = c.args in
    let b = before_end a.b a.s.now c.loop-i.i c.loop-i-test.false in
    (omega arith, omega arith, omega (arith, c.loop-i.invariant, ap length b))
