-- `ax25_aprs::third::collect` meets its contract: none of the bytes before j is a stop byte.
-- Assumes nothing.
use native.Mathlib.Omega.{arith}
use mathlib.Core.Path.{sym}
use Rattle.ax25_aprs.proofs.FieldLaws.{free_none, free_more, span_ended, span_full, collect_short}
use Rattle.ax25_aprs.proofs.third.collect.Goals as goal

pub loop-j-init : goal.loop-j-init
loop-j-init c = (omega arith, omega arith, free_none c.args.stop c.args.d.now)

pub returns-then-d-j : goal.returns-then-d-j
returns-then-d-j c =
    let a = c.args in record { result_value = sym (collect_short a.stop a.k a.d.now (omega arith) (λ i h. c.loop-j.invariant.2 i (omega arith))); within = tt }

pub bounds-d-j : goal.bounds-d-j
bounds-d-j c = omega arith

pub overflow_add-span : goal.overflow_add-span
overflow_add-span c = omega arith

pub overflow_add-j : goal.overflow_add-j
overflow_add-j c = omega arith

pub loop-j-smaller : goal.loop-j-smaller
loop-j-smaller c = omega arith

pub loop-j-preserved : goal.loop-j-preserved
loop-j-preserved c =
    let a = c.args in
    (omega arith, omega arith, free_more a.stop c.loop-j.j a.d.now c.loop-j.invariant.2 c.if-d-j-2.false)

pub returns-then-k-j : goal.returns-then-k-j
returns-then-k-j c =
    let a = c.args in record { result_value = span_full a.stop a.k a.d.now c.loop-j.j (omega arith) (omega arith) c.loop-j.invariant.2; within = (omega arith, omega arith, omega arith) }

pub returns-then-d-j-2 : goal.returns-then-d-j-2
returns-then-d-j-2 c =
    let a = c.args in record { result_value = span_ended a.stop a.k a.d.now c.loop-j.j (omega arith) (omega arith) c.loop-j.invariant.2 c.if-d-j-2.true; within = (omega arith, omega arith, omega arith) }
