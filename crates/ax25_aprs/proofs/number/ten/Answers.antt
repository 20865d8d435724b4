-- `ax25_aprs::number::ten` meets its contract.
-- Assumes nothing.
use native.Mathlib.Omega.{arith}
use native.Mathlib.Numerals.{add-one}
use native.Mathlib.Nat.{pow-suc, pow-le-pow_right}
use mathlib.Core.Path.{◌≡◌, refl}
use Rattle.ax25_aprs.proofs.number.ten.Goals as goal

pub loop-init : goal.loop-init
loop-init c = refl

pub overflow_mul-p : goal.overflow_mul-p
overflow_mul-p c = omega (arith, pow-le-pow_right {n = 10} (omega arith) {i = c.loop.counter} {j = 8} (omega arith))

pub loop-preserved : goal.loop-preserved
loop-preserved c = rw (add-one, pow-suc, ← c.loop.invariant)

pub returns : goal.returns
returns c =
    let all : c.loop.counter ≡ c.args.n = omega arith in
    rw all at c.loop.invariant
