-- `ax25::encode::header` meets its contract.
-- Assumes nothing.
use native.Mathlib.Omega.{arith}
use mathlib.Core.Path.{ap₂}
use Prim.Native.Nat.{ℕ, ◌+◌}
use borrow.Author.Rules.{rules}
use Rattle.ax25.proofs.encode.header.Goals as goal

pub overflow_add-result : goal.overflow_add-result
overflow_add-result c = omega (arith, c.digi_code.ensures.1, c.either-plain.ensures.1)

pub overflow_add-result-2 : goal.overflow_add-result-2
overflow_add-result-2 c = omega (arith, c.digi_code.ensures.1, c.either-plain.ensures.1, c.either-long.ensures.1)

pub returns : goal.returns
returns c =
    let code = c.digi_code in
    let plain = c.either-plain in
    let long = c.either-long in (
      ap₂ (λ (x y : ℕ). x + y) long.ensures.0 (ap₂ (λ (x y : ℕ). x + y) plain.ensures.0 code.ensures.0),
      omega (arith, code.ensures.1, plain.ensures.1, long.ensures.1),
    )
