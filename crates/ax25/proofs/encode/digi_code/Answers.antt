-- `ax25::encode::digi_code` meets its contract.
-- Assumes nothing.
use native.Mathlib.Omega.{arith}
use mathlib.Core.Path.{◌≡◌}
use Prim.Native.Nat.{ℕ, zero, suc, ◌+◌}
use Rattle.ax25.specs.Encode.{digi_code}
use borrow.Author.Rules.{rules}
use Rattle.ax25.proofs.encode.digi_code.Goals as goal

some_code : (n : ℕ) → (n ≡ 0 → ⊥) → n + 7 ≡ digi_code n
some_code zero h = absurd (omega arith)
some_code (suc n) h = omega arith

pub returns : goal.returns
returns c = (some_code c.args.n c.if-n-eq0.false, omega arith)
