-- `ax25_token::encode::hyphen` meets its contract. No hyphen was passed.
-- Assumes nothing.
use mathlib.Core.Path.{refl}
use native.Mathlib.Omega.{arith}
use Rattle.ax25_token.proofs.PutLaws.{base_found, base_none}
use Rattle.ax25_token.proofs.encode.hyphen.Goals as goal

pub returns-then-x-eq45 : goal.returns-then-x-eq45
returns-then-x-eq45 c = base_found _ _ c.loop-i-test.true c.if-x-eq45.true c.loop-i.invariant

pub returns : goal.returns
returns c = base_none _ _ refl (λ j h. c.loop-i.invariant j (omega (arith, h)))
