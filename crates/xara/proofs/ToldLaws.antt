-- Equal parts make equal answers.
-- Assumes nothing.
use mathlib.Core.Path.{◌≡◌}
use mathlib.Core.Bool.{Bool}
use mathlib.Core.List.{List}
use Prim.Native.Nat.{ℕ}
use Rattle.refusals.specs.Outcome.{Outcome, answer}
use Rattle.kiss.specs.Codec.{Summary}

-- beside the same output
pub beside : {A : Type 0} {x y : A} {out : List ℕ} → x ≡ y → ◌≡◌ {A = A × List ℕ} (x, out) (y, out)
beside e = rw e

-- a summary by its type
pub of_type : {t u digis : ℕ} {ui : Bool} → t ≡ u → ◌≡◌ {A = Outcome Summary} (answer (record { typ = t; digis = digis; ui = ui })) (answer (record { typ = u; digis = digis; ui = ui }))
of_type e = rw e

-- a length and a type, by the type
pub with_type : {n t u : ℕ} → t ≡ u → ◌≡◌ {A = Outcome (ℕ × ℕ)} (answer (n, t)) (answer (n, u))
with_type e = rw e
