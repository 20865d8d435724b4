-- Bits of a part of a frame, or the refusal that ends the coding.
-- Assumes nothing.
use Rattle.std.specs.Prelude.{Bool, List, ◌++◌, ℕ}
use Rattle.std.specs.Prelude.{Option, None, Some}
use Rattle.refusals.specs.Outcome.{Outcome, refused, answer}

infixr 5 ◌then◌
-- one part after another: the first refusal counts
abbrev pub ◌then◌ : Outcome (List Bool) → Outcome (List Bool) → Outcome (List Bool)
◌then◌ (refused n) q = refused n
◌then◌ (answer a) (refused n) = refused n
◌then◌ (answer a) (answer b) = answer (a ++ b)

-- bits that are missing are refused
abbrev pub or_refused : ℕ → Option (List Bool) → Outcome (List Bool)
or_refused n None = refused n
or_refused n (Some b) = answer b
