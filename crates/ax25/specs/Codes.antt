-- What the coder of a frame answers and leaves.
-- Assumes nothing.
use Rattle.refusals.specs.declared.Refusal.{Refusal}
use Rattle.std.specs.Prelude.{◌≡◌, List, Result, Ok, length, ℕ}
use Rattle.laws.specs.Wrote.{Wrote}
use Rattle.refusals.specs.Outcome.{Outcome, refused, answer, outcome_of}
use Rattle.ax25.specs.Encode.{Coded}

-- the bytes of a message written at the front of s, which leaves t, and their number; on a refusal nothing is said of t
abbrev pub Codes : Outcome Coded → List ℕ → List ℕ → Result ℕ Refusal → Type 0
Codes (refused n) s t r = outcome_of r ≡ refused n
Codes (answer c) s t r = (r ≡ Ok (length c.bytes)) × Wrote s 0 c.bytes t (length c.bytes)
