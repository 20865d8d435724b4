-- What coders and readers of parts answer and leave.
-- Assumes nothing.
use Rattle.std.specs.Prelude.{◌≡◌, Bool, List, ℕ, zero, suc, ◌+◌, ◌≤◌, length, take, drop}
use Rattle.std.specs.Prelude.{Option, None, Some, Result, Ok}
use Rattle.laws.specs.Wrote.{Wrote}
use Rattle.refusals.specs.Outcome.{Outcome, refused, answer, outcome_of}
use Rattle.refusals.specs.declared.Refusal.{Refusal}
use Rattle.ax25_aprs.specs.Third.{Field, ended, full, short}
use Rattle.ax25_aprs.specs.declared.third.Span.{Span}

-- k bytes taken and x written at a position of the bits b, which leaves c; without bits nothing is said of c
abbrev pub Stepped : Option (List Bool) → ℕ → List Bool → ℕ → List Bool → Option (ℕ × ℕ) → Type 0
Stepped None k b at c r = r ≡ None
Stepped (Some x) k b at c r = (r ≡ Some (k, at + length x)) × Wrote b at x c (at + length x)

-- bits written at a position of the bits b, which leaves c, and the next position; on a refusal nothing is said of c
abbrev pub Does : Outcome (List Bool) → List Bool → ℕ → List Bool → Result ℕ Refusal → Type 0
Does (refused n) b at c r = outcome_of r ≡ refused n
Does (answer x) b at c r = (r ≡ Ok (at + length x)) × Wrote b at x c (at + length x)

-- bytes written at a place of out, which leaves e, and the next place; where there is nothing to read, nothing is said of e
abbrev pub Reads : Option (List ℕ) → List ℕ → ℕ → List ℕ → Option ℕ → Type 0
Reads None out to e r = r ≡ None
Reads (Some t) out to e r = (r ≡ Some (to + length t)) × Wrote out to t e (to + length t)

-- the field of d that ends at a place; the next place is 0 where no stop byte was found
unfoldable pub span_in : List ℕ → ℕ → ℕ → Field
span_in d end zero = full (take end d)
span_in d end (suc n) = ended (take end d) (drop (suc n) d)

abbrev pub field_in : List ℕ → Option Span → Field
field_in d (Some s) = span_in d s.end s.next
field_in d None = short

-- the text ends within d and among its first k bytes, and what follows it starts within d
abbrev pub Within : ℕ → List ℕ → Option Span → Type 0
Within k d (Some s) = (s.end ≤ k) × (s.end ≤ length d) × (s.next ≤ length d)
Within k d None = Unit {0}
