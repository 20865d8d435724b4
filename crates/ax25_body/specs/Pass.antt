-- What the answers of a coder and of a reader of a call stand for.
-- Assumes nothing.
use Rattle.std.specs.Prelude.{Option, None, Some, Result, Ok, Err}
use Rattle.refusals.specs.declared.Refusal.{Refusal}
use Rattle.std.specs.Prelude.{◌≡◌, Bool, List, ◌++◌, ℕ, ◌≤◌, length, take, drop}
use Rattle.laws.specs.Wrote.{Wrote}
use Rattle.refusals.specs.Outcome.{Outcome, refused, answer, number}
use Rattle.ax25_aprs.specs.Put.{span_in}
use Rattle.ax25_aprs.specs.Third.{Field, call_part, call_field, last_field}

-- the field f of d ends at a place, its call was coded at a position of the bits b, which leaves c, and d goes on at i
pub record Coded (l : ℕ) (f : Field) (d : List ℕ) (b : List Bool) (at : ℕ) (c : List Bool) (i p : ℕ) : Type 0 where
  pub end : ℕ
  pub is : f ≡ span_in d end i
  pub within : i ≤ length d
  pub bits : List Bool
  pub coded : call_part l (take end d) ≡ answer bits
  pub few : length bits ≤ 64
  pub wrote : Wrote b at bits c p

-- whatever follows, the field is refused
pub record Uncoded (l : ℕ) (f : Field) (n : ℕ) : Type 0 where
  pub call : (d : List ℕ) (next : List ℕ → Outcome (List Bool)) → call_field l f d next ≡ refused n
  pub last : (d : List ℕ) → last_field l f d ≡ refused n

-- on a refusal nothing is said of c
unfoldable pub Codes : ℕ → Field → List ℕ → List Bool → ℕ → List Bool → Result (ℕ × ℕ) Refusal → Type 0
Codes l f d b at c (Ok (i, p)) = Coded l f d b at c i p
Codes l f d b at c (Err e) = Uncoded l f (number e)

-- a call was read, which leaves the bits u from p on; x and its text were written at a place of out, which leaves e
pub record Passed (o : Option (List ℕ × List Bool)) (u : List Bool) (x out : List ℕ) (to : ℕ) (e : List ℕ) (p next : ℕ) : Type 0 where
  pub text : List ℕ
  pub is : o ≡ Some (text, drop p u)
  pub short : length text ≤ 10
  pub wrote : Wrote out to (x ++ text) e next

-- where there is no call, nothing is said of e
unfoldable pub Passes : Option (List ℕ × List Bool) → List Bool → List ℕ → List ℕ → ℕ → List ℕ → Option (ℕ × ℕ) → Type 0
Passes o u x out to e (Some (p, next)) = Passed o u x out to e p next
Passes o u x out to e None = o ≡ None
