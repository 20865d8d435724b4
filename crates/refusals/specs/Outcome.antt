-- What a call answers by document 01: a number of the refusal table or a value; and what it leaves in a lent output.
-- Assumes nothing.
use Rattle.std.specs.Prelude.{Bool, true, false, List, ℕ, Result, Ok, Err, length, ltb}
use Rattle.std.proofs.lemmas.List.Edits.{sets}
use Rattle.laws.specs.Pick.{pick}
use Rattle.refusals.specs.declared.Refusal.{Refusal}
use Rattle.refusals.specs.declared.Refusal.TheVariants.{Command, TooLong, Short, BadCall, Format, Output, NotDecoded, Field, Mask, Empty, FirstByte, Count, Number, Fragment, Marker, Control, State, Name, Kept, Tally}

pub data Outcome (A : Type 0) : Type 0 where
  refused : ℕ → Outcome A
  answer : A → Outcome A

-- no refusal
abbrev pub accepted : {A : Type 0} → Outcome A → Bool
accepted (refused n) = false
accepted (answer a) = true

-- the numbers of the refusals: document 01's table, and document 02's rows
abbrev pub number : Refusal → ℕ
number Command = 1
number TooLong = 2
number Short = 3
number BadCall = 4
number Format = 5
number Output = 6
number NotDecoded = 7
number Field = 8
number Mask = 9
number Empty = 10
number FirstByte = 11
number Count = 12
number Number = 13
number Fragment = 14
number Marker = 15
number Control = 16
number State = 17
number Name = 20
number Kept = 21
number Tally = 27

-- what a call returned: its value, or the number of its refusal
abbrev pub outcome_of : {A : Type 0} → Result A Refusal → Outcome A
outcome_of (Err e) = refused (number e)
outcome_of (Ok a) = answer a

-- the outcome of a call that writes bytes, and the lent output afterwards
pub record Left : Type 0 where
  pub outcome : Outcome ℕ
  pub out : List ℕ

abbrev pub left : Outcome ℕ → List ℕ → Left
left o out = record { outcome = o; out = out }

-- bytes written to the front of the output. 6: "lent output shorter than the answer". A refusal leaves "all as before", and
-- "past an answer's end the lent output is unchanged"
unfoldable pub into : Outcome (List ℕ) → List ℕ → Left
into (refused n) out = left (refused n) out
into (answer v) out = pick (ltb (length out) (length v)) (left (refused 6) out) (left (answer (length v)) (sets out 0 v))
