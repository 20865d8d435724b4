-- Messages that are sent, the calls of a list with the answers that they are to have, and idle calls between them.
-- Assumes nothing.
use Rattle.std.specs.Prelude.{◌≡◌, Bool, true, List, [], ◌∷◌, ℕ, ◌+◌, length, eqb}
use Rattle.std.specs.Prelude.{Option, None, Some}
use Rattle.laws.specs.Pick.{pick}
use Rattle.refusals.specs.Limits.{field_ok}
use Rattle.frame.specs.declared.Control.{Control}
use Rattle.receiver.specs.Join.{Heard, refused, dropped}
use Rattle.receiver.specs.declared.Cause.TheVariants.{WrongLength, NoFragment}
use Rattle.gateway.specs.Run.{Call, push, join, reset, idle, ending}

-- A message, "a field size of its own", and for each of its fragments "any other arguments" of `build_frame`.
pub record Sending : Type 0 where
  pub message : List ℕ
  pub field : ℕ
  pub control : ℕ → Control
  pub marker : ℕ → ℕ

-- A call and the answer that it is to have.
pub record Line : Type 0 where
  pub call : Call
  pub answer : Option Heard

-- The line of a call and its answer.
abbrev pub line : Call → Option Heard → Line
line c a = record { call = c; answer = a }

-- The calls of a list of lines.
abbrev pub calls : List Line → List Call
calls [] = []
calls (l ∷ ls) = l.call ∷ calls ls

-- The answers of a list of lines.
abbrev pub answers : List Line → List (Option Heard)
answers [] = []
answers (l ∷ ls) = l.answer ∷ answers ls

-- An idle call "answers the table's refusal, else Dropped": for a wrong length, or for no fragment. (A reset is not idle.)
abbrev pub idle_answer : Call → Option Heard
idle_answer (push f field) = Some (pick (field_ok field) (dropped (pick (eqb (length f) (field + 3)) NoFragment WrongLength)) (refused 8))
idle_answer (join f n) = Some (dropped NoFragment)
idle_answer reset = None

-- "Frames of a wrong length and other idle calls may stand anywhere between": the second list is the first with idle calls put in before,
-- between and after, and "those answer Dropped where they are not refused".
pub data Mixed : List Line → List Line → Type 0 where
  finished : Mixed [] []
  still : {ps ls : List Line} (c : Call) → idle c ≡ true → Mixed ps ls → Mixed ps (line c (idle_answer c) ∷ ls)
  next : {ps ls : List Line} (l : Line) → Mixed ps ls → Mixed (l ∷ ps) (l ∷ ls)

-- "let the list be empty or stop with an ending"
abbrev pub settled : List Call → Bool
settled [] = true
settled (c ∷ []) = ending c
settled (c ∷ d ∷ cs) = settled (d ∷ cs)
