-- "The list of demand 3": pushes, joins and resets on one receiver and one store.
-- Assumes nothing.
use Rattle.std.specs.Prelude.{Bool, true, false, ◌&&◌, ◌||◌, not, List, [], ◌∷◌, ◌++◌, ℕ, suc, ◌+◌, ◌^◌, ◌<◌, length, get_or, ltb, eqb}
use Rattle.std.specs.Prelude.{Option, None, Some}
use Rattle.laws.specs.Pick.{pick}
use Rattle.refusals.specs.Limits.{field_ok}
use Rattle.receiver.specs.Join.{Heard, After}
use Rattle.receiver.specs.Push.{fragment_length}
use Rattle.receiver.specs.Tally.{join_tallied, push_tallied, reset_tallied}
use Rattle.receiver.specs.declared.Reassembler.{Reassembler}

-- A call on the receiver and its store.
pub data Call : Type 0 where
  push : List ℕ → ℕ → Call  -- a frame, and the field
  join : List ℕ → ℕ → Call  -- f, and n
  reset : Call

-- A receiver and its store.
pub record State : Type 0 where
  pub receiver : Reassembler
  pub store : List ℕ

-- The state of a receiver and a store.
abbrev pub state : Reassembler → List ℕ → State
state r s = record { receiver = r; store = s }

-- What a call answers, a reset nothing, and the state that it leaves. "An answer is a refusal number, Dropped, More, or Done with its length
-- and that many first bytes of the store": `Heard` of receiver/specs/Join.
pub record Step : Type 0 where
  pub answer : Option Heard
  pub next : State

-- The step of a push or a join.
abbrev pub seen : After Reassembler → Step
seen a = record { answer = Some a.heard; next = state a.receiver a.store }

-- One call.
abbrev pub step_of : State → Call → Step
step_of t (push f field) = seen (push_tallied t.receiver t.store f field)
step_of t (join f n) = seen (join_tallied t.receiver t.store f n)
step_of t reset = record { answer = None; next = state (reset_tallied t.receiver) t.store }

-- The answers to a list of calls. "Each `push`, `join` and reset gets the state and the store as the call before left them, and nobody else
-- writes them meanwhile."
unfoldable pub run_of : State → List Call → List (Option Heard)
run_of t [] = []
run_of t (c ∷ cs) = (step_of t c).answer ∷ run_of (step_of t c).next cs

-- The state that a list of calls leaves.
unfoldable pub left_by : State → List Call → State
left_by t [] = t
left_by t (c ∷ cs) = left_by (step_of t c).next cs

-- How many pushes and joins a list has, refused ones too.
unfoldable pub offers : List Call → ℕ
offers [] = 0
offers (push f field ∷ cs) = suc (offers cs)
offers (join f n ∷ cs) = suc (offers cs)
offers (reset ∷ cs) = offers cs

-- "lists of fewer than 2^64 pushes and joins in all" (02, E12)
abbrev pub Few : List Call → Type 0
Few cs = offers cs < 2 ^ 64

-- "A push or join is idle where it is refused, its frame has another length, or n is 0 or beyond f". (With an accepted mask and a store of
-- 5,000 bytes it is refused only for its field, up to 2^64 pushes and joins in all: `never_refused` in proofs/Idle.)
abbrev pub idle : Call → Bool
idle (push f field) =
    not (field_ok field)
    || (not (eqb (length f) (field + 3))
    || (eqb (fragment_length f field) 0 || ltb (length f) (fragment_length f field)))
idle (join f n) = eqb n 0 || ltb (length f) n
idle reset = false

-- "An ending is a reset, or a push or join that is not idle and whose first fragment byte is below 80."
abbrev pub ending : Call → Bool
ending (push f field) = not (idle (push f field)) && ltb (get_or f 0 0) 0x80
ending (join f n) = not (idle (join f n)) && ltb (get_or f 0 0) 0x80
ending reset = true

-- Whether one of the calls is an ending.
unfoldable pub any_ending : List Call → Bool
any_ending [] = false
any_ending (c ∷ cs) = ending c || any_ending cs

-- "the calls since the last ending before it, or since the start": what comes after the last ending, or all where there is none.
unfoldable pub since : List Call → List Call
since [] = []
since (c ∷ cs) = pick (any_ending cs) (since cs) (pick (ending c) cs (c ∷ cs))

-- The answers to the calls `cs` that come after the calls `past`, each "the one that a fresh receiver gives to the same call after only the
-- calls since the last ending before it, or since the start". The fresh receiver is `fresh`, with a store of its own for each call.
unfoldable pub freshly : Reassembler → (List Call → List ℕ) → List Call → List Call → List (Option Heard)
freshly fresh stores past [] = []
freshly fresh stores past (c ∷ cs) =
    (step_of (left_by (state fresh (stores past)) (since past)) c).answer ∷ freshly fresh stores (past ++ (c ∷ [])) cs
