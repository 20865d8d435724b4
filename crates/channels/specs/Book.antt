-- Lists of operations on a receiver and kept states: document 02, E8. What they leave, and a book of histories that knows no slots and no bytes.
-- Assumes nothing.
use Rattle.std.specs.Prelude.{Bool, true, false, ◌&&◌, ◌||◌, not, List, [], ◌∷◌, ◌++◌, ℕ, length, ltb, eqb}
use Rattle.std.specs.Prelude.{Option, None, Some}
use Rattle.laws.specs.Pick.{pick}
use Rattle.laws.specs.Text.{same}
use Rattle.refusals.specs.Limits.{mask_ok}
use Rattle.refusals.specs.Outcome.{Outcome, refused, answer}
use Rattle.receiver.specs.Join.{Heard}
use Rattle.receiver.specs.New.{fresh_of}
use Rattle.receiver.specs.declared.Reassembler.{Reassembler}
use Rattle.kept.specs.Keep.{name_ok, none_kept, KeepLeft, keep_of, ReturnLeft, return_of, drop_of}
use Rattle.kept.specs.declared.Kept.{Kept}
use Rattle.gateway.specs.Run.{Call, State, state, step_of, left_by}

-- A call on the receiver; a new receiver by its mask, over any store; and the three calls on kept states, each with a name.
pub data Op : Type 0 where
  call : Call → Op
  tune : ℕ → List ℕ → Op
  keep : List ℕ → Op
  return_to : List ℕ → Op
  drop_name : List ℕ → Op

-- ---- the world: a receiver with its store, the kept states and the lent bytes

-- All that the operations change.
pub record World : Type 0 where
  pub now : State
  pub kept : Kept
  pub lent : List ℕ

-- A new receiver, and nothing kept.
abbrev pub world : ℕ → List ℕ → List ℕ → World
world m s lent = record { now = state (fresh_of m) s; kept = none_kept; lent = lent }

-- A mask and a store that a new receiver may have.
abbrev pub new_ok : ℕ → List ℕ → Bool
new_ok m s = mask_ok m && eqb (length s) 5000

-- The new receiver, or the one that was there.
abbrev pub tuned : ℕ → List ℕ → State → State
tuned m s t = pick (new_ok m s) (state (fresh_of m) s) t

-- The receiver that is returned to with its store, or the one that was there.
abbrev pub stated : ReturnLeft → State → State
stated a t = gone_to a.outcome
  where
    gone_to : Outcome Reassembler → State
    gone_to (refused n) = t
    gone_to (answer r) = state r a.store

-- What a keep does in the world.
abbrev pub keep_in : World → List ℕ → KeepLeft
keep_in w name = keep_of w.kept w.now.receiver w.now.store w.lent name

-- What a return does.
abbrev pub return_in : World → List ℕ → ReturnLeft
return_in w name = return_of w.kept w.now.store w.lent name

-- One operation, "where the kept states are handed on as left and nobody else writes the lent bytes or the receiver's store".
abbrev pub world_step : World → Op → World
world_step w (call c) = record { now = (step_of w.now c).next; kept = w.kept; lent = w.lent }
world_step w (tune m s) = record { now = tuned m s w.now; kept = w.kept; lent = w.lent }
world_step w (keep name) = record { now = w.now; kept = (keep_in w name).kept; lent = (keep_in w name).lent }
world_step w (return_to name) = record { now = stated (return_in w name) w.now; kept = w.kept; lent = w.lent }
world_step w (drop_name name) = record { now = w.now; kept = (drop_of w.kept w.lent name).kept; lent = w.lent }

-- A list of operations.
unfoldable pub world_after : World → List Op → World
world_after w [] = w
world_after w (o ∷ os) = world_after (world_step w o) os

-- ---- the history of a receiver: its mask, the store that it began with, and its calls

-- How a receiver came about.
pub record History : Type 0 where
  pub mask : ℕ
  pub store : List ℕ
  pub calls : List Call

-- The history of a mask, a store and calls.
abbrev pub history : ℕ → List ℕ → List Call → History
history m s cs = record { mask = m; store = s; calls = cs }

-- The new receiver that a history begins with, and its store.
abbrev pub began : History → State
began h = state (fresh_of h.mask) h.store

-- The receiver and its store after a history.
abbrev pub state_after : History → State
state_after h = left_by (began h) h.calls

-- ---- the book: the history of the receiver, and those that are kept under names

-- A name, and the history that is kept under it.
pub record Entry : Type 0 where
  pub name : List ℕ
  pub past : History

-- The histories that matter.
pub record Book : Type 0 where
  pub current : History
  pub entries : List Entry

-- A new receiver, and nothing kept.
abbrev pub book : ℕ → List ℕ → Book
book m s = record { current = history m s []; entries = [] }

-- The history that is kept under a name.
unfoldable pub past_under : List ℕ → List Entry → Option History
past_under name [] = None
past_under name (e ∷ es) = pick (same name e.name) (Some e.past) (past_under name es)

-- The entries under other names.
unfoldable pub without : List ℕ → List Entry → List Entry
without name [] = []
without name (e ∷ es) = pick (same name e.name) (without name es) (e ∷ without name es)

-- Whether there is one.
abbrev pub is_some : {A : Type 0} → Option A → Bool
is_some None = false
is_some (Some a) = true

-- A name that is known, or a new one where fewer than eight are.
abbrev pub has_room : List ℕ → List Entry → Bool
has_room name es = is_some (past_under name es) || ltb (length es) 8

-- A history entered under a name, in place of what was there.
abbrev pub entered : List ℕ → History → List Entry → List Entry
entered name h es = pick (has_room name es) (record { name = name; past = h } ∷ without name es) es

-- The history that is kept, or the one that was current.
abbrev pub known_or : Option History → History → History
known_or None h = h
known_or (Some g) h = g

-- One operation. A call goes after the history, a return makes the kept history the current one: "the history up to the keeping followed by
-- the calls since the return". A name of another length changes nothing.
abbrev pub book_step : Book → Op → Book
book_step b (call c) = record { current = history b.current.mask b.current.store (b.current.calls ++ (c ∷ [])); entries = b.entries }
book_step b (tune m s) = record { current = pick (new_ok m s) (history m s []) b.current; entries = b.entries }
book_step b (keep name) = record { current = b.current; entries = pick (name_ok (length name)) (entered name b.current b.entries) b.entries }
book_step b (return_to name) = record { current = pick (name_ok (length name)) (known_or (past_under name b.entries) b.current) b.current; entries = b.entries }
book_step b (drop_name name) = record { current = b.current; entries = pick (name_ok (length name)) (without name b.entries) b.entries }

-- A list of operations.
unfoldable pub book_after : Book → List Op → Book
book_after b [] = b
book_after b (o ∷ os) = book_after (book_step b o) os

-- ---- answers

-- What an operation answers: a call what the receiver does; a keep, a return and a drop a refusal's number, or 0. A new receiver has no answer.
pub data Said : Type 0 where
  heard : Option Heard → Said
  number : ℕ → Said
  nothing : Said

-- A refusal's number, or 0.
abbrev pub refusal_from : {A : Type 0} → Outcome A → ℕ
refusal_from (refused n) = n
refusal_from (answer a) = 0

-- In the world.
abbrev pub world_answer : World → Op → Said
world_answer w (call c) = heard (step_of w.now c).answer
world_answer w (tune m s) = nothing
world_answer w (keep name) = number (refusal_from (keep_in w name).outcome)
world_answer w (return_to name) = number (refusal_from (return_in w name).outcome)
world_answer w (drop_name name) = number (refusal_from (drop_of w.kept w.lent name).outcome)

-- To a list of operations.
unfoldable pub world_answers : World → List Op → List Said
world_answers w [] = []
world_answers w (o ∷ os) = world_answer w o ∷ world_answers (world_step w o) os

-- 20 for a name that is not kept.
abbrev pub unknown_number : List ℕ → List Entry → ℕ
unknown_number name es = pick (name_ok (length name)) (pick (is_some (past_under name es)) 0 20) 20

-- 21 for a new name where eight are kept, after 20.
abbrev pub full_number : List ℕ → List Entry → ℕ
full_number name es = pick (name_ok (length name)) (pick (has_room name es) 0 21) 20

-- By the book: a call is answered as after the current history, and a call on kept states by "20 for a name of another length, or for one not
-- kept when it is returned to or dropped; then 21 for a new name when eight are kept". 17 and 9 are never answered.
abbrev pub book_answer : Book → Op → Said
book_answer b (call c) = heard (step_of (state_after b.current) c).answer
book_answer b (tune m s) = nothing
book_answer b (keep name) = number (full_number name b.entries)
book_answer b (return_to name) = number (unknown_number name b.entries)
book_answer b (drop_name name) = number (unknown_number name b.entries)

-- To a list of operations.
unfoldable pub book_answers : Book → List Op → List Said
book_answers b [] = []
book_answers b (o ∷ os) = book_answer b o ∷ book_answers (book_step b o) os

-- ---- lists in which a name is left alone

-- An operation that leaves what is kept under a name: every one but keep and drop of that name.
abbrev pub spares : List ℕ → Op → Bool
spares n (call c) = true
spares n (tune m s) = true
spares n (keep name) = not (same n name)
spares n (return_to name) = true
spares n (drop_name name) = not (same n name)

-- All of a list do.
unfoldable pub spare_all : List ℕ → List Op → Bool
spare_all n [] = true
spare_all n (o ∷ os) = spares n o && spare_all n os

-- Calls as operations.
unfoldable pub calls_of : List Call → List Op
calls_of [] = []
calls_of (c ∷ cs) = call c ∷ calls_of cs
