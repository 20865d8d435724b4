-- Leaving a channel and coming back: one claim about every list of operations on a new receiver, with nothing kept. Sentences in quotes are
-- document 02's, E8.
-- Assumes nothing.
use Rattle.std.specs.Prelude.{◌≡◌, Bool, true, List, [], ◌∷◌, ◌++◌, ℕ, length}
use Rattle.refusals.specs.Limits.{mask_ok}
use Rattle.receiver.specs.New.{fresh_of}
use Rattle.kept.specs.Keep.{name_ok}
use Rattle.gateway.specs.Run.{Call, state, left_by, run_of, Few, freshly}
use Rattle.gateway.specs.Script.{Sending, Line, calls, answers, Mixed, settled}
use Rattle.gateway.specs.Demand.{Messages, Delivered}
use Rattle.channels.specs.Book.{Op, keep, return_to, World, world, world_after, History, began, state_after, Book, book, book_after, world_answer, world_answers, book_answer, book_answers, spare_all, calls_of}

-- What holds of the world w and the book b after the same operations. The receiver's history h is the book's: "the history up to the keeping
-- followed by the calls since the return".
pub record Resumes (mended : Bool) (w : World) (b : Book) (h : History) : Type 0 where
  -- The receiver, its tallies and all 5,000 bytes of its store are those of the history.
  pub now : w.now ≡ state_after h
  -- The answers to it and to the calls that follow are those to both in one list.
  pub joined : (cs : List Call) → run_of (began h) h.calls ++ run_of w.now cs ≡ run_of (began h) (h.calls ++ cs)
  -- The next operation is answered as the book says.
  pub says : (o : Op) → world_answer w o ≡ book_answer b o
  -- Demand 3 holds on: each answer is the one that a fresh receiver gives after only the calls of the history since its last ending.
  pub forgets : (stores : List Call → List ℕ) → ((past : List Call) → length (stores past) ≡ 5000)
      → (cs : List Call) → Few (h.calls ++ cs) → run_of w.now cs ≡ freshly (fresh_of h.mask) stores h.calls cs
  -- "an unfinished message can be completed". Let the history be any list that is empty or stops with an ending, then the first lines of any
  -- messages with idle calls between, cut anywhere: the calls of the other lines have their answers, More and Done with the message, and each
  -- message decodes to its original bytes.
  pub delivers : (before : List Call) → settled before ≡ true
      → (xs : List Sending) (ps : List Line) (ms : Messages mended h.mask xs ps) (first rest : List Line) → Mixed ps (first ++ rest)
      → h.calls ≡ before ++ calls first → Few (before ++ calls (first ++ rest))
      → (run_of w.now (calls rest) ≡ answers rest) × Delivered ms (fresh_of h.mask) h.store before (first ++ rest)

-- The claim about a list of operations.
pub record Returning (mended : Bool) (m : ℕ) (s lent : List ℕ) (os : List Op) : Type 0 where
  -- "every answer is that of the history up to the keeping followed by the calls since the return"
  pub answered : world_answers (world m s lent) os ≡ book_answers (book m s) os
  -- and whatever comes after the list goes on from there
  pub goes_on : Resumes mended (world_after (world m s lent) os) (book_after (book m s) os) (book_after (book m s) os).current

-- It holds of every list, for every new receiver and 40,000 lent bytes, whatever they hold; by the decoder's reading.
abbrev pub ComingBack : Bool → Type 0
ComingBack mended = (m : ℕ) → mask_ok m ≡ true → (s lent : List ℕ) → length s ≡ 5000 → length lent ≡ 40000 → (os : List Op) → Returning mended m s lent os

-- Calls a, a keep, operations that leave the name alone, and a return: calls b are answered as after a.
abbrev pub Completed : Type 0
Completed =
    (m : ℕ) → mask_ok m ≡ true → (s lent : List ℕ) → length s ≡ 5000 → length lent ≡ 40000
    → (a b : List Call) (n : List ℕ) → name_ok (length n) ≡ true → (os : List Op) → spare_all n os ≡ true
    → run_of (world_after (world m s lent) (calls_of a ++ (keep n ∷ (os ++ (return_to n ∷ []))))).now b ≡ run_of (left_by (state (fresh_of m) s) a) b
