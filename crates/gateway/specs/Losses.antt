-- What the tallies count over a list of calls: document 02, E12.
-- Assumes nothing.
use Rattle.std.specs.Prelude.{◌≡◌, Bool, List, [], ◌∷◌, ℕ, ◌+◌}
use Rattle.std.specs.Prelude.{Option, None, Some}
use Rattle.laws.specs.Bits.{num}
use Rattle.receiver.specs.Join.{Heard}
use Rattle.receiver.specs.New.{fresh_of}
use Rattle.receiver.specs.Tally.{is_offered, is_more, is_done, is_dropped_by}
use Rattle.receiver.specs.declared.Cause.{Cause}
use Rattle.receiver.specs.declared.Cause.TheVariants.{WrongLength, NoFragment, Overflow, Limit, Check}
use Rattle.receiver.specs.declared.Tallies.{Tallies}
use Rattle.gateway.specs.Run.{Call, state, run_of, left_by}

-- "frames offered, More, Done, and Dropped by cause": the eight tallies.
pub data Tally : Type 0 where
  offered : Tally
  mores : Tally
  dones : Tally
  drops : Cause → Tally

-- A tally's number.
abbrev pub number_in : Tally → Tallies → ℕ
number_in offered t = t.offered
number_in mores t = t.more
number_in dones t = t.done
number_in (drops WrongLength) t = t.wrong_length
number_in (drops NoFragment) t = t.no_fragment
number_in (drops Overflow) t = t.overflow
number_in (drops Limit) t = t.limit
number_in (drops Check) t = t.check

-- The answers that a tally counts.
abbrev pub is_counted_by : Tally → Heard → Bool
is_counted_by offered = is_offered
is_counted_by mores = is_more
is_counted_by dones = is_done
is_counted_by (drops c) = is_dropped_by c

-- How many answers pass a test. A reset has none.
unfoldable pub how_many : (Heard → Bool) → List (Option Heard) → ℕ
how_many p [] = 0
how_many p (None ∷ l) = how_many p l
how_many p (Some h ∷ l) = num (p h) + how_many p l

-- The tallies that a list of calls leaves, from a new receiver.
abbrev pub tallies_after : ℕ → List ℕ → List Call → Tallies
tallies_after mask store cs = (left_by (state (fresh_of mask) store) cs).receiver.tallies

-- What holds of a list of calls, whatever the mask and the store: a receiver that refuses every call counts none.
pub record Counted (mask : ℕ) (store : List ℕ) (cs : List Call) : Type 0 where
  -- offered is "the number of pushes and joins in it that were not refused, and every other tally that of its answers"
  pub each : (i : Tally) → number_in i (tallies_after mask store cs) ≡ how_many (is_counted_by i) (run_of (state (fresh_of mask) store) cs)
  -- "offered = More + Done + the sum of the five Dropped tallies"
  pub sum : let t = tallies_after mask store cs in
      t.offered ≡ t.more + t.done + (t.wrong_length + t.no_fragment + t.overflow + t.limit + t.check)

-- "for every list of pushes, joins and resets from fresh"
abbrev pub Losses : Type 0
Losses = (mask : ℕ) (store : List ℕ) (cs : List Call) → Counted mask store cs
