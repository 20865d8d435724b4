-- Document 02, E12: each tally is that of the answers, and offered = More + Done + the five Dropped tallies, for every list of calls from fresh.
-- Assumes nothing.
use mathlib.Core.Path.{◌≡◌, refl, ap, ◌∙◌}
use mathlib.Core.List.{List, [], ◌∷◌}
use Rattle.std.proofs.Common.{Option, None, Some}
use Prim.Native.Nat.{ℕ, ◌+◌}
use native.Mathlib.Nat.{zero-add}
use native.Mathlib.Omega.{arith}
use lib.ListN.{length}
use lib.Dec.{ltb}
use Rattle.laws.specs.Bits.{num}
use Rattle.laws.specs.Pick.{pick}
use Rattle.laws.proofs.Cases.{by_test}
use Rattle.refusals.specs.Limits.{field_ok}
use Rattle.receiver.specs.Join.{Heard, refused, dropped, more, done, refusal_of}
use Rattle.receiver.specs.New.{fresh_of, no_tallies}
use Rattle.receiver.specs.Tally.{is_full, is_offered, tallied, join_tallied, push_tallied}
use Rattle.receiver.specs.declared.Cause.TheVariants.{WrongLength, NoFragment, Overflow, Limit, Check}
use Rattle.receiver.specs.declared.Tallies.{Tallies}
use Rattle.gateway.specs.Losses.{Tally, offered, mores, dones, drops, number_in, is_counted_by, how_many, tallies_after, Losses}
use Rattle.gateway.specs.Run.{Call, push, join, reset, State, state, step_of, left_by, run_of}

-- ---- one answer

tallied_at : (i : Tally) (h : Heard) (t : Tallies) → number_in i (tallied h t) ≡ number_in i t + num (is_counted_by i h)
unfolding tallied
tallied_at offered h t = refl
tallied_at mores h t = refl
tallied_at dones h t = refl
tallied_at (drops WrongLength) h t = refl
tallied_at (drops NoFragment) h t = refl
tallied_at (drops Overflow) h t = refl
tallied_at (drops Limit) h t = refl
tallied_at (drops Check) h t = refl

refused_none : (i : Tally) (n : ℕ) → num (is_counted_by i (refused n)) ≡ 0
unfolding num
refused_none offered n = refl
refused_none mores n = refl
refused_none dones n = refl
refused_none (drops c) n = refl

-- what a call adds
abbrev pub heard_one : Tally → Option Heard → ℕ
heard_one i None = 0
heard_one i (Some h) = num (is_counted_by i h)

-- ---- a list of calls

module _ (i : Tally) where
  -- a call that is refused
  left_refused : (n : ℕ) (t : Tallies) → number_in i t ≡ number_in i t + num (is_counted_by i (refused n))
  left_refused n t = omega (arith, refused_none i n)

  join_tally : (t : State) (f : List ℕ) (n : ℕ)
      → number_in i (step_of t (join f n)).next.receiver.tallies ≡ number_in i t.receiver.tallies + heard_one i (step_of t (join f n)).answer
  unfolding join_tallied pick
  join_tally t f n =
      by_test (ltb 0 (refusal_of t.receiver.state (length t.store)))
      (λ a. rw a (left_refused _ t.receiver.tallies))
      (λ a. by_test (is_full t.receiver.tallies)
      (λ b. rw (a, b) (left_refused 27 t.receiver.tallies))
      (λ b. rw (a, b) (tallied_at i _ t.receiver.tallies)))

  push_tally : (t : State) (f : List ℕ) (k : ℕ)
      → number_in i (step_of t (push f k)).next.receiver.tallies ≡ number_in i t.receiver.tallies + heard_one i (step_of t (push f k)).answer
  unfolding push_tallied pick
  push_tally t f k =
      by_test (ltb 0 (refusal_of t.receiver.state (length t.store)))
      (λ a. rw a (left_refused _ t.receiver.tallies))
      (λ a. by_test (field_ok k)
      (λ o. by_test (is_full t.receiver.tallies)
      (λ b. rw (a, o, b) (left_refused 27 t.receiver.tallies))
      (λ b. rw (a, o, b) (tallied_at i _ t.receiver.tallies)))
      (λ o. rw (a, o) (left_refused 8 t.receiver.tallies)))

  pub step_tally : (t : State) (c : Call)
      → number_in i (step_of t c).next.receiver.tallies ≡ number_in i t.receiver.tallies + heard_one i (step_of t c).answer
  step_tally t (push f k) = push_tally t f k
  step_tally t (join f n) = join_tally t f n
  step_tally t reset = omega arith

  run_tally : (t : State) (cs : List Call) → number_in i (left_by t cs).receiver.tallies ≡ number_in i t.receiver.tallies + how_many (is_counted_by i) (run_of t cs)
  unfolding left_by run_of how_many
  run_tally t [] = omega arith
  run_tally t (c ∷ cs) = run_tally (step_of t c).next cs ∙ one_more (step_of t c).answer (step_tally t c)
    where
      one_more : (a : Option Heard) → number_in i (step_of t c).next.receiver.tallies ≡ number_in i t.receiver.tallies + heard_one i a
          → number_in i (step_of t c).next.receiver.tallies + how_many (is_counted_by i) (run_of (step_of t c).next cs)
          ≡ number_in i t.receiver.tallies + how_many (is_counted_by i) (a ∷ run_of (step_of t c).next cs)
      one_more None e = unfold how_many in omega arith
      one_more (Some h) e = unfold how_many in omega arith

  pub none_yet : number_in i no_tallies ≡ 0
  none_yet = each i
    where
      each : (j : Tally) → number_in j no_tallies ≡ 0
      each offered = refl
      each mores = refl
      each dones = refl
      each (drops WrongLength) = refl
      each (drops NoFragment) = refl
      each (drops Overflow) = refl
      each (drops Limit) = refl
      each (drops Check) = refl

  -- each tally is that of the answers
  pub tally_is : (m : ℕ) (s : List ℕ) (cs : List Call) → number_in i (tallies_after m s cs) ≡ how_many (is_counted_by i) (run_of (state (fresh_of m) s) cs)
  tally_is m s cs =
      run_tally (state (fresh_of m) s) cs
      ∙ ap (λ (x : ℕ). x + how_many (is_counted_by i) (run_of (state (fresh_of m) s) cs)) none_yet
      ∙ zero-add _

-- ---- the sum

abbrev parts : (Tally → ℕ) → ℕ
parts f =
    f mores + f dones + (f (drops WrongLength) + f (drops NoFragment) + f (drops Overflow) + f (drops Limit) + f (drops Check))

-- each answer that is offered is one of the seven
one_of_seven : (h : Heard) → num (is_offered h) ≡ parts (λ i. num (is_counted_by i h))
unfolding num
one_of_seven (refused n) = refl
one_of_seven (dropped WrongLength) = refl
one_of_seven (dropped NoFragment) = refl
one_of_seven (dropped Overflow) = refl
one_of_seven (dropped Limit) = refl
one_of_seven (dropped Check) = refl
one_of_seven more = refl
one_of_seven (done n b) = refl

all_of_seven : (l : List (Option Heard)) → how_many is_offered l ≡ parts (λ i. how_many (is_counted_by i) l)
unfolding how_many
all_of_seven [] = refl
all_of_seven (None ∷ l) = all_of_seven l
all_of_seven (Some h ∷ l) = omega (arith, one_of_seven h, all_of_seven l)

-- the tallies that calls leave add up
pub conserved : (m : ℕ) (s : List ℕ) (cs : List Call) →
    let t = tallies_after m s cs in
    t.offered ≡ t.more + t.done + (t.wrong_length + t.no_fragment + t.overflow + t.limit + t.check)
conserved m s cs =
    omega (
      arith,
      tally_is offered m s cs,
      tally_is mores m s cs,
      tally_is dones m s cs,
      tally_is (drops WrongLength) m s cs,
      tally_is (drops NoFragment) m s cs,
      tally_is (drops Overflow) m s cs,
      tally_is (drops Limit) m s cs,
      tally_is (drops Check) m s cs,
      all_of_seven (run_of (state (fresh_of m) s) cs),
    )

-- what 02 asks of the tallies holds
pub losses : Losses
losses mask store cs = record { each = λ i. tally_is i mask store cs; sum = conserved mask store cs }
