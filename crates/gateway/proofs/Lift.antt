-- The answers are those of the receiver without tallies, for lists of fewer than 2^64 pushes and joins.
-- Assumes nothing.
use mathlib.Core.Path.{◌≡◌, refl, ap, ap₂, ◌∙◌}
use mathlib.Core.Bool.{false}
use mathlib.Core.List.{List, [], ◌∷◌, ◌++◌, append-nil}
use Rattle.std.proofs.Common.{Option, None, Some}
use Prim.Native.Nat.{ℕ, ◌+◌, ◌^◌, ◌≤◌, ◌<◌}
use native.Mathlib.Omega.{arith}
use lib.ListN.{length}
use lib.Dec.{ltb, leb}
use borrow.Author.Tests.{lt-leb}
use Rattle.laws.specs.Bits.{num}
use Rattle.laws.specs.Pick.{pick}
use Rattle.laws.proofs.BitLaws.{num_lt}
use Rattle.laws.proofs.Cases.{by_test}
use Rattle.refusals.specs.Limits.{field_ok}
use Rattle.receiver.specs.Join.{Heard, refused, dropped, more, done, refusal_of, join_of}
use Rattle.receiver.specs.New.{fresh_of, fresh_joiner}
use Rattle.receiver.specs.Push.{push_of}
use Rattle.receiver.specs.Tally.{largest, is_full, join_tallied, push_tallied}
use Rattle.receiver.specs.declared.Cause.TheVariants.{WrongLength, NoFragment, Overflow, Limit, Check}
use Rattle.receiver.specs.declared.Tallies.{Tallies}
use Rattle.gateway.specs.Losses.{Tally, offered, mores, dones, drops, number_in, is_counted_by}
use Rattle.gateway.specs.Run.{Call, push, join, reset, State, state, step_of, left_by, run_of, offers, Few}
use Rattle.gateway.proofs.Bare.{Bare, bare, bare_step, bare_left, bare_run}
use Rattle.gateway.proofs.Conserved.{heard_one, step_tally, none_yet}

-- ---- a call where no tally is full

abbrev pub bare_of : State → Bare
bare_of t = bare t.receiver.state t.store

record Same (t : State) (c : Call) : Type 0 where
  pub answer : (step_of t c).answer ≡ (bare_step (bare_of t) c).answer
  pub next : bare_of (step_of t c).next ≡ (bare_step (bare_of t) c).next

same : (t : State) (c : Call) → is_full t.receiver.tallies ≡ false → Same t c
unfolding push_tallied join_tallied push_of join_of pick
same t (push f k) e =
    by_test (ltb 0 (refusal_of t.receiver.state (length t.store)))
    (λ a. record { answer = rw a; next = rw a })
    (λ a. by_test (field_ok k)
    (λ o. record { answer = rw (a, o, e); next = rw (a, o, e) })
    (λ o. record { answer = rw (a, o); next = rw (a, o) }))
same t (join f n) e =
    by_test (ltb 0 (refusal_of t.receiver.state (length t.store)))
    (λ a. record { answer = rw a; next = rw a })
    (λ a. record { answer = rw (a, e); next = rw (a, e) })
same t reset e = record { answer = refl; next = refl }

-- ---- no tally is above offered

abbrev Under : Tallies → Type 0
Under t = (i : Tally) → number_in i t ≤ t.offered

not_full : (t : Tallies) → Under t → t.offered < largest → is_full t ≡ false
unfolding is_full
not_full t u h =
    simp (lt offered, lt mores, lt dones, lt (drops WrongLength), lt (drops NoFragment), lt (drops Overflow), lt (drops Limit), lt (drops Check))
  where
    lt : (i : Tally) → leb largest (number_in i t) ≡ false
    lt i = lt-leb largest (number_in i t) (omega (arith, u i))

counted_under : (i : Tally) (h : Heard) → num (is_counted_by i h) ≤ num (is_counted_by offered h)
unfolding num
counted_under offered h = omega arith
counted_under mores (refused n) = omega arith
counted_under mores (dropped c) = omega arith
counted_under mores more = omega arith
counted_under mores (done n b) = omega arith
counted_under dones (refused n) = omega arith
counted_under dones (dropped c) = omega arith
counted_under dones more = omega arith
counted_under dones (done n b) = omega arith
counted_under (drops c) (refused n) = omega arith
counted_under (drops c) (dropped d) = omega (arith, num_lt (is_counted_by (drops c) (dropped d)))
counted_under (drops c) more = omega arith
counted_under (drops c) (done n b) = omega arith

heard_under : (i : Tally) (a : Option Heard) → (heard_one i a ≤ heard_one offered a) × (heard_one offered a ≤ 1)
heard_under i None = (omega arith, omega arith)
heard_under i (Some h) = (counted_under i h, omega (arith, num_lt (is_counted_by offered h)))

-- a state that takes n more pushes and joins
pub record Below (t : State) (n : ℕ) : Type 0 where
  pub under : Under t.receiver.tallies
  pub room : t.receiver.tallies.offered + n < 2 ^ 64

step_under : (t : State) (c : Call) → Under t.receiver.tallies → Under (step_of t c).next.receiver.tallies
step_under t c u i =
    omega (arith, u i, step_tally i t c, step_tally offered t c, (heard_under i (step_of t c).answer).0)

-- a reset counts nothing
step_offered : (t : State) (c : Call) (cs : List Call)
    → (step_of t c).next.receiver.tallies.offered + offers cs ≤ t.receiver.tallies.offered + offers (c ∷ cs)
unfolding offers
step_offered t (push f k) cs = omega (arith, step_tally offered t (push f k), (heard_under offered (step_of t (push f k)).answer).1)
step_offered t (join f n) cs = omega (arith, step_tally offered t (join f n), (heard_under offered (step_of t (join f n)).answer).1)
step_offered t reset cs = omega arith

step_below : (t : State) (c : Call) (cs : List Call) → Below t (offers (c ∷ cs)) → Below (step_of t c).next (offers cs)
step_below t c cs b = record { under = step_under t c b.under; room = omega (arith, b.room, step_offered t c cs) }

step_same : (t : State) (c : Call) (cs : List Call) → Below t (offers (c ∷ cs)) → Same t c
unfolding offers
step_same t (push f k) cs b = same t (push f k) (not_full t.receiver.tallies b.under (omega (arith, b.room)))
step_same t (join f n) cs b = same t (join f n) (not_full t.receiver.tallies b.under (omega (arith, b.room)))
step_same t reset cs b = record { answer = refl; next = refl }

-- ---- a list of calls

left_below : (t : State) (past cs : List Call) → Below t (offers (past ++ cs)) → Below (left_by t past) (offers cs)
unfolding left_by
left_below t [] cs b = b
left_below t (c ∷ past) cs b = left_below (step_of t c).next past cs (step_below t c (past ++ cs) b)

left_same : (t : State) (past cs : List Call) → Below t (offers (past ++ cs)) → bare_of (left_by t past) ≡ bare_left (bare_of t) past
unfolding left_by bare_left
left_same t [] cs b = refl
left_same t (c ∷ past) cs b =
    left_same (step_of t c).next past cs (step_below t c (past ++ cs) b)
    ∙ ap (λ (x : Bare). bare_left x past) (step_same t c (past ++ cs) b).next

run_same : (t : State) (cs : List Call) → Below t (offers cs) → run_of t cs ≡ bare_run (bare_of t) cs
unfolding run_of bare_run
run_same t [] b = refl
run_same t (c ∷ cs) b =
    let s = step_same t c cs b in
    ap₂ {A = Option Heard} {B = List (Option Heard)} (λ a l. a ∷ l) s.answer
    (run_same (step_of t c).next cs (step_below t c cs b) ∙ ap (λ (x : Bare). bare_run x cs) s.next)

-- a list counts at most its pushes and joins
left_counted : (t : State) (past : List Call) → (left_by t past).receiver.tallies.offered ≤ t.receiver.tallies.offered + offers past
unfolding left_by
left_counted t [] = omega arith
left_counted t (c ∷ past) = omega (arith, left_counted (step_of t c).next past, step_offered t c past)

-- ---- from fresh

module _ (m : ℕ) (s : List ℕ) where
  fresh_below : (n : ℕ) → n < 2 ^ 64 → Below (state (fresh_of m) s) n
  fresh_below n h = record { under = λ i. omega (arith, none_yet i); room = omega arith }

  -- after calls to which one more push or join may come
  module _ (past : List Call) (few : offers past < largest) where
    below_after : Below (state (fresh_of m) s) (offers (past ++ []))
    below_after = fresh_below (offers (past ++ [])) (omega (arith, ap offers (append-nil past)))

    -- all but the tallies is as without them
    pub left_after : bare_of (left_by (state (fresh_of m) s) past) ≡ bare_left (bare (fresh_joiner m) s) past
    left_after = left_same (state (fresh_of m) s) past [] below_after

    -- and no tally is full
    pub not_full_after : is_full (left_by (state (fresh_of m) s) past).receiver.tallies ≡ false
    not_full_after =
        let b = left_counted (state (fresh_of m) s) past in
        not_full _ (left_below (state (fresh_of m) s) past [] below_after).under (omega (arith, b, none_yet offered))

  -- one call after a list of calls
  pub step_after : (past : List Call) (c : Call) → Few (past ++ (c ∷ []))
      → (step_of (left_by (state (fresh_of m) s) past) c).answer ≡ (bare_step (bare_left (bare (fresh_joiner m) s) past) c).answer
  step_after past c h =
      let b = fresh_below (offers (past ++ (c ∷ []))) h in
      (step_same (left_by (state (fresh_of m) s) past) c [] (left_below (state (fresh_of m) s) past (c ∷ []) b)).answer
      ∙ ap (λ (x : Bare). (bare_step x c).answer) (left_same (state (fresh_of m) s) past (c ∷ []) b)

  -- a list of calls after another
  pub run_after : (past cs : List Call) → Few (past ++ cs)
      → run_of (left_by (state (fresh_of m) s) past) cs ≡ bare_run (bare_left (bare (fresh_joiner m) s) past) cs
  run_after past cs h =
      let b = fresh_below (offers (past ++ cs)) h in
      run_same (left_by (state (fresh_of m) s) past) cs (left_below (state (fresh_of m) s) past cs b)
      ∙ ap (λ (x : Bare). bare_run x cs) (left_same (state (fresh_of m) s) past cs b)

  -- "for lists of fewer than 2^64 pushes and joins in all"
  pub answers_same : (cs : List Call) → Few cs
      → run_of (state (fresh_of m) s) cs ≡ bare_run (bare (fresh_joiner m) s) cs
  answers_same cs h = run_same (state (fresh_of m) s) cs (fresh_below (offers cs) h)
