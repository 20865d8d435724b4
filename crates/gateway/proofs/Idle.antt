-- The receiver's own definitions settle which calls are idle and which are endings, where it refuses neither its state nor its store nor for its
-- tallies, as it never does in the list: an idle call is counted and changes nothing else, any other push or join goes by the rules for a fragment,
-- and an overflow lasts up to the next ending and no further.
-- Assumes nothing.
use mathlib.Core.Path.{◌≡◌, refl, sym, ap, ◌∙◌}
use mathlib.Core.Bool.{Bool, true, false, false≢true, ◌&&◌, ◌||◌, not}
use mathlib.Core.List.{List}
use Rattle.std.proofs.Common.{Option, None, Some}
use Prim.Native.Nat.{ℕ, ◌+◌, ◌<◌}
use lib.ListN.{length, get_or}
use lib.Dec.{ltb, leb, eqb}
use borrow.Author.Tests.{not-false, eqb-true, eqb-false, ltb-false, ne_eqb, eq-eqb, lt-ltb, le-ltb, lt-leb, le-leb}
use Rattle.laws.specs.Pick.{pick}
use Rattle.laws.proofs.Cases.{by_test, by_le, by_eq, or_left, or_right}
use Rattle.refusals.specs.Limits.{field_ok, mask_ok}
use Rattle.receiver.specs.Join.{Heard, After, answered, refusal_of, accept_of, join_of}
use Rattle.receiver.specs.New.{fresh_of, fresh_joiner}
use Rattle.receiver.specs.Push.{fragment_length, push_of}
use Rattle.receiver.specs.Tally.{largest, is_full, tallied, with, counted}
use Rattle.receiver.specs.declared.Cause.TheVariants.{WrongLength, NoFragment}
use Rattle.receiver.specs.declared.Joiner.{Joiner}
use Rattle.receiver.specs.declared.Push.TheVariants.{Dropped}
use Rattle.receiver.specs.declared.Reassembler.{Reassembler}
use Rattle.receiver.specs.declared.Tallies.{Tallies}
use Rattle.receiver.proofs.JoinLaws.{none_refused, accept_over, join_empty, join_past, join_on}
use Rattle.receiver.proofs.PushLaws.{push_length, push_on}
use Rattle.receiver.proofs.TallyLaws.{tallied_refused, join_counts, push_counts, push_refuses_field}
use Rattle.gateway.specs.Run.{Call, push, join, reset, state, Step, seen, step_of, left_by, offers, idle, ending}
use Rattle.gateway.specs.Script.{idle_answer}
use Rattle.gateway.proofs.Bare.{Bare, bare}
use Rattle.gateway.proofs.Lift.{left_after, not_full_after}
use Rattle.gateway.proofs.Sim.{left_good, fresh_good}

low_or_more : (b : ℕ) → leb 0x80 b ≡ not (ltb b 0x80)
low_or_more b =
    by_le 0x80 b
    (λ l. le-leb 0x80 b l ∙ ap not (sym (le-ltb b 0x80 l)))
    (λ l. lt-leb 0x80 b l ∙ ap not (sym (lt-ltb b 0x80 l)))

-- the receiver after calls on a new one of an accepted mask and a store of 5,000 bytes, where one more push or join may come
module _ (m : ℕ) (ok : mask_ok m ≡ true) (s : List ℕ) (size : length s ≡ 5000) (cs : List Call) (few : offers cs < largest) where
  pub never_refused : refusal_of (left_by (state (fresh_of m) s) cs).receiver.state (length (left_by (state (fresh_of m) s) cs).store) ≡ 0
  never_refused =
      let g = left_good m ok (bare (fresh_joiner m) s) (fresh_good m s size) cs in
      ap (λ (t : Bare). refusal_of t.receiver (length t.store)) (left_after m s cs few)
      ∙ none_refused _ _ (record { store = g.size; fit = g.fit; few = g.few; mask = ap mask_ok g.mask ∙ ok })

  pub never_full : is_full (left_by (state (fresh_of m) s) cs).receiver.tallies ≡ false
  never_full = not_full_after m s cs few

-- ---- without tallies

module _ (r : Joiner) (s : List ℕ) (ok : refusal_of r (length s) ≡ 0) where
  join_still : (f : List ℕ) (n : ℕ) → idle (join f n) ≡ true → join_of r s f n ≡ answered (Dropped NoFragment) r s
  join_still f n e =
      by_eq n 0 (λ z. join_empty r s f n ok z)
      (λ z. by_le n (length f)
      (λ l. absurd (false≢true (simp (ne_eqb _ _ z, le-ltb _ _ l) at e)))
      (λ l. join_past r s f n ok z l))

  push_still : (f : List ℕ) (k : ℕ) → field_ok k ≡ true → idle (push f k) ≡ true
      → push_of r s f k ≡ answered (Dropped (pick (eqb (length f) (k + 3)) NoFragment WrongLength)) r s
  unfolding pick
  push_still f k o e =
      by_eq (length f) (k + 3)
      (λ l. rw (eq-eqb _ _ l) (push_on r s f k ok o l ∙ join_still f (fragment_length f k) (simp (o, eq-eqb _ _ l) at e)))
      (λ l. rw (ne_eqb _ _ l) (push_length r s f k ok o l))

  join_goes : (f : List ℕ) (n : ℕ) → idle (join f n) ≡ false → join_of r s f n ≡ accept_of r s f n
  join_goes f n e =
      join_on r s f n ok (eqb-false n 0 (or_left (eqb n 0) (ltb (length f) n) e)) (ltb-false (length f) n (or_right (eqb n 0) (ltb (length f) n) e))

  push_goes : (f : List ℕ) (k : ℕ) → field_ok k ≡ true → idle (push f k) ≡ false → push_of r s f k ≡ accept_of r s f (fragment_length f k)
  push_goes f k o e =
      let n = fragment_length f k in
      let bad = not (eqb (length f) (k + 3)) in
      let j : (bad || idle (join f n)) ≡ false = or_right (not (field_ok k)) (bad || idle (join f n)) e in
      push_on r s f k ok o (eqb-true (length f) (k + 3) (not-false _ (or_left bad (idle (join f n)) j)))
      ∙ join_goes f n (or_right bad (idle (join f n)) j)

-- ---- with tallies

-- the tallies after an answer, a reset having none
abbrev pub tallied_by : Option Heard → Tallies → Tallies
tallied_by None t = t
tallied_by (Some h) t = tallied h t

field_of : (f : List ℕ) (k : ℕ) → idle (push f k) ≡ false → field_ok k ≡ true
field_of f k e = not-false (field_ok k) (or_left (not (field_ok k)) (not (eqb (length f) (k + 3)) || idle (join f (fragment_length f k))) e)

module _ (r : Reassembler) (s : List ℕ) (ok : refusal_of r.state (length s) ≡ 0) (room : is_full r.tallies ≡ false) where
  -- ---- an idle call

  push_stays : (f : List ℕ) (k : ℕ) → idle (push f k) ≡ true
      → step_of (state r s) (push f k) ≡ record { answer = idle_answer (push f k); next = state (with r.state (tallied_by (idle_answer (push f k)) r.tallies)) s }
  unfolding pick
  push_stays f k e =
      by_test (field_ok k)
      (λ o. rw o (ap seen (push_counts r s f k ok o room ∙ ap (counted r.tallies) (push_still r.state s ok f k o e))))
      (λ o. rw o (rw (tallied_refused r.tallies 8) (ap seen (push_refuses_field r s f k ok o))))

  -- an idle call "answers the table's refusal, else Dropped", is counted by its answer, and leaves all else as it was
  pub idle_still : (c : Call) → idle c ≡ true
      → step_of (state r s) c ≡ record { answer = idle_answer c; next = state (with r.state (tallied_by (idle_answer c) r.tallies)) s }
  idle_still (push f k) e = push_stays f k e
  idle_still (join f n) e = ap seen (join_counts r s f n ok room ∙ ap (counted r.tallies) (join_still r.state s ok f n e))
  idle_still reset e = cc

  -- ---- any other push or join

  pub join_counted : (f : List ℕ) (n : ℕ) → idle (join f n) ≡ false → step_of (state r s) (join f n) ≡ seen (counted r.tallies (accept_of r.state s f n))
  join_counted f n e = ap seen (join_counts r s f n ok room ∙ ap (counted r.tallies) (join_goes r.state s ok f n e))

  pub push_counted : (f : List ℕ) (k : ℕ) → idle (push f k) ≡ false
      → step_of (state r s) (push f k) ≡ seen (counted r.tallies (accept_of r.state s f (fragment_length f k)))
  push_counted f k e =
      let o = field_of f k e in
      ap seen (push_counts r s f k ok o room ∙ ap (counted r.tallies) (push_goes r.state s ok f k o e))

  -- ---- endings

  -- what a push or join leaves of an overflow, whether it is idle or not
  over_after : r.state.overflow ≡ true → (f : List ℕ) (i : Bool) (a : Step) (n : ℕ)
      → (i ≡ true → a.next.receiver.state ≡ r.state) → (i ≡ false → a ≡ seen (counted r.tallies (accept_of r.state s f n)))
      → a.next.receiver.state.overflow ≡ not (not i && ltb (get_or f 0 0) 0x80)
  over_after o f true a n g h = ap (λ (x : Joiner). x.overflow) (g refl) ∙ o
  over_after o f false a n g h =
      ap (λ (x : Step). x.next.receiver.state.overflow) (h refl)
      ∙ ap (λ (x : After Joiner). x.receiver.overflow) (accept_over r.state s f n o)
      ∙ low_or_more (get_or f 0 0)

  pub overflow_until : r.state.overflow ≡ true → (c : Call) → (step_of (state r s) c).next.receiver.state.overflow ≡ not (ending c)
  overflow_until o (push f k) =
      over_after o f (idle (push f k)) (step_of (state r s) (push f k)) (fragment_length f k)
      (λ i. ap (λ (x : Step). x.next.receiver.state) (idle_still (push f k) i)) (push_counted f k)
  overflow_until o (join f n) =
      over_after o f (idle (join f n)) (step_of (state r s) (join f n)) n
      (λ i. ap (λ (x : Step). x.next.receiver.state) (idle_still (join f n) i)) (join_counted f n)
  overflow_until o reset = refl
