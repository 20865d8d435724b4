-- Lemmas of `demand_3`, for its part `delivers`: the frames of messages that are any bytes the sender accepts have their answers, with idle
-- calls anywhere between.
-- Assumes nothing.
use mathlib.Core.Path.{◌≡◌, refl, ap, ap₂, ◌∙◌}
use mathlib.Core.Bool.{true, false≢true}
use mathlib.Core.List.{List, [], ◌∷◌, ◌++◌}
use Rattle.std.proofs.Common.{Option}
use Prim.Native.Nat.{ℕ, ◌+◌}
use lib.ListN.{length}
use lib.Dec.{eqb}
use borrow.Author.Tests.{eq-eqb, ne_eqb, le-ltb}
use Rattle.laws.specs.Pick.{pick}
use Rattle.laws.proofs.Cases.{by_test, by_le, by_eq}
use Rattle.refusals.specs.Limits.{field_ok, mask_ok}
use Rattle.receiver.specs.Join.{Heard, refused, dropped}
use Rattle.receiver.specs.New.{fresh_of}
use Rattle.receiver.specs.Push.{fragment_length}
use Rattle.receiver.specs.declared.Cause.TheVariants.{WrongLength, NoFragment}
use Rattle.gateway.specs.Run.{Call, push, join, reset, state, left_by, run_of, Few, idle}
use Rattle.gateway.specs.Script.{Sending, Line, calls, answers, idle_answer, Mixed, finished, still, next, settled}
use Rattle.gateway.proofs.Lines.{AllAccepted, all_lines}
use Rattle.gateway.proofs.View.{Held, empty, out, join_v, step_v, left_v, run_v, join_v_empty, join_v_past, push_v_field, push_v_length, push_v_on}
use Rattle.gateway.proofs.Sim.{left_good, left_sim, run_sim, fresh_good, fresh_view}
use Rattle.gateway.proofs.Forget.{step_ends}
use Rattle.gateway.proofs.Lift.{run_after}
use Rattle.gateway.proofs.Messages.{messages}

module _ (m : ℕ) where
  -- ---- idle calls change nothing

  idle_join : (h : Held) (f : List ℕ) (n : ℕ) → idle (join f n) ≡ true → join_v m h f n ≡ out (dropped NoFragment) h
  idle_join h f n e =
      by_eq n 0 (λ z. join_v_empty m h f n z)
      (λ z. by_le n (length f)
      (λ l. absurd (false≢true (simp (ne_eqb _ _ z, le-ltb _ _ l) at e)))
      (λ l. join_v_past m h f n z l))

  idle_push : (h : Held) (f : List ℕ) (k : ℕ) → idle (push f k) ≡ true → step_v m h (push f k) ≡ out (pick (field_ok k) (dropped (pick (eqb (length f) (k + 3)) NoFragment WrongLength)) (refused 8)) h
  unfolding pick
  idle_push h f k e =
      by_test (field_ok k)
      (λ o. by_eq (length f) (k + 3)
      (λ l. rw (push_v_on m h f k o l, o, eq-eqb _ _ l) (idle_join h f (fragment_length f k) (simp (o, eq-eqb _ _ l) at e)))
      (λ l. rw (push_v_length m h f k o l, o, ne_eqb _ _ l) refl))
      (λ o. rw (push_v_field m h f k o, o) refl)

  idle_step : (h : Held) (c : Call) → idle c ≡ true → step_v m h c ≡ record { answer = idle_answer c; next = h }
  idle_step h (push f k) e = idle_push h f k e
  idle_step h (join f n) e = unfold step_v in idle_join h f n e
  idle_step h reset e = cc

  mixed : {ps ls : List Line} → Mixed ps ls → (h : Held) → run_v m h (calls ps) ≡ answers ps → run_v m h (calls ls) ≡ answers ls
  unfolding run_v
  mixed finished h e = e
  mixed (still c i q) h e = rw (idle_step h c i) (ap {B = List (Option Heard)} (λ r. idle_answer c ∷ r) (mixed q h e))
  mixed (next {ps} {ls} l q) h e =
      let e₁ : (step_v m h l.call).answer ≡ l.answer = cc in
      let e₂ : run_v m (step_v m h l.call).next (calls ps) ≡ answers ps = cc in
      ap₂ {A = Option Heard} {B = List (Option Heard)} (λ a r. a ∷ r) e₁ (mixed q (step_v m h l.call).next e₂)

  -- ---- after an ending nothing is held

  settled_left : (h : Held) (cs : List Call) (c : Call) → settled (c ∷ cs) ≡ true → left_v m h (c ∷ cs) ≡ empty
  unfolding left_v
  settled_left h [] c e = step_ends m h c e
  settled_left h (d ∷ cs) c e = settled_left (step_v m h c).next cs d e

  settled_empty : (cs : List Call) → settled cs ≡ true → left_v m empty cs ≡ empty
  settled_empty [] e = unfold left_v in refl
  settled_empty (c ∷ cs) e = settled_left empty cs c e

-- ---- every list of messages

pub deliver : (m : ℕ) → mask_ok m ≡ true → (s : List ℕ) → length s ≡ 5000
    → (before : List Call) → settled before ≡ true
    → (xs : List Sending) → AllAccepted m xs
    → (ls : List Line) → Mixed (all_lines m xs) ls
    → Few (before ++ calls ls)
    → run_of (left_by (state (fresh_of m) s) before) (calls ls) ≡ answers ls
deliver m ok s l before q xs a ls x few =
    let g = fresh_good m s l in
    run_after m s before (calls ls) few
    ∙ run_sim m ok _ (left_good m ok _ g before) (calls ls)
    ∙ ap (λ (h : Held). run_v m h (calls ls))
    (left_sim m ok _ g before ∙ ap (λ (h : Held). left_v m h before) (fresh_view m s) ∙ settled_empty m before q)
    ∙ mixed m x empty (messages m xs a)
