-- Demand 3.
-- Assumes nothing.
use mathlib.Core.Path.{◌≡◌, refl, sym, ap, ap₂, ◌∙◌, subst}
use mathlib.Core.Bool.{Bool, true}
use mathlib.Core.List.{List, [], ◌∷◌, ◌++◌}
use Rattle.std.proofs.Common.{Option, Some}
use Prim.Native.Nat.{ℕ, zero, suc, ◌+◌, ◌≤◌, ◌<◌}
use native.Mathlib.Nat.{zero-add}
use native.Mathlib.Omega.{arith}
use lib.ListN.{length, drop}
use lib.Seq.{sets, sets-eq}
use borrow.Author.Tests.{lt-ltb, le-ltb}
use Rattle.laws.specs.Pick.{pick}
use Rattle.laws.proofs.Cases.{by_test, by_le, by_eq, pick_true, pick_false}
use Rattle.refusals.specs.Limits.{mask_ok}
use Rattle.refusals.specs.Outcome.{Outcome, accepted, refused, answer, into, left}
use Rattle.refusals.proofs.OutcomeLaws.{answer_not, same_answer_lem, accepted_is, into_refused, into_short, into_fits}
use Rattle.sender.specs.Send.{fragment_of, send_of}
use Rattle.sender.proofs.SendLaws.{Sendable, send_past, send_answer, send_is, send_accepted, count_answer}
use Rattle.frame.specs.Frame.{frame_of, build_of}
use Rattle.frame.proofs.FrameLaws.{build_accepted}
use Rattle.receiver.specs.Join.{Heard}
use Rattle.receiver.specs.New.{fresh_of, new_of}
use Rattle.receiver.specs.declared.Reassembler.{Reassembler}
use Rattle.kiss.specs.Codec.{Decoded}
use Rattle.kiss.specs.Told.{into_with, decode_into}
use Rattle.gateway.specs.Run.{Call, push, State, state, step_of, left_by, run_of}
use Rattle.gateway.specs.Script.{Sending, Line, line, calls, Mixed}
use Rattle.gateway.specs.Demand.{answer_before, Frames, no_fragment, fragment_then, Message, Messages, no_message, message_then, Fragment, Whole, AllWhole, Claim, Demand3}
use Rattle.gateway.proofs.Forget.{forget}
use Rattle.gateway.proofs.Lines.{count_in, Accepted, AllAccepted, lines_from, lines_of, all_lines}
use Rattle.gateway.proofs.Deliver.{deliver}
use Rattle.gateway.proofs.Handed.{lines_from_lem, lines_length, decoded_back, delivered}

-- ---- the frames that are asked for are those of `lines_of`

module _ (m : ℕ) (x : Sending) (s : Sendable x.message x.field m) where
  below_count : (k : ℕ) {f : List ℕ} → send_of x.message x.field m k ≡ answer f → k < count_in x
  below_count k e =
      by_le (count_in x) k
      (λ l. absurd (answer_not (sym e ∙ send_past x.message x.field m k s l)))
      (λ l. l)

  past_count : (k : ℕ) → send_of x.message x.field m k ≡ refused 13 → count_in x ≤ k
  past_count k e =
      by_le (count_in x) k
      (λ l. l)
      (λ l. absurd (answer_not (sym (send_answer x.message x.field m k s l) ∙ e)))

  fragment_is : (k : ℕ) {f : List ℕ} → send_of x.message x.field m k ≡ answer f → f ≡ fragment_of x.message x.field m k
  fragment_is k {f} e = sym (send_is x.message x.field m k f e).0

  frames_are : (n k : ℕ) {ls : List Line} → k + n ≡ count_in x → Frames m x k ls → ls ≡ lines_from m x k n
  unfolding lines_from
  frames_are zero k e (no_fragment q) = refl
  frames_are zero k e (fragment_then f g a b r) = absurd (omega (arith, below_count k a))
  frames_are (suc n) k e (no_fragment q) = absurd (omega (arith, past_count k q))
  frames_are (suc n) k e (fragment_then {rest = ls} f g a b r) =
      let i : ls ≡ lines_from m x (suc k) n = frames_are n (suc k) (omega arith) r in
      let l : length ls ≡ n = ap length i ∙ lines_from_lem m x n (suc k) in
      let h : g ≡ frame_of x.field (fragment_of x.message x.field m k) (x.control k) (x.marker k)
      = same_answer_lem (sym b ∙ (build_accepted x.field f (x.control k) (x.marker k) (accepted_is b)).is)
      ∙ ap (λ (y : List ℕ). frame_of x.field y (x.control k) (x.marker k)) (fragment_is k a) in
      ap₂ {A = Line} {B = List Line} (λ p ps. p ∷ ps)
      (ap₂ (λ (y : List ℕ) (j : ℕ). line (push y x.field) (Some (answer_before j x.message))) h l) i

  builds : {k : ℕ} {ls : List Line} → Frames m x k ls → (j : ℕ) → k ≤ j → j < count_in x
      → accepted (build_of x.field (fragment_of x.message x.field m j) (x.control j) (x.marker j)) ≡ true
  builds {k} (no_fragment q) j lo hi = absurd (omega (arith, past_count k q))
  builds {k} (fragment_then f g a b r) j lo hi =
      by_eq j k
      (λ q. subst (λ (y : ℕ). accepted (build_of x.field (fragment_of x.message x.field m y) (x.control y) (x.marker y)) ≡ true) (sym q)
      (subst (λ (y : List ℕ). accepted (build_of x.field y (x.control k) (x.marker k)) ≡ true) (fragment_is k a) (accepted_is b)))
      (λ ne. builds r j (omega arith) hi)

-- ---- what a call leaves in a lent output

-- bytes that are written to the front of an output with room
at_front : (v out : List ℕ) → length v ≤ length out → sets out 0 v ≡ v ++ drop (length v) out
at_front v out h = sets-eq v out 0 (omega arith) ∙ ap (λ (n : ℕ). v ++ drop n out) (zero-add (length v))

module _ {o : Outcome (List ℕ)} {v : List ℕ} (e : o ≡ answer v) (out : List ℕ) where
  sent_fits : length v ≤ length out → into o out ≡ left (answer (length v)) (v ++ drop (length v) out)
  sent_fits h = ap (λ (y : Outcome (List ℕ)). into y out) e ∙ into_fits v out h ∙ ap (left (answer (length v))) (at_front v out h)

  sent_short : length out < length v → into o out ≡ left (refused 6) out
  sent_short h = ap (λ (y : Outcome (List ℕ)). into y out) e ∙ into_short v out h

module _ {o : Outcome Decoded} {d : Decoded} (e : o ≡ answer d) (out : List ℕ) where
  decoded_fits : length d.bytes ≤ length out
      → decode_into o out ≡ (answer (length d.bytes, d.command), d.bytes ++ drop (length d.bytes) out)
  unfolding into_with pick
  decoded_fits h = rw (e, le-ltb (length out) (length d.bytes) h, at_front d.bytes out h)

  decoded_not : length out < length d.bytes → decode_into o out ≡ (refused 6, out)
  unfolding into_with pick
  decoded_not h = rw (e, lt-ltb (length out) (length d.bytes) h)

-- ---- one message

module _ {mended : Bool} (m : ℕ) {x : Sending} {ls : List Line} (c : Message mended m x ls) where
  sendable : Sendable x.message x.field m
  sendable = send_accepted x.message x.field m c.sent

  message_lines : ls ≡ lines_of m x
  unfolding lines_of
  message_lines = frames_are m x sendable (count_in x) 0 (omega arith) c.frames

  message_accepted : Accepted m x
  message_accepted = record { sent = c.sent; framed = λ k l. builds m x sendable c.frames k (omega arith) l }

  message_length : length ls ≡ count_in x
  message_length = ap length message_lines ∙ lines_length m x

  message_fragment : (k : ℕ) → k < length ls → Fragment m x k
  message_fragment k l =
      let e = send_answer x.message x.field m k sendable (omega (arith, message_length)) in
      record { bytes = fragment_of x.message x.field m k; is = e; fits = sent_fits e; short = sent_short e }

  message_whole : Whole mended m x ls c.source
  message_whole =
      record {
        counted = count_answer (length x.message) x.field sendable.field_ok_holds sendable.short ∙ ap answer (sym message_length);
        each = message_fragment;
        from_count = λ k l out.
            ap (λ (o : Outcome (List ℕ)). into o out) (send_past x.message x.field m k sendable (omega (arith, message_length)))
            ∙ into_refused 13 out;
        decoded = decoded_fits (decoded_back c.source);
        decoded_short = decoded_not (decoded_back c.source);
      }

-- ---- any list of messages

module _ {mended : Bool} (m : ℕ) where
  all_lines_lem : {xs : List Sending} {ps : List Line} → Messages mended m xs ps → ps ≡ all_lines m xs
  unfolding all_lines
  all_lines_lem no_message = refl
  all_lines_lem (message_then c r) = ap₂ {A = List Line} {B = List Line} (λ a b. a ++ b) (message_lines m c) (all_lines_lem r)

  pub all_accepted : {xs : List Sending} {ps : List Line} → Messages mended m xs ps → AllAccepted m xs
  all_accepted no_message = tt
  all_accepted (message_then c r) = (message_accepted m c, all_accepted r)

  all_whole : {xs : List Sending} {ps : List Line} (q : Messages mended m xs ps) → AllWhole q
  all_whole no_message = tt
  all_whole (message_then c r) = (message_whole m c, all_whole r)

-- ---- the claim

-- a list of calls after another
pub run_append : (t : State) (a b : List Call) → run_of t (a ++ b) ≡ run_of t a ++ run_of (left_by t a) b
unfolding run_of left_by
run_append t [] b = refl
run_append t (c ∷ a) b = ap {B = List (Option Heard)} (λ l. (step_of t c).answer ∷ l) (run_append (step_of t c).next a b)

claim : (mended : Bool) (m : ℕ) → mask_ok m ≡ true → (store : List ℕ) → length store ≡ 5000 → Claim mended m (fresh_of m) store
claim mended m ok store size =
    record {
      forgets = λ stores sizes cs few. forget m ok store size stores sizes cs few;
      delivers = λ before q xs ps ms ls x few.
          let y : Mixed (all_lines m xs) ls = subst (λ (z : List Line). Mixed z ls) (all_lines_lem m ms) x in
          record {
            answered = run_append (state (fresh_of m) store) before (calls ls)
                ∙ ap (λ (l : List (Option Heard)). run_of (state (fresh_of m) store) before ++ l) (deliver m ok store size before q xs (all_accepted m ms) ls y few);
            handed_out = delivered m xs ls y;
            whole = all_whole m ms;
          };
    }

-- demand 3 holds, under both readings
pub demand_3 : (mended : Bool) → Demand3 mended
unfolding new_of
demand_3 mended mask r new store size =
    by_test (mask_ok mask)
    (λ ok. subst (λ (y : Reassembler). Claim mended mask y store) (same_answer_lem (sym (pick_true _ _ ok) ∙ new)) (claim mended mask ok store size))
    (λ no. absurd (answer_not (sym new ∙ pick_false _ _ no)))
