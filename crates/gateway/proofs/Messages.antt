-- The frames of accepted messages, pushed in order where nothing is held, are answered More but for each last, which answers Done with the
-- message.
-- Assumes nothing.
use mathlib.Core.Path.{◌≡◌, refl, sym, ap, ap₂, ◌∙◌, subst}
use mathlib.Core.Bool.{true}
use mathlib.Core.List.{List, [], ◌∷◌, ◌++◌}
use Rattle.std.proofs.Common.{Option, Some}
use Prim.Native.Nat.{ℕ, zero, suc, ◌+◌, ◌-◌, ◌*◌, ◌≤◌, ◌<◌}
use native.Mathlib.Numerals.{add-one}
use native.Mathlib.Omega.{arith}
use lib.ListN.{length, take, drop, length-append, length-take}
use lib.Seq.{take_all, take-add}
use lib.Dec.{eqb}
use borrow.Author.Tests.{ne_eqb}
use Rattle.laws.specs.Pick.{pick}
use Rattle.laws.proofs.Cases.{by_le, pick_false}
use Rattle.refusals.specs.Limits.{field_ok}
use Rattle.refusals.proofs.LimitLaws.{Top, mask_top, field_low}
use Rattle.sender.specs.Send.{ceiling, count_of, check_of, fragment_of, most_of}
use Rattle.sender.proofs.CountLaws.{ceiling_covers, count_one, count_many}
use Rattle.sender.proofs.MaskLaws.{most_few}
use Rattle.sender.proofs.SendLaws.{lead_more, lead_last, fragment_single, fragment_first, fragment_suc, send_accepted}
use Rattle.frame.specs.Frame.{frame_of}
use Rattle.frame.specs.declared.Control.{Control}
use Rattle.frame.proofs.FrameLaws.{frame_starts, build_accepted}
use Rattle.receiver.specs.Join.{Heard, more, done}
use Rattle.gateway.specs.Run.{Call, push}
use Rattle.gateway.specs.Script.{Sending, Line, line, calls, answers}
use Rattle.gateway.proofs.CheckByte.{check_passes}
use Rattle.gateway.proofs.FrameHeard.{pushed, front_first, front_only, front_next}
use Rattle.gateway.proofs.Lines.{Accepted, AllAccepted, lines_from, lines_of, all_lines}
use Rattle.gateway.proofs.View.{Held, empty, part, Out, out, accept_v, step_v, run_v, end_v, grow_v_more, grow_v_last, end_one, end_good}

-- ---- one message, h and then rest

module _ (m : ℕ) (top : Top m) (field : ℕ) (fok : field_ok field ≡ true) (h : ℕ) (small : h < 0x80) (rest : List ℕ) (long : suc (length rest) ≤ 5000)
    (control : ℕ → Control) (marker : ℕ → ℕ) (mark : (k : ℕ) → k < count_of (suc (length rest)) field → marker k ≡ 0x14 → ⊥) where
  abbrev sent : Sending
  sent = record { message = h ∷ rest; field = field; control = control; marker = marker }

  abbrev count : ℕ
  count = count_of (suc (length rest)) field

  abbrev whole : Heard
  whole = done (suc (length rest)) (h ∷ rest)

  -- a run of lines, with what comes after them
  abbrev Runs : Held → List Line → List Line → Type 0
  Runs v ls after = run_v m v (calls (ls ++ after)) ≡ answers ls ++ run_v m empty (calls after)

  head_line : (v : Held) (c : Call) (a : Heard) (ls after : List Line) (w : Held) → step_v m v c ≡ out a w → Runs w ls after → Runs v (line c (Some a) ∷ ls) after
  unfolding run_v
  head_line v c a ls after w e r = rw e (ap {B = List (Option Heard)} (λ l. Some a ∷ l) r)

  low : 3 ≤ field
  low = field_low field fok

  push_by : (v : Held) (k b : ℕ) (t : List ℕ) (o : Out) → k < count → suc (length t) ≤ field
      → ((r : List ℕ) → accept_v m v (b ∷ (t ++ r)) (length (b ∷ t)) ≡ o)
      → step_v m v (push (frame_of field (b ∷ t) (control k) (marker k)) field) ≡ o
  push_by v k b t o l fits f =
      let q = frame_starts field (b ∷ t) (control k) (marker k) fits in
      pushed field (b ∷ t) (control k) (marker k) fits (mark k l) m v fok (omega arith)
      ∙ ap (λ (s : List ℕ). accept_v m v s (length (b ∷ t))) q.1
      ∙ f q.0

  -- the step of fragment k, whatever it is
  push_is : (v : Held) (k : ℕ) (f : List ℕ) (o : Out) → fragment_of (h ∷ rest) field m k ≡ f
      → step_v m v (push (frame_of field f (control k) (marker k)) field) ≡ o
      → step_v m v (push (frame_of field (fragment_of (h ∷ rest) field m k) (control k) (marker k)) field) ≡ o
  push_is v k f o e s = ap (λ (g : List ℕ). step_v m v (push (frame_of field g (control k) (marker k)) field)) e ∙ s

  -- ---- of one fragment

  single_step : suc (length rest) ≤ field → 0 < count → step_v m empty (push (frame_of field (h ∷ rest) (control 0) (marker 0)) field) ≡ out whole empty
  single_step fits pos =
      push_by empty 0 h rest _ pos fits
      (λ r. front_only m h rest r small
      ∙ grow_v_last m (h ∷ []) 0 0 h rest (omega arith) (omega arith) small
      ∙ ap (λ (a : Heard). out a empty) (end_one m (h ∷ rest) (0 + 1) 0 (omega arith)))

  single : suc (length rest) ≤ field → count ≡ 1 → (after : List Line) → Runs empty (lines_from m sent 0 1) after
  unfolding lines_from pick
  single fits one after =
      head_line empty _ whole [] after empty
      (push_is empty 0 (h ∷ rest) (out whole empty) (fragment_single (h ∷ rest) field m fits) (single_step fits (omega arith))) refl

  -- ---- of several

  -- how many bytes after the first go before fragment j + 1
  abbrev place : ℕ → ℕ
  place j = field - 2 + j * (field - 1)

  abbrev piece : ℕ → List ℕ
  piece j = take (field - 1) (drop (place j) rest)

  -- a piece after those before it
  pieces : (j : ℕ) → take (place j) rest ++ piece j ≡ take (place (suc j)) rest
  pieces j =
      let e : place j + (field - 1) ≡ place (suc j) = omega arith in
      sym (take-add (place j) (field - 1) rest) ∙ ap (λ (k : ℕ). take k rest) e

  piece_fits : (j : ℕ) → suc (length (piece j)) ≤ field
  piece_fits j = omega (arith, low, length-take (field - 1) (drop (place j) rest))

  pieces_fit : (j : ℕ) → suc (length (take (place j) rest)) + length (piece j) ≤ 5000
  pieces_fit j = omega (arith, length-append (take (place j) rest) (piece j), ap length (pieces j), length-take (place (suc j)) rest)

  module _ (q : ℕ) (is : count ≡ suc (suc q)) (long_one : field < suc (length rest)) (few : count ≤ most_of m) (covers : length rest ≤ place (suc q)) where
    abbrev chk : ℕ
    chk = check_of (h ∷ rest) m count

    abbrev buf : ℕ → List ℕ
    buf j = (h + 0x80) ∷ take (place j) rest

    small_count : suc (suc q) ≤ 129
    small_count = omega (arith, most_few m top, is)

    first_step : step_v m empty (push (frame_of field ((h + 0x80) ∷ chk ∷ take (field - 2) rest) (control 0) (marker 0)) field) ≡ out more (part (buf 0) 1 chk)
    first_step =
        let t = take (field - 2) rest in
        let z : field - 2 ≡ place 0 = omega arith in
        push_by empty 0 (h + 0x80) (chk ∷ t) _ (omega (arith, is)) (omega (arith, low, length-take (field - 2) rest))
        (λ r. front_first m (h + 0x80) t r chk (omega arith)
        ∙ grow_v_more m ((h + 0x80) ∷ []) 0 chk (h + 0x80) t (omega arith) (omega (arith, length-take (field - 2) rest)) (omega arith)
        ∙ ap (λ (k : ℕ). out more (part ((h + 0x80) ∷ take k rest) 1 chk)) z)

    more_step : (j : ℕ) → suc j < suc (suc q)
        → step_v m (part (buf j) (suc j) chk) (push (frame_of field ((h + 0x80) ∷ piece j) (control (suc j)) (marker (suc j))) field) ≡ out more (part (buf (suc j)) (suc (suc j)) chk)
    more_step j l =
        push_by (part (buf j) (suc j) chk) (suc j) (h + 0x80) (piece j) _ (omega (arith, is)) (piece_fits j)
        (λ r. front_next m (h + 0x80) (piece j) r (buf j) (suc j) chk
        ∙ grow_v_more m (buf j) (suc j) chk (h + 0x80) (piece j) (omega (arith, small_count)) (pieces_fit j) (omega arith)
        ∙ ap₂ (λ (x : List ℕ) (k : ℕ). out more (part ((h + 0x80) ∷ x) k chk)) (pieces j) (add-one (suc j)))

    last_step : step_v m (part (buf q) (suc q) chk) (push (frame_of field (h ∷ piece q) (control (suc q)) (marker (suc q))) field) ≡ out whole empty
    last_step =
        push_by (part (buf q) (suc q) chk) (suc q) h (piece q) _ (omega (arith, is)) (piece_fits q)
        (λ r. front_next m h (piece q) r (buf q) (suc q) chk
        ∙ grow_v_last m (buf q) (suc q) chk h (piece q) (omega (arith, small_count)) (pieces_fit q) small
        ∙ ap (λ (x : List ℕ). out (end_v m (h ∷ x) (suc q + 1) chk) empty) (pieces q ∙ take_all (place (suc q)) rest covers)
        ∙ ap (λ (a : Heard). out a empty) (end_good m (h ∷ rest) (suc q + 1) chk (omega arith) (check_passes m top (h ∷ rest) count few (omega (arith, is)))))

    frag_first : fragment_of (h ∷ rest) field m 0 ≡ (h + 0x80) ∷ chk ∷ take (field - 2) rest
    frag_first =
        fragment_first (h ∷ rest) field m long_one
        ∙ ap (λ (b : ℕ). b ∷ chk ∷ take (field - 2) rest) (lead_more h 0 count (omega (arith, is)))

    frag_more : (j : ℕ) → suc (suc j) < suc (suc q) → fragment_of (h ∷ rest) field m (suc j) ≡ (h + 0x80) ∷ piece j
    frag_more j l =
        fragment_suc (h ∷ rest) field m j
        ∙ ap (λ (b : ℕ). b ∷ piece j) (lead_more h (suc j) count (omega (arith, is)))

    frag_last : fragment_of (h ∷ rest) field m (suc q) ≡ h ∷ piece q
    frag_last =
        fragment_suc (h ∷ rest) field m q
        ∙ ap (λ (b : ℕ). b ∷ piece q) (lead_last h (suc q) count (omega (arith, is)))

    -- the answer that a line asks for, by how many lines follow it
    not_last : (n : ℕ) → ◌≡◌ {A = Heard} (pick (eqb (suc n) 0) whole more) more
    not_last n = pick_false whole more (ne_eqb (suc n) 0 (λ z. omega arith))

    asked : (n : ℕ) (w : Held) {o : Out} → o ≡ out more w → o ≡ out (pick (eqb (suc n) 0) whole more) w
    asked n w e = e ∙ ap (λ (a : Heard). out a w) (sym (not_last n))

    rest_run : (n j : ℕ) → j + n ≡ q → (after : List Line) → Runs (part (buf j) (suc j) chk) (lines_from m sent (suc j) (suc n)) after
    unfolding lines_from
    rest_run zero j e after =
        let z : q ≡ j = omega arith in
        subst (λ (y : ℕ). Runs (part (buf y) (suc y) chk) (line (push (frame_of field (fragment_of (h ∷ rest) field m (suc y)) (control (suc y)) (marker (suc y))) field) (Some (pick (eqb 0 0) whole more)) ∷ []) after) z
        (unfold pick in head_line (part (buf q) (suc q) chk) _ whole [] after empty
        (push_is (part (buf q) (suc q) chk) (suc q) (h ∷ piece q) (out whole empty) frag_last last_step) refl)
    rest_run (suc n) j e after =
        head_line (part (buf j) (suc j) chk) _ (pick (eqb (suc n) 0) whole more) (lines_from m sent (suc (suc j)) (suc n)) after (part (buf (suc j)) (suc (suc j)) chk)
        (asked n (part (buf (suc j)) (suc (suc j)) chk)
        (push_is (part (buf j) (suc j) chk) (suc j) ((h + 0x80) ∷ piece j) _ (frag_more j (omega arith)) (more_step j (omega arith))))
        (rest_run n (suc j) (omega arith) after)

    several : (after : List Line) → Runs empty (lines_from m sent 0 (suc (suc q))) after
    unfolding lines_from
    several after =
        head_line empty _ (pick (eqb (suc q) 0) whole more) (lines_from m sent 1 (suc q)) after (part (buf 0) 1 chk)
        (asked q (part (buf 0) 1 chk) (push_is empty 0 ((h + 0x80) ∷ chk ∷ take (field - 2) rest) _ frag_first first_step))
        (rest_run q 0 (omega arith) after)

  -- ---- of one or of several

  covered : (p : ℕ) → ceiling (suc (length rest) + 1 - field) (field - 1) ≡ p → suc (length rest) + 1 - field ≤ p * (field - 1)
  covered p e =
      subst (λ (y : ℕ). suc (length rest) + 1 - field ≤ y * (field - 1)) e
      (ceiling_covers (suc (length rest) + 1 - field) (field - 1) (omega (arith, low)))

  many : count ≤ most_of m → (after : List Line) → field < suc (length rest) → (p : ℕ) → ceiling (suc (length rest) + 1 - field) (field - 1) ≡ p
      → Runs empty (lines_from m sent 0 count) after
  many few after l zero e = absurd (omega (arith, covered 0 e))
  many few after l (suc q) e =
      let c : count ≡ suc (suc q) = count_many (suc (length rest)) field l ∙ omega (arith, e) in
      subst (λ (y : ℕ). Runs empty (lines_from m sent 0 y) after) (sym c)
      (several q c l few (omega (arith, low, covered (suc q) e)) after)

  pub message_run : count ≤ most_of m → (after : List Line) → Runs empty (lines_of m sent) after
  unfolding lines_of
  message_run few after =
      by_le (suc (length rest)) field
      (λ l. let c : count ≡ 1 = count_one (suc (length rest)) field l in
      subst (λ (y : ℕ). Runs empty (lines_from m sent 0 y) after) (sym c) (single l c after))
      (λ l. many few after l (ceiling (suc (length rest) + 1 - field) (field - 1)) refl)

-- ---- any list of messages

answers_append : (a b : List Line) → answers (a ++ b) ≡ answers a ++ answers b
answers_append [] b = refl
answers_append (x ∷ a) b = ap {B = List (Option Heard)} (λ l. x.answer ∷ l) (answers_append a b)

module _ (m : ℕ) where
  sent_run : (message : List ℕ) (field : ℕ) (control : ℕ → Control) (marker : ℕ → ℕ)
      → Accepted m (record { message = message; field = field; control = control; marker = marker }) → (after : List Line)
      → run_v m empty (calls (lines_of m (record { message = message; field = field; control = control; marker = marker }) ++ after))
      ≡ answers (lines_of m (record { message = message; field = field; control = control; marker = marker })) ++ run_v m empty (calls after)
  sent_run [] field control marker acc after =
      let s = send_accepted [] field m acc.sent in absurd (omega (arith, s.some))
  sent_run (h ∷ rest) field control marker acc after =
      let s = send_accepted (h ∷ rest) field m acc.sent in
      message_run m (mask_top m s.mask_ok_holds) field s.field_ok_holds h s.first_low rest s.short control marker
      (λ k l. (build_accepted field (fragment_of (h ∷ rest) field m k) (control k) (marker k) (acc.framed k l)).other)
      s.room after

  pub messages : (xs : List Sending) → AllAccepted m xs → run_v m empty (calls (all_lines m xs)) ≡ answers (all_lines m xs)
  unfolding all_lines run_v
  messages [] acc = refl
  messages (x ∷ xs) acc =
      sent_run x.message x.field x.control x.marker acc.0 (all_lines m xs)
      ∙ ap (λ (l : List (Option Heard)). answers (lines_of m x) ++ l) (messages xs acc.1)
      ∙ sym (answers_append (lines_of m x) (all_lines m xs))
