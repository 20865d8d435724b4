-- What the answers on the way from a line to its frames stand for.
-- Assumes nothing.
use mathlib.Core.Path.{◌≡◌, refl, sym, ap, ◌∙◌}
use mathlib.Core.Bool.{Bool, true}
use mathlib.Core.List.{List, [], ◌∷◌}
use Prim.Native.Nat.{ℕ, suc, ◌+◌, ◌-◌, ◌≤◌, ◌<◌}
use native.Mathlib.Nat.{div-le_self}
use native.Mathlib.Omega.{arith}
use lib.ListN.{length, take}
use lib.Dec.{ltb}
use Rattle.laws.specs.Wrote.{Wrote}
use borrow.Author.Tests.{not-false, lt-ltb, le-ltb, eq-eqb, ne_eqb}
use Rattle.laws.specs.Bits as bits
use Rattle.laws.specs.Pick.{pick}
use Rattle.laws.specs.Text.{ascii, same}
use Rattle.laws.proofs.Cases.{pick_true, pick_false, by_le}
use Rattle.laws.proofs.TextLaws.{eq_same, ne_same}
use Rattle.laws.proofs.WroteLaws.{wrote_none, wrote_then}
use Rattle.std.proofs.Common.{Result, Ok, Err}
use Rattle.refusals.specs.declared.Refusal.{Refusal}
use Rattle.refusals.specs.Outcome.{Outcome, refused, answer, number, outcome_of, left, into}
use Rattle.refusals.specs.Limits.{field_ok}
use Rattle.refusals.proofs.LimitLaws.{field_low}
use Rattle.refusals.proofs.OutcomeLaws.{same_answer_lem, past, told_bytes, told_refusal}
use Rattle.frame.specs.Frame.{build_of}
use Rattle.sender.specs.Send.{ceiling, count_of, count_for, send_of}
use Rattle.sender.proofs.CountLaws.{count_one, count_many}
use Rattle.ax25_address.specs.declared.classify.AprsType.{AprsType}
use Rattle.ax25_address.specs.Kind.{type_number}
use Rattle.kiss.specs.Codec.{code_of}
use Rattle.kiss.specs.Told.{encoded_of, code_into}
use Rattle.kiss.proofs.CodeBounds.{code_bounds}
use Rattle.kiss.proofs.TellLaws as Coding
use Rattle.kiss.proofs.TellLaws.{told_answer, told_refused}
use Rattle.room.proofs.SendRoom.{sent_fits, framed_fits}
use Rattle.texts.specs.Hex.{hex_of, bytes_of, read_of}
use Rattle.texts.specs.Part.{before, behind, piece_of, without_cr}
use Rattle.texts.specs.Say.{command_of, spelled_of, refusal_line, error_line, read_or, line_room}
use Rattle.texts.proofs.BackLaws.{Spells, spelled_back}
use Rattle.texts.proofs.ShowLaws.{hex_length}
use Rattle.send_lines.specs.Line.{plain, marker, framed_of, lined_by, frames_of, said_of, spelled_text, line_text, Sends}

-- ---- how many fragments

-- a message takes at most one fragment more than it has bytes
ceiling_few : (a b : ℕ) → ceiling a b ≤ a + (b - 1)
unfolding ceiling
ceiling_few a b = div-le_self (a + (b - 1)) b

pub count_few : (total field count : ℕ) → count_for total field ≡ answer count → count ≤ total + 1
unfolding count_for
count_few total field count e =
    let field_is = past _ _ _ _ e in
    let ok : field_ok field ≡ true = not-false (field_ok field) field_is.0 in
    let is : count_of total field ≡ count = same_answer_lem (past _ _ _ _ field_is.1).1 in
    let few : count_of total field ≤ total + 1 = of_count total field (field_low field ok) in
    omega arith
  where
    of_count : (n f : ℕ) → 3 ≤ f → count_of n f ≤ n + 1
    of_count n f low = by_le n f (λ h. rw (count_one n f h) (omega arith)) (λ h. rw (count_many n f h) (omega (arith, ceiling_few (n + 1 - f) (f - 1))))

-- ---- a frame as a line

module _ (field : ℕ) (d : List ℕ) where
  pub frame_refused : (out t : List ℕ) (r : Result ℕ Refusal) (x : Refusal) → r ≡ Err x → left (outcome_of r) t ≡ into (build_of field d plain marker) out → length out ≡ 515
      → (b : List ℕ) (at : ℕ) → Sends b at (build_of field d plain marker) b (Err x)
  frame_refused out t r x told e size b at = rw (told_refusal out t (build_of field d plain marker) r x told e (λ v q. omega (arith, framed_fits field d plain marker v q))) (refl, refl)

  module _ (out t : List ℕ) (r : Result ℕ Refusal) (n : ℕ) (told : r ≡ Ok n) (e : left (outcome_of r) t ≡ into (build_of field d plain marker) out) where
    pub frame_short : length (take n t) ≤ 515
    frame_short = let h = told_bytes out t (build_of field d plain marker) r n told e in rw h.front (omega (arith, framed_fits field d plain marker h.bytes h.is))

    pub frame_lined : {b c g : List ℕ} {at p q : ℕ} → Wrote b at (hex_of (take n t)) c p → Wrote c p (10 ∷ []) g q → Sends b at (build_of field d plain marker) g (Ok q)
    frame_lined w x =
        let h = told_bytes out t (build_of field d plain marker) r n told e in
        let few = framed_fits field d plain marker h.bytes h.is in
        let hex : Wrote _ _ (hex_of h.bytes) _ _ = rw h.front at w in
        rw h.is (wrote_then hex x, omega (arith, hex.next_is, x.next_is, hex_length h.bytes, few))

-- ---- the frame of a fragment

module _ (message : List ℕ) (field mask k : ℕ) where
  pub fragment_refused : (out t : List ℕ) (r : Result ℕ Refusal) (x : Refusal) → r ≡ Err x → left (outcome_of r) t ≡ into (send_of message field mask k) out → length out ≡ 512
      → (b : List ℕ) (at : ℕ) → Sends b at (framed_of field (send_of message field mask k)) b (Err x)
  unfolding framed_of
  fragment_refused out t r n told e size b at =
      rw (told_refusal out t (send_of message field mask k) r n told e (λ v q. omega (arith, sent_fits message field mask k v q))) (refl, refl)

  pub fragment_framed : (out t : List ℕ) (r : Result ℕ Refusal) (n : ℕ) → r ≡ Ok n → left (outcome_of r) t ≡ into (send_of message field mask k) out
      → (b g : List ℕ) (at : ℕ) (s : Result ℕ Refusal) → Sends b at (build_of field (take n t) plain marker) g s → Sends b at (framed_of field (send_of message field mask k)) g s
  unfolding framed_of
  fragment_framed out t r n told e b g at s w =
      let h = told_bytes out t (send_of message field mask k) r n told e in
      rw h.is (rw h.front at w)

-- ---- the frames of a message

module _ (message : List ℕ) (field mask n k : ℕ) where
  -- what the first fragment comes to
  abbrev first : Outcome (List ℕ)
  first = framed_of field (send_of message field mask k)

  pub frames_none : {b : List ℕ} {at : ℕ} → n ≡ 0 → Wrote b at (frames_of message field mask n k) b at
  unfolding frames_of
  frames_none e = rw e wrote_none

  module _ (some : n ≡ 0 → ⊥) where
    frames_first : frames_of message field mask n k ≡ lined_by first (frames_of message field mask (n - 1) (k + 1))
    unfolding frames_of
    frames_first =
        let e : n ≡ suc (n - 1) = omega arith in
        ap (λ (m : ℕ). frames_of message field mask m k) e

    next_by : (o : Outcome (List ℕ)) {b c g : List ℕ} {at p q : ℕ} (s : Result ℕ Refusal) → Sends b at o c s → s ≡ Ok p
        → Wrote c p (frames_of message field mask (n - 1) (k + 1)) g q → Wrote b at (lined_by o (frames_of message field mask (n - 1) (k + 1))) g q
    unfolding lined_by
    next_by (refused m) s w told x = absurd (rw told at w)
    next_by (answer f) s w told x = wrote_then (rw told at w).0 x

    stop_by : (o : Outcome (List ℕ)) {b c g : List ℕ} {at q : ℕ} {x : Refusal} (s : Result ℕ Refusal) → Sends b at o c s → s ≡ Err x
        → Wrote c at (refusal_line (number x)) g q → Wrote b at (lined_by o (frames_of message field mask (n - 1) (k + 1))) g q
    unfolding lined_by
    stop_by (refused r) s w told x = let z = rw told at w in rw (z.0, ← z.1) x
    stop_by (answer f) s w told x = absurd (rw told at w)

    pub frames_next : {b c g : List ℕ} {at p q : ℕ} (s : Result ℕ Refusal) → Sends b at first c s → s ≡ Ok p
        → Wrote c p (frames_of message field mask (n - 1) (k + 1)) g q → Wrote b at (frames_of message field mask n k) g q
    frames_next s w told x = rw frames_first (next_by first s w told x)

    pub frames_stop : {b c g : List ℕ} {at q : ℕ} {x : Refusal} (s : Result ℕ Refusal) → Sends b at first c s → s ≡ Err x
        → Wrote c at (refusal_line (number x)) g q → Wrote b at (frames_of message field mask n k) g q
    frames_stop s w told x = rw frames_first (stop_by first s w told x)

-- a line takes at most 1,031 bytes
pub next_few : (o : Outcome (List ℕ)) (b c : List ℕ) (at p : ℕ) (s : Result ℕ Refusal) → Sends b at o c s → s ≡ Ok p → p ≤ at + 1031
next_few (refused m) b c at p s w told = absurd (rw told at w)
next_few (answer f) b c at p s w told = (rw told at w).1

-- ---- data under a command

module _ (command : ℕ) (d out t : List ℕ) (r : Result (ℕ × AprsType) Refusal) (e : (encoded_of r, t) ≡ code_into (code_of command d) out) where
  pub code_refused : 5000 ≤ length out → (x : Refusal) → r ≡ Err x → code_of command d ≡ refused (number x)
  code_refused room x told =
      told_refused (λ c. c.bytes) (λ c. c.typ) out t (code_of command d) (number x)
      (ap (λ (y : Result (ℕ × AprsType) Refusal). (encoded_of y, t)) (sym told) ∙ e)
      (λ q. q)
      (λ c q h z. absurd (omega (arith, h, room, (code_bounds command d c q).fits)))

  pub code_bytes : (n : ℕ) (typ : AprsType) → r ≡ Ok (n, typ) → Coding.Handed (λ c. c.bytes) (λ c. c.typ) (code_of command d) (length out) t n (type_number typ)
  code_bytes n typ told =
      told_answer (λ c. c.bytes) (λ c. c.typ) out t (code_of command d) n (type_number typ) (ap (λ (x : Result (ℕ × AprsType) Refusal). (encoded_of x, t)) (sym told) ∙ e)

-- ---- a line

module _ (priced : Bool) (field mask number : ℕ) (line : List ℕ) where
  pub line_none : length line ≡ 0 → line_text priced field mask number line ≡ []
  unfolding line_text
  line_none h = pick_true _ _ (eq-eqb (length line) 0 h)

  module _ (some : length line ≡ 0 → ⊥) (word text : List ℕ) (w : word ≡ piece_of 32 0 line) (x : text ≡ behind 32 line) where
    word_is : word ≡ before 32 line
    unfolding piece_of
    word_is = w

    pub line_text_lem : word ≡ ascii "text" → line_text priced field mask number line ≡ said_of priced field mask 2 text
    unfolding line_text
    line_text_lem e =
        pick_false _ _ (ne_eqb (length line) 0 some)
        ∙ pick_true _ _ (eq_same (before 32 line) (ascii "text") (sym word_is ∙ e))
        ∙ ap (said_of priced field mask 2) (sym x)

    module _ (other : word ≡ ascii "text" → ⊥) (command : ℕ) (c : command ≡ command_of word) where
      is_command : command ≡ command_of (before 32 line)
      is_command = c ∙ ap command_of word_is

      others : {t : List ℕ} → pick (ltb 2 (command_of (before 32 line))) (error_line number (ascii "unknown command")) (spelled_text priced field mask number (command_of (before 32 line)) (behind 32 line)) ≡ t
          → line_text priced field mask number line ≡ t
      unfolding line_text
      others e =
          pick_false _ _ (ne_eqb (length line) 0 some)
          ∙ (pick_false _ _ (ne_same (before 32 line) (ascii "text") (λ q. other (word_is ∙ q))) ∙ e)

      pub line_unknown : 2 < command → line_text priced field mask number line ≡ error_line number (ascii "unknown command")
      line_unknown h = others (pick_true _ _ (lt-ltb 2 (command_of (before 32 line)) (rw is_command at h)))

      pub line_spelled : command ≤ 2 → line_text priced field mask number line ≡ spelled_text priced field mask number command text
      line_spelled h =
          others (pick_false _ _ (le-ltb 2 (command_of (before 32 line)) (rw is_command at h)) ∙ rw (← is_command, ← x))

-- ---- a line that is read as a command and bytes

-- neither no word nor `text` names a command
no_word : 3 ≡ command_of (before 32 [])
unfolding command_of before same pick
no_word = refl

no_text : 3 ≡ command_of (ascii "text")
unfolding command_of same pick
no_text = refl

module _ (priced : Bool) (field mask number command : ℕ) (d : List ℕ) (known : command ≤ 2) where
  spelled_data : (s : List ℕ) → read_of line_room s ≡ Ok (length d) → bytes_of s ≡ d → spelled_text priced field mask number command s ≡ said_of priced field mask command d
  unfolding spelled_text read_or
  spelled_data s e f = rw (e, f)

  word_here : (line : List ℕ) → before 32 line ≡ piece_of 32 0 line
  unfolding piece_of
  word_here line = refl

  line_data : (line : List ℕ) → Spells line command d → line_text priced field mask number line ≡ said_of priced field mask command d
  line_data [] r = absurd (omega (arith, known, no_word ∙ r.0))
  line_data (x ∷ s) r =
      line_spelled priced field mask number (x ∷ s)
      (λ q. omega arith)
      (before 32 (x ∷ s))
      (behind 32 (x ∷ s))
      (word_here (x ∷ s))
      refl
      (λ q. omega (arith, known, no_text ∙ sym (ap command_of q) ∙ r.0))
      command
      (sym r.0)
      known
      ∙ spelled_data (behind 32 (x ∷ s)) r.1 r.2

  -- what `receive` writes after `done ` (`done_line` in receive_lines/proofs/LineLaws) is the command and the bytes again
  pub line_back : bits.Bytes d → length d ≤ line_room → line_text priced field mask number (without_cr (spelled_of command d)) ≡ said_of priced field mask command d
  line_back h few = line_data (without_cr (spelled_of command d)) (spelled_back command d known h few)
