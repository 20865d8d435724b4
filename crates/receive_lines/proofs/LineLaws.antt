-- What the answers on the way from a line to what is said stand for.
-- Assumes nothing.
use mathlib.Core.Path.{◌≡◌, refl, sym, ap, ◌∙◌}
use mathlib.Core.Bool.{Bool}
use mathlib.Core.List.{List, [], ◌∷◌, ◌++◌}
use Prim.Native.Nat.{ℕ, ◌≤◌}
use native.Mathlib.Omega.{arith}
use lib.ListN.{length}
use borrow.Author.Tests.{eq-eqb, ne_eqb}
use Rattle.laws.specs.Bits as bits
use Rattle.laws.specs.Pick.{pick}
use Rattle.laws.specs.Text.{ascii}
use Rattle.laws.specs.Wrote.{Wrote}
use Rattle.laws.proofs.Cases.{pick_true, pick_false}
use Rattle.refusals.specs.Outcome.{refused, answer, number}
use Rattle.kiss.specs.Codec.{Decoded, decode_of}
use Rattle.kiss.specs.Told.{decoded_of, decode_into}
use Rattle.std.proofs.Common.{Result, Ok, Err}
use Rattle.refusals.specs.declared.Refusal.{Refusal}
use Rattle.kiss.proofs.CodeBounds.{decode_command}
use Rattle.kiss.proofs.TellLaws.{Handed, told_answer, told_refused}
use Rattle.room.specs.Room.{most_decoded}
use Rattle.room.proofs.DecodeRoom.{decoded_fits}
use Rattle.receiver.specs.Join.{After}
use Rattle.receiver.specs.Tally.{push_tallied}
use Rattle.receiver.specs.declared.Reassembler.{Reassembler}
use Rattle.ax25_address.specs.Types.{call_len}
use Rattle.texts.specs.Hex.{bytes_of, read_of}
use Rattle.texts.specs.Part.{before, behind}
use Rattle.texts.specs.Say.{line_room, spelled_of, unread_line, read_or}
use Rattle.texts.specs.Show.{shown}
use Rattle.texts.specs.declared.hex.HexError.{HexError}
use Rattle.texts.proofs.BackLaws.{above, before_past, line_end}
use Rattle.monitor.specs.Monitor.{monitor_of}
use Rattle.receive_lines.specs.Line.{readable_of, done_text, decoded_text, heard_text, line_text, left_by, line_left}

-- ---- a finished message

module _ (d : List ℕ) (command : ℕ) where
  pub readable_generic : command ≡ 2 → readable_of command d ≡ shown d
  unfolding readable_of
  readable_generic h = pick_true _ _ (eq-eqb command 2 h)

  pub readable_frame : (command ≡ 2 → ⊥) → readable_of command d ≡ monitor_of (call_len command) d
  unfolding readable_of
  readable_frame h = pick_false _ _ (ne_eqb command 2 h)

-- the first line is `done ` and the line that `send` reads back (`line_back` in send_lines/proofs/LineLaws)
module _ (command : ℕ) (d : List ℕ) (known : command ≤ 2) (h : bits.Bytes d) where
  first_line : before 10 (done_text command d) ≡ ascii "done " ++ spelled_of command d
  unfolding done_text
  first_line =
      before_past 31 10 (omega arith) (ascii "done ") _ (unfold above in refl)
      ∙ ap (λ (t : List ℕ). ascii "done " ++ t) (line_end command known d h ((32 ∷ 32 ∷ []) ++ (readable_of command d ++ (10 ∷ []))))

  pub done_line : behind 32 (before 10 (done_text command d)) ≡ spelled_of command d
  unfolding behind pick
  done_line = rw first_line

-- as every message that is decoded has such a command
pub done_back : (mended : Bool) (m : List ℕ) (r : Decoded) → decode_of mended m ≡ answer r → bits.Bytes r.bytes
    → behind 32 (before 10 (decoded_text (decode_of mended m))) ≡ spelled_of r.command r.bytes
unfolding decoded_text
done_back mended m r e h = rw e (done_line r.command r.bytes (decode_command mended m r e) h)

-- the decoder's answer, with an output that every answer fits
module _ (mended : Bool) (m out t : List ℕ) (r : Result (ℕ × ℕ) Refusal) (e : (decoded_of r, t) ≡ decode_into (decode_of mended m) out) where
  pub decode_refused : most_decoded ≤ length out → (x : Refusal) → r ≡ Err x → decode_of mended m ≡ refused (number x)
  decode_refused room x told =
      told_refused (λ d. d.bytes) (λ d. d.command) out t (decode_of mended m) (number x)
      (ap (λ (x : Result (ℕ × ℕ) Refusal). (decoded_of x, t)) (sym told) ∙ e)
      (λ q. q)
      (λ d q h z. absurd (omega (arith, h, room, decoded_fits mended m d q)))

  pub decode_bytes : (command n : ℕ) → r ≡ Ok (command, n) → Handed (λ d. d.bytes) (λ d. d.command) (decode_of mended m) (length out) t n command
  decode_bytes command n told =
      told_answer (λ d. d.bytes) (λ d. d.command) out t (decode_of mended m) n command (ap (λ (x : Result (ℕ × ℕ) Refusal). (decoded_of x, t)) (sym told) ∙ e)

-- ---- a frame

module _ (mended : Bool) (x a : After Reassembler) where
  -- what a push leaves, part by part
  pub parted : x ≡ a → {b c : List ℕ} {n : ℕ} → Wrote b 0 (heard_text mended x.heard) c n
      → Wrote b 0 (heard_text mended a.heard) c n × (x.receiver ≡ a.receiver) × (x.store ≡ a.store)
  parted e w = (rw (ap (λ (y : After Reassembler). y.heard) e) at w, ap (λ (y : After Reassembler). y.receiver) e, ap (λ (y : After Reassembler). y.store) e)

pub paired : {r q : Reassembler} {s t : List ℕ} {z : Reassembler × List ℕ} → r ≡ q → s ≡ t → (q, t) ≡ z → (r, s) ≡ z
paired e f g = rw (e, f) g

-- ---- a line

module _ (mended : Bool) (field number : ℕ) (r : Reassembler) (store line : List ℕ) where
  pub line_none : length line ≡ 0 → line_text mended field number r store line ≡ []
  unfolding line_text
  line_none h = pick_true _ _ (eq-eqb (length line) 0 h)

  module _ (some : length line ≡ 0 → ⊥) (q : Result ℕ HexError) (is : q ≡ read_of line_room line) where
    pub line_unread : (x : HexError) → q ≡ Err x → line_text mended field number r store line ≡ unread_line number q
    unfolding line_text read_or
    line_unread x e = pick_false _ _ (ne_eqb (length line) 0 some) ∙ rw (← is, e)

    pub line_heard : (n : ℕ) → q ≡ Ok n → line_text mended field number r store line ≡ heard_text mended (push_tallied r store (bytes_of line) field).heard
    unfolding line_text read_or
    line_heard n e = pick_false _ _ (ne_eqb (length line) 0 some) ∙ rw (← is, e)

module _ (field : ℕ) (r : Reassembler) (store line : List ℕ) where
  pub left_none : length line ≡ 0 → (r, store) ≡ line_left field r store line
  unfolding line_left
  left_none h = sym (pick_true _ _ (eq-eqb (length line) 0 h))

  module _ (some : length line ≡ 0 → ⊥) (q : Result ℕ HexError) (is : q ≡ read_of line_room line) where
    pub left_unread : (x : HexError) → q ≡ Err x → (r, store) ≡ line_left field r store line
    unfolding line_left left_by
    left_unread x e = sym (pick_false _ _ (ne_eqb (length line) 0 some) ∙ rw (← is, e))

    pub left_heard : (n : ℕ) → q ≡ Ok n → ((push_tallied r store (bytes_of line) field).receiver, (push_tallied r store (bytes_of line) field).store) ≡ line_left field r store line
    unfolding line_left left_by
    left_heard n e = sym (pick_false _ _ (ne_eqb (length line) 0 some) ∙ rw (← is, e))
