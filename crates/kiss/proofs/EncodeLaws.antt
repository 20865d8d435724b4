-- The cases of data to code, by their tests, and of a frame that is coded in one run or two, of which the first measures.
-- Assumes nothing.
use Rattle.std.proofs.Common.{Result, Ok, Err}
use Rattle.refusals.specs.declared.Refusal.{Refusal}
use mathlib.Core.Path.{◌≡◌, refl, sym, ap, ◌∙◌}
use mathlib.Core.Bool.{Bool}
use mathlib.Core.List.{List, ◌++◌}
use Rattle.std.proofs.Common.{Option, None, Some}
use Rattle.std.proofs.lemmas.Option.{none-some, same_Some}
use Prim.Native.Nat.{ℕ, ◌-◌, ◌≤◌, ◌<◌}
use native.Mathlib.Nat.{zero-add}
use native.Mathlib.Omega.{arith}
use lib.ListN.{length, take}
use lib.Seq.{sets}
use borrow.Author.Tests.{lt-ltb, le-ltb, eq-eqb, ne_eqb}
use Rattle.laws.specs.Wrote.{Wrote}
use Rattle.laws.proofs.Cases.{pick_true, pick_false}
use Rattle.refusals.specs.Outcome.{Outcome, refused, answer, number, outcome_of}
use Rattle.refusals.proofs.OutcomeLaws.{answer_not, same_refusal}
use Rattle.ax25_address.specs.Parse.{Parsed, parse_of, type_of}
use Rattle.ax25_address.specs.Record.{Seen, seen, seen_of}
use Rattle.ax25_address.specs.Types.{Text, call_len}
use Rattle.ax25_address.proofs.RecordLaws.{known}
use Rattle.ax25.specs.Codes.{Codes}
use Rattle.ax25.specs.Encode.{Coded, header_of, head_bits, frame_bits, packed, code_parsed, encode_of}
use Rattle.ax25.proofs.SizeLaws.{three_from, four_from}
use Rattle.kiss.specs.Codec.{code_of}
use Rattle.kiss.specs.Generic.{generic_of}
use Rattle.kiss.specs.Told.{code_into, length_of}
use Rattle.kiss.proofs.TellLaws.{tell_refused, first_short, first_fits, copied_out}

-- ---- the tests

no_parts : (command : ℕ) (o : Option Parsed) → None ≡ seen_of command o → o ≡ None
unfolding seen_of
no_parts command None e = refl
no_parts command (Some p) e = absurd (none-some (seen command p) e)

module _ (command : ℕ) (d : List ℕ) where
  pub no_command : 2 < command → code_of command d ≡ refused 1
  unfolding code_of
  no_command h = pick_true _ _ (lt-ltb 2 command h)

  module _ (h : command ≤ 2) where
    pub data_long : 4999 < length d → code_of command d ≡ refused 2
    unfolding code_of
    data_long k = pick_false _ _ (le-ltb 2 command h) ∙ pick_true _ _ (lt-ltb 4999 (length d) k)

    module _ (k : length d ≤ 4999) where
      pub of_generic : command ≡ 2 → code_of command d ≡ answer (record { bytes = generic_of d; typ = Text })
      unfolding code_of
      of_generic e = pick_false _ _ (le-ltb 2 command h) ∙ pick_false _ _ (le-ltb 4999 (length d) k) ∙ pick_true _ _ (eq-eqb command 2 e)

      pub of_frame : (command ≡ 2 → ⊥) → code_of command d ≡ encode_of command d
      unfolding code_of
      of_frame e = pick_false _ _ (le-ltb 2 command h) ∙ pick_false _ _ (le-ltb 4999 (length d) k) ∙ pick_false _ _ (ne_eqb command 2 e)

  pub short_frame : None ≡ seen_of command (parse_of (call_len command) d) → encode_of command d ≡ refused 3
  unfolding encode_of
  short_frame e = rw (no_parts command (parse_of (call_len command) d) e)

-- ---- the type of a message

packed_type : (h t : ℕ) (o : Outcome (List Bool)) (c : Coded) → packed h t o ≡ answer c → c.typ ≡ t
packed_type h t (refused n) c e = absurd (answer_not (sym e))
packed_type h t (answer b) c e = cc

code_type : (command : ℕ) (d : List ℕ) (s : Seen) → Some s ≡ seen_of command (parse_of (call_len command) d) → (c : Coded) → encode_of command d ≡ answer c → c.typ ≡ s.typ
unfolding encode_of code_parsed
code_type command d s f c e =
    let k = known command (call_len command) d s f in
    three_from (parse_of (call_len command) d) (code_parsed command) c e
    (λ p ep g. four_from (head_bits (call_len command) p (type_of command p)) (λ head. packed (header_of command p) (type_of command p) (frame_bits (call_len command) p (type_of command p) head)) c g
    (λ head eh h.
    let same : k.parts ≡ p = same_Some k.parts p (sym k.parsed ∙ ep) in
    packed_type (header_of command p) (type_of command p) (frame_bits (call_len command) p (type_of command p) head) c h ∙ sym (ap (λ (x : Seen). x.typ) k.is ∙ ap (type_of command) same)))

-- ---- one run or two

not_both : {r : Result ℕ Refusal} {n m : ℕ} → r ≡ Ok n → outcome_of r ≡ refused m → ⊥
not_both e f = answer_not (sym (ap outcome_of e) ∙ f)

-- a run codes o from s to t and answers r: what that says of the length alone
module _ (s t : List ℕ) (r : Result ℕ Refusal) where
  pub run_length : (o : Outcome Coded) → Codes o s t r → outcome_of r ≡ length_of o
  run_length (refused m) w = w
  run_length (answer c) w = ap outcome_of w.0

-- the first run codes o from s to x and answers r
module _ (out s x : List ℕ) (r : Result ℕ Refusal) where
  pub run_refused : (o : Outcome Coded) → Codes o s x r → (e : Refusal) → r ≡ Err e → (refused (number e), out) ≡ code_into o out
  run_refused (refused m) w e h =
      let f : m ≡ number e = same_refusal (sym w ∙ ap outcome_of h) in
      tell_refused (λ c. c.bytes) (λ c. c.typ) out {o = refused m} (number e) (ap refused f)
  run_refused (answer c) w e h = absurd (not_both w.0 (ap outcome_of h))

  module _ (n : ℕ) (e : r ≡ Ok n) where
    sized : (c : Coded) → Codes (answer c) s x r → Wrote s 0 c.bytes x n
    sized c w = let k : n ≡ length c.bytes = cc in record { stored = w.1.stored; next_is = k ∙ sym (zero-add (length c.bytes)) }

    pub run_short : (o : Outcome Coded) → Codes o s x r → length out < n → (refused 6, out) ≡ code_into o out
    run_short (refused m) w h = absurd (not_both e w)
    run_short (answer c) w h = first_short (λ c. c.bytes) (λ c. c.typ) out c {o = answer c} refl (sized c w) h

    pub run_fits : (o : Outcome Coded) (t : ℕ) → ((c : Coded) → o ≡ answer c → c.typ ≡ t) → Codes o s x r → n ≤ length out
        → (u : List ℕ) (v : Result ℕ Refusal) → Codes o out u v → (answer (n, t), u) ≡ code_into o out
    run_fits (refused m) t f w h u v z = absurd (not_both e w)
    run_fits (answer c) t f w h u v z =
        ap (λ (y : ℕ). (answer (n, y), u)) (sym (f c refl)) ∙ first_fits (λ c. c.bytes) (λ c. c.typ) out c {o = answer c} refl (sized c w) h z.1

    -- where s has room for the bytes, copying them is as good as a second run
    pub run_copied : (o : Outcome Coded) → Codes o s x r → n ≤ length s → (rest u : List ℕ) → u ≡ sets out 0 (take (n - 0) (x ++ rest)) → Codes o out u r
    run_copied (refused m) w h rest u z = w
    run_copied (answer c) w h rest u z = let k : length c.bytes ≡ n = cc in (w.0, copied_out w.1 n k h out rest z)

-- the same of a frame whose record is known
module _ (command : ℕ) (d : List ℕ) (k : Seen) (f : Some k ≡ seen_of command (parse_of (call_len command) d)) (out s x : List ℕ) (r : Result ℕ Refusal) (w : Codes (encode_of command d) s x r) where
  pub frame_run_fits : (n : ℕ) → r ≡ Ok n → n ≤ length out → (u : List ℕ) (t : Result ℕ Refusal) → Codes (encode_of command d) out u t
      → (answer (n, k.typ), u) ≡ code_into (encode_of command d) out
  frame_run_fits n e h u t v = run_fits out s x r n e (encode_of command d) k.typ (code_type command d k f) w h u t v
