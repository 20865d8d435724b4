-- The cases of a summary, by its tests and by what `parse` answers.
-- Assumes nothing.
use mathlib.Core.Path.{◌≡◌, sym, ap, ◌∙◌}
use mathlib.Core.Bool.{Bool, false}
use mathlib.Core.List.{List}
use Rattle.std.proofs.Common.{Option, None, Some}
use Rattle.std.proofs.lemmas.Option.{none-some, same_Some}
use Prim.Native.Nat.{ℕ, ◌≤◌, ◌<◌}
use lib.ListN.{length}
use borrow.Author.Tests.{lt-ltb, le-ltb, eq-eqb, ne_eqb}
use Rattle.laws.proofs.Cases.{pick_true, pick_false}
use Rattle.refusals.specs.Outcome.{refused, answer}
use Rattle.ax25_address.specs.Parse.{Parsed, parse_of}
use Rattle.ax25_address.specs.Record.{Seen, seen, seen_of}
use Rattle.ax25_address.specs.Types.{Text, call_len}
use Rattle.kiss.specs.Codec.{ui_control, Summary, summarised, summary_of}

-- what is told of a frame that `parse` has seen, and whether it is UI
abbrev facts_of : Seen → Bool → Summary
facts_of s u = record { typ = s.typ; digis = s.digis; ui = u }

found_facts : (command : ℕ) (o : Option Parsed) (s : Seen) → seen_of command o ≡ Some s → summarised command o ≡ answer (facts_of s (ui_control s.ctrl))
unfolding seen_of
found_facts command None s e = absurd (none-some s e)
found_facts command (Some r) s e = ap (λ (x : Seen). answer (facts_of x (ui_control x.ctrl))) (same_Some (seen command r) s e)

short_facts : (command : ℕ) (o : Option Parsed) → seen_of command o ≡ None → summarised command o ≡ refused 3
unfolding seen_of
short_facts command None e = cc
short_facts command (Some r) e = absurd (none-some (seen command r) (sym e))

module _ (command : ℕ) (d : List ℕ) where
  pub no_command : 2 < command → refused 1 ≡ summary_of command d
  unfolding summary_of
  no_command h = sym (pick_true _ _ (lt-ltb 2 command h))

  pub too_long : command ≤ 2 → 4999 < length d → refused 2 ≡ summary_of command d
  unfolding summary_of
  too_long h k = sym (pick_false _ _ (le-ltb 2 command h) ∙ pick_true _ _ (lt-ltb 4999 (length d) k))

  module _ (h : command ≤ 2) (k : length d ≤ 4999) where
    pub of_generic : command ≡ 2 → answer (record { typ = Text; digis = 0; ui = false }) ≡ summary_of command d
    unfolding summary_of
    of_generic e =
        sym (pick_false _ _ (le-ltb 2 command h) ∙ pick_false _ _ (le-ltb 4999 (length d) k) ∙ pick_true _ _ (eq-eqb command 2 e))

    module _ (e : command ≡ 2 → ⊥) where
      of_frame : summary_of command d ≡ summarised command (parse_of (call_len command) d)
      unfolding summary_of
      of_frame =
          pick_false _ _ (le-ltb 2 command h) ∙ pick_false _ _ (le-ltb 4999 (length d) k) ∙ pick_false _ _ (ne_eqb command 2 e)

      pub of_short : seen_of command (parse_of (call_len command) d) ≡ None → refused 3 ≡ summary_of command d
      of_short p = sym (of_frame ∙ short_facts command (parse_of (call_len command) d) p)

      pub of_found : (s : Seen) (u : Bool) → seen_of command (parse_of (call_len command) d) ≡ Some s → u ≡ ui_control s.ctrl
          → answer (facts_of s u) ≡ summary_of command d
      of_found s u p q =
          ap (λ (v : Bool). answer (facts_of s v)) q ∙ sym (of_frame ∙ found_facts command (parse_of (call_len command) d) s p)
