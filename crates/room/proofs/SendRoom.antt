-- How many bytes a fragment and a frame have, and that an output of so many is never refused as too short.
-- Assumes nothing.
use mathlib.Core.Path.{◌≡◌, refl, sym, ap, ◌∙◌}
use mathlib.Core.List.{List}
use Prim.Native.Nat.{ℕ, zero, suc, ◌+◌, ◌≤◌, ◌<◌}
use native.Mathlib.Omega.{arith}
use lib.ListN.{length}
use Rattle.std.proofs.Common.{Result, Ok, Err}
use Rattle.refusals.specs.declared.Refusal.{Refusal}
use Rattle.refusals.specs.Outcome.{Outcome, refused, answer, outcome_of, left, into}
use Rattle.refusals.proofs.LimitLaws.{field_low, field_high}
use Rattle.refusals.proofs.OutcomeLaws.{answer_not, same_answer_lem, same_refusal, accepted_is, told_refusal}
use Rattle.sender.specs.Send.{count_of, send_of}
use Rattle.sender.proofs.SendLaws.{send_is}
use Rattle.sender.proofs.SplitLaws.{fragment_fits}
use Rattle.sender.proofs.FullLaws.{fragment_full, fragment_last}
use Rattle.frame.specs.declared.Control.{Control}
use Rattle.frame.specs.Frame.{frame_of, build_of}
use Rattle.frame.proofs.FrameLaws.{frame_length, build_accepted}
use Rattle.room.specs.Room.{most_field, is_not_short, NotShort}
use Rattle.room.proofs.OwnRefusals.{not_short, send_own, build_own}

-- a fragment has at most field bytes
pub sent_fits : (message : List ℕ) (field mask k : ℕ) (v : List ℕ) → send_of message field mask k ≡ answer v → (length v ≤ field) × (field ≤ most_field)
sent_fits message field mask k v e =
    let s = send_is message field mask k v e in
    (omega (arith, ap length s.0, fragment_fits message field mask (field_low field s.1) k), field_high field s.1)

-- "of several fragments each one before the last has exactly field bytes, .. and .. the last has at least 2" (02, E1)
pub sent_full : (message : List ℕ) (field mask k : ℕ) (v : List ℕ) → send_of message field mask k ≡ answer v → suc k < count_of (length message) field
    → length v ≡ field
sent_full message field mask k v e before =
    let s = send_is message field mask k v e in
    omega (arith, ap length s.0, fragment_full message field mask (field_low field s.1) k before)

pub sent_last : (message : List ℕ) (field mask k : ℕ) (v : List ℕ) → send_of message field mask k ≡ answer v → suc k ≡ count_of (length message) field
    → 2 ≤ count_of (length message) field → 2 ≤ length v
sent_last message field mask zero v e last several = absurd (omega arith)
sent_last message field mask (suc k) v e last several =
    let s = send_is message field mask (suc k) v e in
    omega (arith, ap length s.0, fragment_last message field mask (field_low field s.1) k last)

-- a frame has three more
pub framed_fits : (field : ℕ) (d : List ℕ) (control : Control) (marker : ℕ) (v : List ℕ) → build_of field d control marker ≡ answer v
    → (length v ≡ field + 3) × (field ≤ most_field)
framed_fits field d control marker v e =
    let ok = build_accepted field d control marker (accepted_is e) in
    let is : frame_of field d control marker ≡ v = same_answer_lem (sym ok.is ∙ e) in
    (omega (arith, ap length is, frame_length field d control marker ok.fits), field_high field ok.ok)

-- `fragment` and `build_frame`, as their contracts have them: the answer r, and t in the lent output afterwards
never_six : (o : Outcome (List ℕ)) → NotShort o → (out t : List ℕ) (r : Result ℕ Refusal) → ((v : List ℕ) → o ≡ answer v → length v ≤ length out) → left (outcome_of r) t ≡ into o out
    → NotShort (outcome_of r)
never_six o own out t (Err x) few e s = own (told_refusal out t o (Err x) x refl e few ∙ ap refused (same_refusal s))
never_six o own out t (Ok n) few e s = answer_not s

pub fragment_answers : (message : List ℕ) (field mask k : ℕ) (out t : List ℕ) (r : Result ℕ Refusal) → left (outcome_of r) t ≡ into (send_of message field mask k) out → field ≤ length out
    → NotShort (outcome_of r)
fragment_answers message field mask k out t r e h =
    never_six (send_of message field mask k) (not_short is_not_short refl (send_own message field mask k)) out t r (λ v q. omega (arith, sent_fits message field mask k v q)) e

pub frame_answers : (field : ℕ) (d : List ℕ) (control : Control) (marker : ℕ) (out t : List ℕ) (r : Result ℕ Refusal) → left (outcome_of r) t ≡ into (build_of field d control marker) out
    → field + 3 ≤ length out → NotShort (outcome_of r)
frame_answers field d control marker out t r e h =
    never_six (build_of field d control marker) (not_short is_not_short refl (build_own field d control marker)) out t r (λ v q. omega (arith, framed_fits field d control marker v q)) e
