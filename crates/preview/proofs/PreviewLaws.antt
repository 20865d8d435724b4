-- The preview by the length of the coded message alone, and what it says of coding and sending.
-- Assumes nothing.
use mathlib.Core.Path.{◌≡◌, refl, sym, ap, ◌∙◌}
use mathlib.Core.Bool.{true, false, true≢false}
use mathlib.Core.List.{List}
use Prim.Native.Nat.{ℕ, ◌≤◌, ◌<◌}
use native.Mathlib.Nat.{zero-add}
use native.Mathlib.Omega.{arith}
use lib.ListN.{length, take}
use lib.Seq.{sets}
use borrow.Author.Tests.{le-ltb, lt-ltb}
use Rattle.laws.specs.Pick.{pick}
use Rattle.laws.proofs.Cases.{by_test, by_le}
use Rattle.laws.proofs.ListLaws.{take_sets}
use Rattle.refusals.specs.Limits.{field_ok, mask_ok}
use Rattle.refusals.specs.Outcome.{Outcome, refused, answer, accepted, into}
use Rattle.refusals.proofs.OutcomeLaws.{answer_not, same_answer_lem, same_refusal, into_refused, into_fits}
use Rattle.sender.specs.Send.{count_of, most_of, fragment_of, send_of}
use Rattle.sender.proofs.CountLaws.{count_pos}
use Rattle.sender.proofs.SendLaws.{Sendable, send_field, send_mask, send_crowded, send_answer, send_past, send_accepted}
use Rattle.ax25.specs.Encode.{Coded}
use Rattle.ax25.proofs.SizeLaws.{Bounds}
use Rattle.kiss.specs.Codec.{code_of}
use Rattle.kiss.specs.Told.{code_into, into_with, length_of}
use Rattle.kiss.proofs.CodeBounds.{code_bounds}
use Rattle.room.specs.Room.{most_message, most_field, RefusesBy, is_coders}
use Rattle.room.proofs.OwnRefusals.{no, yes, either, code_own}
use Rattle.room.proofs.Room.{coded_fits}
use Rattle.room.proofs.SendRoom.{sent_fits}
use Rattle.preview.specs.Preview.{sent_price, coded_price, preview_of, fitting_price, is_previews, priced_in}
use Rattle.preview.specs.declared.Price.{Price}

-- ---- a coded message is priced by its length

module _ (m : List ℕ) (field mask : ℕ) (b : Bounds m) where
  by_count : field_ok field ≡ true → mask_ok mask ≡ true → sent_price (send_of m field mask 0) (length m) field ≡ fitting_price (length m) field mask
  unfolding fitting_price pick
  by_count f k =
      by_le (count_of (length m) field) (most_of mask)
      (λ h.
      let sendable : Sendable m field mask = record { field_ok_holds = f; mask_ok_holds = k; some = b.not_empty; short = b.fits; first_low = b.first_low; room = h } in
      rw (send_answer m field mask 0 sendable (count_pos (length m) field), f, k, le-ltb (most_of mask) (count_of (length m) field) h))
      (λ h. rw (send_crowded m field mask 0 f k b.not_empty b.fits b.first_low h, f, k, lt-ltb (most_of mask) (count_of (length m) field) h))

  fitting : sent_price (send_of m field mask 0) (length m) field ≡ fitting_price (length m) field mask
  unfolding fitting_price pick
  fitting =
      by_test (field_ok field)
      (λ f. by_test (mask_ok mask) (by_count f) (λ k. rw (send_mask m field mask 0 f k, f, k)))
      (λ f. rw (send_field m field mask 0 f, f))

-- what `coded_length` says of the message, and the preview then
module _ (field mask : ℕ) where
  of_refused : (o : Outcome Coded) (n : ℕ) → refused n ≡ length_of o → refused n ≡ coded_price o field mask
  of_refused (refused m) n e = ap refused (same_refusal e)
  of_refused (answer c) n e = absurd (answer_not (sym e))

  of_length : (o : Outcome Coded) (n : ℕ) → ((c : Coded) → o ≡ answer c → Bounds c.bytes) → answer n ≡ length_of o
      → (n ≤ 5000) × (fitting_price n field mask ≡ coded_price o field mask)
  of_length (refused m) n b e = absurd (answer_not e)
  of_length (answer c) n b e =
      let size : n ≡ length c.bytes = same_answer_lem e in
      let k = b c refl in
      (omega (arith, size, k.fits), ap (λ (x : ℕ). fitting_price x field mask) size ∙ sym (fitting c.bytes field mask k))

module _ (command : ℕ) (d : List ℕ) (field mask n : ℕ) where
  pub preview_refused : refused n ≡ length_of (code_of command d) → refused n ≡ preview_of command d field mask
  unfolding preview_of
  preview_refused e = of_refused field mask (code_of command d) n e

  pub preview_length : answer n ≡ length_of (code_of command d) → (n ≤ 5000) × (fitting_price n field mask ≡ preview_of command d field mask)
  unfolding preview_of
  preview_length e = of_length field mask (code_of command d) n (code_bounds command d) e

-- ---- "The preview equals coding, then sending, a copy into buffers that are large enough"

module _ (field mask : ℕ) (out : List ℕ) (room : most_field ≤ length out) where
  sent_same : (m : List ℕ) (o : Outcome (List ℕ)) → send_of m field mask 0 ≡ o → sent_price o (length m) field ≡ sent_price (into o out).outcome (length m) field
  sent_same m (refused k) e = ap (λ l. sent_price l.outcome (length m) field) (sym (into_refused k out))
  sent_same m (answer f) e =
      let fits = sent_fits m field mask 0 f e in
      ap (λ l. sent_price l.outcome (length m) field) (sym (into_fits f out (omega (arith, fits))))

  coded_same : (first : List ℕ) → most_message ≤ length first → (o : Outcome Coded) → ((c : Coded) → o ≡ answer c → length c.bytes ≤ most_message)
      → coded_price o field mask ≡ priced_in (code_into o first) field mask out
  unfolding into_with pick
  coded_same first h (refused k) few = refl
  coded_same first h (answer c) few =
      let fit : length c.bytes ≤ length first = omega (arith, few c refl) in
      let back : take (length c.bytes) (sets first 0 c.bytes) ≡ c.bytes =
      ap (λ (k : ℕ). take k (sets first 0 c.bytes)) (sym (zero-add (length c.bytes))) ∙ take_sets first 0 c.bytes (omega arith) in
      rw (le-ltb (length first) (length c.bytes) fit, back) (sent_same c.bytes (send_of c.bytes field mask 0) refl)

pub preview_is : (command : ℕ) (d : List ℕ) (field mask : ℕ) (first out : List ℕ) → most_message ≤ length first → most_field ≤ length out
    → preview_of command d field mask ≡ priced_in (code_into (code_of command d) first) field mask out
unfolding preview_of
preview_is command d field mask first out h r = coded_same field mask out r first h (code_of command d) (coded_fits command d)

-- ---- what the count means

sent_accepted : (o : Outcome (List ℕ)) (n field : ℕ) (p : Price) → sent_price o n field ≡ answer p → (accepted o ≡ true) × (record { length = n; count = count_of n field } ≡ p)
sent_accepted (refused k) n field p e = absurd (answer_not (sym e))
sent_accepted (answer f) n field p e = (refl, same_answer_lem e)

module _ (command : ℕ) (d : List ℕ) (field mask : ℕ) (c : Coded) (p : Price) (coded : code_of command d ≡ answer c) (priced : preview_of command d field mask ≡ answer p) where
  -- what has a price can be sent, and the price is its length and its count
  pub preview_sendable : Sendable c.bytes field mask × (record { length = length c.bytes; count = count_of (length c.bytes) field } ≡ p)
  unfolding preview_of
  preview_sendable =
      let q = sent_accepted (send_of c.bytes field mask 0) (length c.bytes) field p (rw coded at priced) in
      (send_accepted c.bytes field mask q.0, q.1)

  -- every fragment below the count is handed out, and no other
  pub preview_count : (length c.bytes ≡ p.length)
      × (((k : ℕ) → k < p.count → send_of c.bytes field mask k ≡ answer (fragment_of c.bytes field mask k))
      × ((k : ℕ) → p.count ≤ k → send_of c.bytes field mask k ≡ refused 13))
  preview_count =
      let q = preview_sendable in
      let count : count_of (length c.bytes) field ≡ p.count = ap (λ (x : Price). x.count) q.1 in
      (ap (λ (x : Price). x.length) q.1, (λ k h. send_answer c.bytes field mask k q.0 (omega (arith, count)), λ k h. send_past c.bytes field mask k q.0 (omega (arith, count))))

-- ---- which refusals there are

fitting_own : (n field mask : ℕ) → RefusesBy is_previews (fitting_price n field mask)
unfolding fitting_price
fitting_own n field mask = either is_previews _ (no is_previews 8 refl) (either is_previews _ (no is_previews 9 refl) (either is_previews _ (no is_previews 12 refl) (yes is_previews _)))

coded_own : (field mask : ℕ) (o : Outcome Coded) → RefusesBy is_coders o → ((c : Coded) → o ≡ answer c → Bounds c.bytes) → RefusesBy is_previews (coded_price o field mask)
coded_own field mask (refused k) own b n e = rw (own n (ap refused (same_refusal e)))
coded_own field mask (answer c) own b n e = fitting_own (length c.bytes) field mask n (sym (fitting c.bytes field mask (b c refl)) ∙ e)

-- the coder's 1 to 5, and the sender's 8, 9 and 12
pub preview_own : (command : ℕ) (d : List ℕ) (field mask : ℕ) → RefusesBy is_previews (preview_of command d field mask)
unfolding preview_of
preview_own command d field mask = coded_own field mask (code_of command d) (code_own command d) (code_bounds command d)

-- no output is lent, a coded message is neither empty nor marked, and fragment 0 is always there
pub preview_never : (command : ℕ) (d : List ℕ) (field mask n : ℕ) → preview_of command d field mask ≡ refused n
    → (n ≡ 6 → ⊥) × ((n ≡ 10 → ⊥) × ((n ≡ 11 → ⊥) × (n ≡ 13 → ⊥)))
preview_never command d field mask n e = (never 6 refl, (never 10 refl, (never 11 refl, never 13 refl)))
  where
    never : (k : ℕ) → is_previews k ≡ false → n ≡ k → ⊥
    never k h q = true≢false (sym (preview_own command d field mask n e) ∙ ap is_previews q ∙ h)
