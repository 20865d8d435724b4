-- The cases of the price of a coded message, by its tests.
-- Assumes nothing.
use mathlib.Core.Path.{◌≡◌, sym, ap, ◌∙◌}
use mathlib.Core.Bool.{true, false}
use Prim.Native.Nat.{ℕ, ◌+◌, ◌-◌, ◌≤◌, ◌<◌}
use borrow.Author.Tests.{lt-ltb, le-ltb}
use Rattle.laws.specs.Pick.{pick}
use Rattle.laws.proofs.Cases.{by_test}
use Rattle.refusals.specs.Limits.{field_ok, mask_ok}
use Rattle.refusals.specs.Outcome.{refused, answer}
use Rattle.refusals.proofs.OutcomeLaws.{answer_not, same_answer_lem, same_refusal}
use Rattle.sender.specs.Send.{count_of, count_for, most_of}
use Rattle.sender.proofs.SendLaws.{count_field, count_answer}
use Rattle.preview.specs.Preview.{fitting_price}

module _ (n field mask : ℕ) (h : n ≤ 5000) where
  -- a length that is not too long is refused for its field alone
  pub no_count : (m : ℕ) → refused m ≡ count_for n field → refused m ≡ fitting_price n field mask
  unfolding fitting_price pick
  no_count m e =
      by_test (field_ok field)
      (λ f. absurd (answer_not (sym (e ∙ count_answer n field f h))))
      (λ f. ap refused (same_refusal (e ∙ count_field n field f)) ∙ simp f)

  module _ (count : ℕ) (e : answer count ≡ count_for n field) where
    counted : (field_ok field ≡ true) × (count ≡ count_of n field)
    counted =
        by_test (field_ok field)
        (λ f. (f, same_answer_lem (e ∙ count_answer n field f h)))
        (λ f. absurd (answer_not (e ∙ count_field n field f)))

    pub no_mask : mask_ok mask ≡ false → refused 9 ≡ fitting_price n field mask
    unfolding fitting_price pick
    no_mask m = simp (counted.0, m)

    module _ (m : mask_ok mask ≡ true) where
      pub no_room : 255 - mask + 2 < count → refused 12 ≡ fitting_price n field mask
      unfolding fitting_price most_of pick
      no_room r = simp (counted.0, m, lt-ltb (255 - mask + 2) (count_of n field) (rw counted.1 at r))

      pub costs : count ≤ 255 - mask + 2 → answer (record { length = n; count = count }) ≡ fitting_price n field mask
      unfolding fitting_price most_of pick
      costs r = rw counted.1 (simp (counted.0, m, le-ltb (255 - mask + 2) (count_of n field) (rw counted.1 at r)))
