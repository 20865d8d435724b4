-- How many fragments a mask leaves room for: "With w check bits the sender accepts counts to 2^(8 − w) + 1." (02, E11)
-- Assumes nothing.
use mathlib.Core.Path.{◌≡◌, ap, ◌∙◌}
use mathlib.Core.Bool.{true}
use Prim.Native.Nat.{ℕ, ◌+◌, ◌-◌, ◌^◌, ◌≤◌}
use native.Mathlib.Omega.{arith}
use lib.Pow.{pow_pos, pow_mono}
use Rattle.refusals.specs.Limits.{mask_for, mask_ok}
use Rattle.refusals.proofs.LimitLaws.{Top, top_for, mask_accepted}
use Rattle.sender.specs.Send.{most_of}

module _ (mask : ℕ) (top : Top mask) where
  mask_is : mask ≡ 256 - 2 ^ top.free
  mask_is = top.is ∙ ap (λ (n : ℕ). 2 ^ n - 2 ^ top.free) top.whole

  free_few : 2 ^ top.free ≤ 2 ^ 7
  free_few =
      let h : top.free ≤ 7 = omega (arith, top.whole, top.some_bits) in
      pow_mono h

  -- the largest count leaves the check bits free
  pub most_is : most_of mask ≡ 2 ^ top.free + 1
  unfolding most_of
  most_is = omega (arith, mask_is, pow_pos top.free, free_few)

  pub most_few : most_of mask ≤ 129
  most_few = omega (arith, most_is, free_few)

  -- every mask has room for three fragments
  pub most_three : 3 ≤ most_of mask
  most_three =
      let h : 2 ^ 1 ≤ 2 ^ top.free = pow_mono top.some_free in
      omega (arith, most_is, h)

-- the mask of w check bits is accepted, and the largest count under it
pub mask_for_lem : (w : ℕ) → 1 ≤ w → w ≤ 7 → (mask_ok (mask_for w) ≡ true) × (most_of (mask_for w) ≡ 2 ^ (8 - w) + 1)
mask_for_lem w l h = (mask_accepted w l h, most_is (mask_for w) (top_for w l h))
