-- The check byte under a mask of the top bits: the receiver finds the sender's CRC bits, whatever the count, as long as it leaves them free.
-- Assumes nothing.
use mathlib.Core.Path.{◌≡◌, sym, ap, ◌∙◌}
use mathlib.Core.List.{List}
use Prim.Native.Nat.{ℕ, ◌+◌, ◌-◌, ◌*◌, ◌/◌, ◌%◌, ◌^◌, ◌≤◌, ◌<◌}
use native.Mathlib.Nat.{mod-lt, mod-eq_of_lt}
use native.Mathlib.Omega.{arith}
use lib.Bits.{bit_and, bit_or, and_high, or_shifted_r}
use lib.Pow.{high, pow_pos}
use Rattle.crc.specs.Crc.{crc_of, crc_bits}
use Rattle.refusals.proofs.LimitLaws.{Top}
use Rattle.sender.specs.Send.{check_of, most_of}
use Rattle.sender.proofs.MaskLaws.{most_is}

-- a mask of the j bits above the lowest k takes the high bits back out of them joined with a number below 2 ^ k
mask_back : (j k a x : ℕ) → a < 2 ^ k → bit_and (bit_or a (bit_and x (2 ^ (j + k) - 2 ^ k))) (2 ^ (j + k) - 2 ^ k) ≡ bit_and x (2 ^ (j + k) - 2 ^ k)
mask_back j k a x h =
    let q = x / 2 ^ k % 2 ^ j in
    let w = 2 ^ (j + k) - 2 ^ k in
    ap (λ (y : ℕ). bit_and (bit_or a y) w) (and_high x j k)
    ∙ ap (λ (y : ℕ). bit_and y w) (or_shifted_r q k a h)
    ∙ and_high (q * 2 ^ k + a) j k
    ∙ ap (λ (y : ℕ). y % 2 ^ j * 2 ^ k) (high q k h)
    ∙ ap (λ (y : ℕ). y * 2 ^ k) (mod-eq_of_lt (mod-lt (x / 2 ^ k) (pow_pos j)))
    ∙ sym (and_high x j k)

module _ (mask : ℕ) (top : Top mask) where
  pub check_passes : (message : List ℕ) (count : ℕ) → count ≤ most_of mask → 2 ≤ count → crc_bits message mask ≡ bit_and (check_of message mask count) mask
  unfolding check_of crc_bits
  check_passes message count l t =
      sym (rw top.is (mask_back top.w top.free (count - 2) (crc_of message / 256) (omega (arith, most_is mask top))))
