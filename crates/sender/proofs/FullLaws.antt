-- "State that of several fragments each one before the last has exactly field bytes, where 01 said at most, and that the last has at least
-- 2." (02, E1) Nothing is assumed of the mask.
-- Assumes nothing.
use mathlib.Core.Path.{◌≡◌}
use mathlib.Core.List.{List}
use Prim.Native.Nat.{ℕ, zero, suc, ◌+◌, ◌-◌, ◌*◌, ◌≤◌, ◌<◌, min}
use native.Mathlib.Omega.{arith}
use lib.ListN.{length, drop, length-take, length-drop}
use Rattle.sender.specs.Send.{count_of, fragment_of}
use Rattle.sender.proofs.CountLaws.{count_several, starts_within}
use Rattle.sender.proofs.SendLaws.{fragment_first, fragment_later}

module _ (message : List ℕ) (field mask : ℕ) (low : 3 ≤ field) where
  -- a later fragment starts within the message
  later_starts : (k : ℕ) → 0 < k → k < count_of (length message) field → k * (field - 1) < length message
  later_starts k some h = starts_within (length message) field k low (count_several (length message) field (omega arith)) h

  -- it has its first byte and, of the message from there on, up to field − 1 bytes
  length_later : (k : ℕ) → 0 < k → length (fragment_of message field mask k) ≡ suc (min (field - 1) (length message - k * (field - 1)))
  length_later k some =
      rw (
        fragment_later message field mask k low some,
        length-take (field - 1) (drop (k * (field - 1)) message),
        length-drop (k * (field - 1)) message,
      )

  pub fragment_full : (k : ℕ) → suc k < count_of (length message) field → length (fragment_of message field mask k) ≡ field
  fragment_full zero h =
      let long = count_several (length message) field h in
      rw (fragment_first message field mask long) (omega (arith, length-take (field - 2) (drop 1 message), length-drop 1 message))
  fragment_full (suc k) h = omega (arith, later_starts (suc (suc k)) (omega arith) h, length_later (suc k) (omega arith))

  pub fragment_last : (k : ℕ) → suc (suc k) ≡ count_of (length message) field → 2 ≤ length (fragment_of message field mask (suc k))
  fragment_last k h = omega (arith, later_starts (suc k) (omega arith) (omega arith), length_later (suc k) (omega arith))

  -- 2 is the least for every field: of a message that takes three fragments (`count_three`)
  pub shortest_last : length message + 1 ≡ 2 * field → length (fragment_of message field mask 2) ≡ 2
  shortest_last size = omega (arith, length_later 2 (omega arith))
