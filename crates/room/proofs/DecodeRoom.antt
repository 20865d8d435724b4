-- How many bytes a message is decoded to: 45,764 at most, whatever it is, under both readings.
-- Assumes nothing.
use mathlib.Core.Path.{◌≡◌, refl, sym}
use mathlib.Core.Bool.{Bool}
use mathlib.Core.List.{List, [], ◌∷◌}
use Rattle.std.proofs.Common.{Option, None, Some, unwrap_or}
use Prim.Native.Nat.{ℕ, ◌-◌, ◌/◌, ◌%◌, ◌≤◌}
use native.Mathlib.Omega.{arith}
use lib.ListN.{length}
use lib.Dec.{eqb, ltb}
use borrow.Author.Tests.{ltb-false}
use Rattle.laws.specs.Bits.{odd, unpack}
use Rattle.laws.specs.Pick.{pick}
use Rattle.laws.proofs.ByteLaws.{length_unpack}
use Rattle.laws.proofs.Cases.{by_test}
use Rattle.bits.specs.Text7.{text7_of}
use Rattle.refusals.specs.Outcome.{answer}
use Rattle.refusals.proofs.OutcomeLaws.{answer_not}
use Rattle.ax25_address.specs.Types.{Ax25Long, Generic, call_len}
use Rattle.ax25.specs.Decode.{read_frame}
use Rattle.kiss.specs.Generic.{generic_back}
use Rattle.kiss.specs.Codec.{Decoded, or_seven, decode_message, decode_some, decode_of}
use Rattle.room.specs.Room.{most_decoded}
use Rattle.room.proofs.TextRoom.{text7_room}
use Rattle.room.proofs.FrameRoom.{frame_room}

generic_room : (header : ℕ) (rest : List ℕ) → length rest ≤ 4999 → length (generic_back header rest) ≤ most_decoded
unfolding generic_back pick
generic_room header rest h =
    by_test (odd header)
    (λ e. rw e (back (text7_of (unpack rest) 0) (text7_room (unpack rest) 0)))
    (λ e. rw e (omega arith))
  where
    back : (o : Option (List ℕ)) → ((t : List ℕ) → o ≡ Some t → length t ≤ (length (unpack rest) - 0) / 7) → length (unwrap_or o []) ≤ most_decoded
    back None k = omega arith
    back (Some t) k = omega (arith, k t refl, length_unpack rest)

seven_room : (command : ℕ) (o : Option (List ℕ)) (r : Decoded) → ((d : List ℕ) → o ≡ Some d → length d ≤ most_decoded) → or_seven command o ≡ answer r
    → length r.bytes ≤ most_decoded
seven_room command None r h e = absurd (answer_not (sym e))
seven_room command (Some d) r h e =
    let q : d ≡ r.bytes = cc in
    rw (← q) (h d refl)

call_low : (command : ℕ) → call_len command ≤ 7
unfolding pick
call_low command = by_test (eqb command Ax25Long) (λ e. rw e (omega arith)) (λ e. rw e (omega arith))

message_room : (mended : Bool) (header : ℕ) (rest : List ℕ) (r : Decoded) → length rest ≤ 4999 → decode_message mended header rest ≡ answer r → length r.bytes ≤ most_decoded
unfolding decode_message pick
message_room mended header rest r h e =
    let k = header / 16 % 4 in
    by_test (eqb k 3)
    (λ t. absurd (answer_not (sym (rw t at e))))
    (λ t. by_test (eqb k 2)
    (λ u.
    let q : generic_back header rest ≡ r.bytes = bytes_are (rw (t, u) at e) in
    rw (← q) (generic_room header rest h))
    (λ u. seven_room k (read_frame mended (call_len k) header (unpack rest)) r (λ d. frame_room mended (call_len k) header (unpack rest) d (call_low k) (omega (arith, length_unpack rest))) (rw (t, u) at e)))
  where
    bytes_are : answer (record { command = Generic; bytes = generic_back header rest }) ≡ answer r → generic_back header rest ≡ r.bytes
    bytes_are q = cc

some_room : (mended : Bool) (m : List ℕ) (r : Decoded) → length m ≤ 5000 → decode_some mended m ≡ answer r → length r.bytes ≤ most_decoded
unfolding decode_some
some_room mended [] r h e = absurd (answer_not (sym e))
some_room mended (header ∷ rest) r h e = message_room mended header rest r (omega arith) e

-- a message that is decoded, whatever it is, has at most so many bytes then
pub decoded_fits : (mended : Bool) (m : List ℕ) (r : Decoded) → decode_of mended m ≡ answer r → length r.bytes ≤ most_decoded
unfolding decode_of pick
decoded_fits mended m r e =
    by_test (ltb 5000 (length m))
    (λ t. absurd (answer_not (sym (rw t at e))))
    (λ t. some_room mended m r (ltb-false 5000 (length m) t) (rw t at e))
