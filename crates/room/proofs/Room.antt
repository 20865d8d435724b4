-- An output with the most bytes is never refused as too short, neither by `encode` nor by `decode`.
-- Assumes nothing.
use mathlib.Core.Path.{◌≡◌, refl}
use mathlib.Core.Bool.{Bool}
use mathlib.Core.List.{List}
use Prim.Native.Nat.{ℕ, ◌≤◌}
use native.Mathlib.Omega.{arith}
use lib.ListN.{length}
use Rattle.refusals.specs.Outcome.{Outcome, refused, answer}
use Rattle.ax25.specs.Encode.{Coded}
use Rattle.kiss.specs.Codec.{code_of, Decoded, decode_of}
use Rattle.kiss.specs.Told.{into_with, encoded_of, code_into, decoded_of, decode_into}
use Rattle.std.proofs.Common.{Result}
use Rattle.refusals.specs.declared.Refusal.{Refusal}
use Rattle.ax25_address.specs.declared.classify.AprsType.{AprsType}
use Rattle.kiss.proofs.CodeBounds.{code_bounds}
use Rattle.kiss.proofs.TellLaws.{told_refused}
use Rattle.room.specs.Room.{most_decoded, most_message, is_coders, is_not_short, NotShort}
use Rattle.room.proofs.DecodeRoom.{decoded_fits}
use Rattle.room.proofs.OwnRefusals.{not_short, code_own, decode_own}

-- what is coded, whatever it is, has at most so many bytes
pub coded_fits : (command : ℕ) (d : List ℕ) (c : Coded) → code_of command d ≡ answer c → length c.bytes ≤ most_message
coded_fits command d c e = omega (arith, (code_bounds command d c e).fits)

-- a call whose own refusals are not 6 and whose answers fit the output does not answer 6
never_short : {A B : Type 0} (bytes : A → List ℕ) (value : A → B) (o : Outcome A) (most : ℕ) → NotShort o → ((a : A) → o ≡ answer a → length (bytes a) ≤ most)
    → (out t : List ℕ) → most ≤ length out → (refused 6, t) ≡ into_with bytes value o out → ⊥
never_short bytes value o most own fits out t h e =
    told_refused bytes value out t o 6 e own (λ a q s _. omega (arith, fits a q))

-- `encode`, as its contract has it: the answer r, and t in the lent output afterwards
pub encode_answers : (command : ℕ) (d out t : List ℕ) (r : Result (ℕ × AprsType) Refusal) → (encoded_of r, t) ≡ code_into (code_of command d) out → most_message ≤ length out
    → NotShort (encoded_of r)
encode_answers command d out t r e h s =
    never_short (λ c. c.bytes) (λ c. c.typ) (code_of command d) most_message (not_short is_coders refl (code_own command d)) (coded_fits command d) out t h (rw s at e)

-- `decode`, in the same way
pub decode_answers : (mended : Bool) (m out t : List ℕ) (r : Result (ℕ × ℕ) Refusal) → (decoded_of r, t) ≡ decode_into (decode_of mended m) out → most_decoded ≤ length out → NotShort (decoded_of r)
decode_answers mended m out t r e h s =
    never_short (λ d. d.bytes) (λ d. d.command) (decode_of mended m) most_decoded (not_short is_not_short refl (decode_own mended m)) (decoded_fits mended m) out t h (rw s at e)
