-- For every command and data, a coded message has at most 5,000 bytes and its first byte is below 80. Of every message, the decoded command is
-- at most 2.
-- Assumes nothing.
use mathlib.Core.Path.{◌≡◌, sym}
use mathlib.Core.Bool.{Bool, false}
use mathlib.Core.List.{List, [], ◌∷◌}
use Rattle.std.proofs.Common.{Option, None, Some}
use Prim.Native.Nat.{ℕ, ◌/◌, ◌%◌, ◌≤◌}
use native.Mathlib.Omega.{arith}
use lib.ListN.{length}
use lib.Dec.{ltb, eqb}
use borrow.Author.Tests.{eqb-false, le-ltb, ltb-false}
use Rattle.laws.specs.Bits.{unpack}
use Rattle.laws.specs.Pick.{pick}
use Rattle.laws.proofs.ByteLaws.{length_pack}
use Rattle.laws.proofs.Cases.{by_test}
use Rattle.bits_write.specs.Text7.{text7_bits}
use Rattle.bits_write.proofs.Text7Laws.{length_text7}
use Rattle.refusals.specs.Outcome.{Outcome, answer}
use Rattle.refusals.proofs.OutcomeLaws.{answer_not, past}
use Rattle.ax25_address.specs.Types.{Text, Generic, call_len}
use Rattle.ax25_address.specs.Classify.{any_high}
use Rattle.ax25.specs.Decode.{read_frame}
use Rattle.ax25.specs.Encode.{Coded}
use Rattle.ax25.proofs.SizeLaws.{Bounds, encode_bounds}
use Rattle.kiss.specs.Generic.{generic_of}
use Rattle.kiss.specs.Codec.{code_of, Decoded, or_seven, decode_message, decode_some, decode_of}

generic_bounds : (d : List ℕ) → length d ≤ 4999 → Bounds (generic_of d)
unfolding generic_of pick
generic_bounds d l =
    by_test (any_high d)
    (λ e. rw e (record { not_empty = omega arith; fits = omega arith; first_low = omega arith }))
    (λ e. rw e (record { not_empty = omega arith; fits = omega (arith, length_pack (text7_bits 0 false d), length_text7 0 false d); first_low = omega arith }))

-- what is coded is not too long
pub code_short : (command : ℕ) (d : List ℕ) (c : Coded) → code_of command d ≡ answer c → length d ≤ 4999
unfolding code_of pick
code_short command d c e =
    by_test (ltb 2 command)
    (λ t. absurd (answer_not (sym (rw t at e))))
    (λ t. by_test (ltb 4999 (length d)) (λ u. absurd (answer_not (sym (rw (t, u) at e)))) (ltb-false 4999 (length d)))

pub code_bounds : (command : ℕ) (d : List ℕ) (c : Coded) → code_of command d ≡ answer c → Bounds c.bytes
unfolding code_of pick
code_bounds command d c e =
    let l = code_short command d c e in
    let u = le-ltb 4999 (length d) l in
    by_test (ltb 2 command)
    (λ t. absurd (answer_not (sym (rw t at e))))
    (λ t. by_test (eqb command Generic)
    (λ v.
    let q : generic_of d ≡ c.bytes = answered_bytes (rw (t, u, v) at e) in
    rw (← q) (generic_bounds d l))
    (λ v. encode_bounds command d l c (rw (t, u, v) at e)))
  where
    answered_bytes : answer (record { bytes = generic_of d; typ = Text }) ≡ answer c → generic_of d ≡ c.bytes
    answered_bytes q = cc

-- ---- a decoded command

same_command : {r q : Decoded} → ◌≡◌ {A = Outcome Decoded} (answer r) (answer q) → r.command ≡ q.command
same_command e = cc

seven_command : (c : ℕ) (o : Option (List ℕ)) (r : Decoded) → or_seven c o ≡ answer r → c ≡ r.command
seven_command c None r e = absurd (answer_not (sym e))
seven_command c (Some d) r e = same_command e

header_command : (mended : Bool) (header : ℕ) (rest : List ℕ) (r : Decoded) → decode_message mended header rest ≡ answer r → r.command ≤ 2
unfolding decode_message pick
header_command mended header rest r e =
    by_test (eqb (header / 16 % 4) 3)
    (λ t. absurd (answer_not (sym (rw t at e))))
    (λ t. by_test (eqb (header / 16 % 4) 2)
    (λ u.
    let is : 2 ≡ r.command = same_command (rw (t, u) at e) in
    omega arith)
    (λ u.
    let is : header / 16 % 4 ≡ r.command =
    seven_command (header / 16 % 4) (read_frame mended (call_len (header / 16 % 4)) header (unpack rest)) r (rw (t, u) at e) in
    omega (arith, is, eqb-false (header / 16 % 4) 3 t)))

pub decode_command : (mended : Bool) (m : List ℕ) (r : Decoded) → decode_of mended m ≡ answer r → r.command ≤ 2
unfolding decode_of decode_some
decode_command mended [] r e = absurd (answer_not (sym (past _ _ _ _ e).1))
decode_command mended (header ∷ rest) r e = header_command mended header rest r (past _ _ _ _ e).1
