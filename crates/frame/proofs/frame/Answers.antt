-- `frame::frame` meets its contract: the body, the control byte, and the CRC of both.
-- Assumes nothing.
use mathlib.Core.Path.{◌≡◌, ap}
use mathlib.Core.List.{List, [], ◌∷◌}
use Prim.Native.Nat.{ℕ, ◌+◌, ◌/◌, ◌%◌, ◌≤◌}
use native.Mathlib.Omega.{arith}
use lib.ListN.{length, take, length-append}
use lib.Dec.{leb}
use Rattle.laws.specs.Wrote.{Wrote}
use Rattle.laws.proofs.ListLaws.{take_sets}
use Rattle.laws.proofs.WroteLaws.{wrote_then, wrote_as}
use Rattle.crc.specs.Crc.{crc_of}
use Rattle.frame.specs.Frame.{body_of, control_byte, with_crc, frame_of}
use Rattle.frame.specs.declared.Control.{Control}
use Rattle.frame.proofs.FrameLaws.{body_length}
use Rattle.frame.proofs.frame.Goals as goal

-- what was written from the front is read back
read_back : {b c s : List ℕ} {p : ℕ} → length s ≤ length b → Wrote b 0 s c p → take p c ≡ s
read_back {b = b} {s = s} h w = rw (w.next_is, w.stored) (take_sets b 0 s (omega arith))

-- the CRC of what was written
summed : {b c d s : List ℕ} {p q : ℕ} → length s ≤ length b → Wrote b 0 s c p
    → Wrote c p (crc_of (take p c) / 256 ∷ crc_of (take p c) % 256 ∷ []) d q → Wrote b 0 (with_crc s) d q
unfolding with_crc
summed h f g = wrote_then f (rw (read_back h f) at g)

-- the body, the control byte and the CRC are the frame
framed : {b c d e : List ℕ} {p q r : ℕ} (field : ℕ) (f : List ℕ) (control : Control) (marker x : ℕ)
    → length f ≤ field
    → field + 3 ≤ length b
    → x ≡ control_byte control (leb field (length f))
    → Wrote b 0 (body_of field f marker) c p
    → Wrote c p (x ∷ []) d q
    → Wrote d q (crc_of (take q d) / 256 ∷ crc_of (take q d) % 256 ∷ []) e r
    → Wrote b 0 (frame_of field f control marker) e r
unfolding frame_of
framed field f control marker x h room is k l m =
    let body = body_of field f marker in
    let end = control_byte control (leb field (length f)) ∷ [] in
    summed (omega (arith, length-append body end, body_length field f marker h)) (wrote_then k (wrote_as (ap (λ (y : ℕ). y ∷ []) is) l)) m

-- the place after the body
behind : {b c : List ℕ} {p : ℕ} (field : ℕ) (f : List ℕ) (marker : ℕ) → length f ≤ field → Wrote b 0 (body_of field f marker) c p → p ≡ field
behind field f marker h w = omega (arith, w.next_is, body_length field f marker h)

pub byte-end-requires : goal.byte-end-requires
byte-end-requires c =
    let a = c.args in
    omega (arith, behind a.field a.«data».now a.marker (omega arith) c.body-at.ensures)

pub trailer-requires : goal.trailer-requires
trailer-requires c =
    let a = c.args in
    let body = c.body-at in
    omega (arith, behind a.field a.«data».now a.marker (omega arith) body.ensures)

pub returns : goal.returns
returns c =
    let byte = c.byte in
    framed _ _ _ _ byte.result (omega arith) (omega arith) byte.ensures
    c.body-at.ensures c.byte-end.ensures c.trailer.ensures
