-- Frames: document 01, "hf/frame.rs".
-- Assumes nothing.
use Rattle.std.specs.Prelude.{Bool, ◌||◌, not, List, [], ◌∷◌, ◌++◌, ℕ, zero, suc, ◌+◌, ◌-◌, ◌*◌, ◌/◌, ◌%◌, length, replicate, ltb, leb, eqb}
use Rattle.laws.specs.Bits.{num}
use Rattle.laws.specs.Pick.{pick}
use Rattle.crc.specs.Crc.{crc_of}
use Rattle.refusals.specs.Limits.{field_ok}
use Rattle.refusals.specs.Outcome.{Outcome, refused, answer}
use Rattle.frame.specs.declared.Control.{Control}

-- the byte after a fragment that is shorter than its field
abbrev pub terminator : ℕ
terminator = 0x14

-- n bytes: "the marker if it fits, zeros"
unfoldable pub fill_of : ℕ → ℕ → List ℕ
fill_of zero marker = []
fill_of (suc n) marker = marker ∷ replicate n 0

-- "the fragment; if shorter than field, 14, the marker if it fits, zeros"
unfoldable pub body_of : ℕ → List ℕ → ℕ → List ℕ
body_of field fragment marker =
    pick (ltb (length fragment) field)
    (fragment ++ (terminator ∷ fill_of (field - (length fragment + 1)) marker))
    fragment

-- "control byte, its bit 0 set exactly where the fragment has field bytes"
unfoldable pub control_byte : Control → Bool → ℕ
control_byte control full = control.reply * 64 + num control.compressed * 32 + control.hint * 4 + num full

-- "CRC, high byte first"
unfoldable pub with_crc : List ℕ → List ℕ
with_crc s = s ++ (crc_of s / 256 ∷ crc_of s % 256 ∷ [])

-- a frame of field + 3 bytes
unfoldable pub frame_of : ℕ → List ℕ → Control → ℕ → List ℕ
frame_of field fragment control marker =
    with_crc (body_of field fragment marker ++ (control_byte control (leb field (length fragment)) ∷ []))

-- the answer of `build_frame`: 8, 14, 15, 16, or the frame
unfoldable pub build_of : ℕ → List ℕ → Control → ℕ → Outcome (List ℕ)
build_of field fragment control marker =
    pick (not (field_ok field)) (refused 8)
    (pick (eqb (length fragment) 0 || ltb field (length fragment)) (refused 14)
    (pick (eqb marker terminator) (refused 15)
    (pick (ltb 3 control.reply || ltb 7 control.hint) (refused 16)
    (answer (frame_of field fragment control marker)))))
