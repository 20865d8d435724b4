-- A window of 128 bytes that stands for all bytes before it.
-- Assumes nothing.
use Rattle.std.specs.Prelude.{◌≡◌, List, ℕ, length, take}
use Rattle.std.specs.Int.Bits.{bit_xor}
use Rattle.laws.specs.Bits.{Bytes}
use Rattle.crc.specs.Crc.{crc_from}

-- 128 bytes, oldest first
abbrev pub Window : List ℕ → Type 0
Window w = (length w ≡ 128) × Bytes w

-- what the window stands for: its bytes, those again 32 places on and those again 88 places on, each as far as it is inside
unfoldable pub held : List ℕ → ℕ
held l = bit_xor (bit_xor (crc_from 0 (take 40 l)) (crc_from 0 (take 96 l))) (crc_from 0 l)
