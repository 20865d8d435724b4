-- `generic_encode` and `generic_decode`: "header 21 and 7-bit text where all bytes are below 80, else 20 and the bytes".
-- Assumes nothing.
use Rattle.std.specs.Prelude.{false, List, [], ◌∷◌, ℕ}
use Rattle.std.specs.Prelude.{unwrap_or}
use Rattle.laws.specs.Bits.{odd, pack, unpack}
use Rattle.laws.specs.Pick.{pick}
use Rattle.bits_write.specs.Text7.{text7_bits}
use Rattle.bits.specs.Text7.{text7_of}
use Rattle.ax25_address.specs.Classify.{any_high}

unfoldable pub generic_of : List ℕ → List ℕ
generic_of d = pick (any_high d) (0x20 ∷ d) (0x21 ∷ pack (text7_bits 0 false d))

-- by the header's low bit; no bits at all are no text
unfoldable pub generic_back : ℕ → List ℕ → List ℕ
generic_back header rest = pick (odd header) (unwrap_or (text7_of (unpack rest) 0) []) rest
