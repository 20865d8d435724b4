-- `push_bfi` of bits.rs. (`push` writes `bits_of n v`, the low n bits of v.)
-- Assumes nothing.
use Rattle.std.specs.Prelude.{Bool, List, ℕ, ◌-◌, ◌/◌, ◌^◌}
use Rattle.std.specs.Int.Count.{count_leading_zeros}
use Rattle.laws.specs.Bits.{bits_of}

-- how many bits a number of 64 has from its first 1 on
unfoldable pub width_of : ℕ → ℕ
width_of v = 64 - count_leading_zeros 64 v

-- "`push_bfi` keeps the highest n bits of a number wider than n"
unfoldable pub top_bits : ℕ → ℕ → List Bool
top_bits n v = bits_of n (v / 2 ^ (width_of v - n))
