-- The tests of document 01's refusal table that several calls share, with the masks of document 02, E11.
-- Assumes nothing.
use Rattle.std.specs.Prelude.{Bool, false, ◌&&◌, ◌||◌, ℕ, zero, suc, ◌-◌, ◌^◌, leb, eqb}

-- 8: "field outside 3 to 512"
abbrev pub field_ok : ℕ → Bool
field_ok field = leb 3 field && leb field 512

-- the mask of w check bits: the top w bits of a byte
abbrev pub mask_for : ℕ → ℕ
mask_for w = 256 - 2 ^ (8 - w)

-- a mask of 1 to n check bits
unfoldable pub top_of : ℕ → ℕ → Bool
top_of zero mask = false
top_of (suc n) mask = eqb mask (mask_for (suc n)) || top_of n mask

-- 9: "The mask may be the top 1 to 7 bits of the byte." (02, E11)
abbrev pub mask_ok : ℕ → Bool
mask_ok mask = top_of 7 mask
