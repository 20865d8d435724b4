-- The digipeaters that are left to count.
-- Assumes nothing.
use Rattle.std.specs.Prelude.{List, ℕ, ◌+◌, ◌-◌, ◌*◌, length, get_or, drop}
use Rattle.std.specs.Prelude.{Option, None, Some}
use Rattle.ax25_address.specs.Parse.{digi_fields}

-- n, and the fields that follow
unfoldable pub counted : ℕ → Option (List (List ℕ) × List ℕ) → Option ℕ
counted n None = None
counted n (Some p) = Some (n + length p.0)

-- the digipeaters of a frame of which n are counted; nothing where a field is cut off
unfoldable pub digis_from : ℕ → ℕ → List ℕ → Option ℕ
digis_from l n d = counted n (digi_fields l (8 - n) (get_or d ((n + 2) * (l + 1) - 1) 0) (drop ((n + 2) * (l + 1)) d))
