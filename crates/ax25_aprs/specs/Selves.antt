-- Runs of codes that stand for themselves: `text_decode` writes them at once. Inner contracts alone cite this.
-- Assumes nothing.
use Rattle.std.specs.Prelude.{Bool, List, ℕ, ◌*◌, ◌≤◌, ◌<◌, take, drop}
use Rattle.laws.specs.Bits.{value_of}

-- each of the first n codes of seven bits is 32 or more
abbrev pub Selves : ℕ → List Bool → Type 0
Selves n b = (k : ℕ) → k < n → 32 ≤ value_of (take 7 (drop (k * 7) b))
