-- A clipped write, of bits or of bytes: what lies past the end of the list is not written, and the place goes on.
-- Assumes nothing.
use Rattle.std.specs.Prelude.{◌≡◌, List, ℕ, ◌+◌, length}
use Rattle.std.proofs.lemmas.List.Edits.{sets}

-- writing x at a place of the list b leaves the list c and gives the next place; `sets` drops what lies past the end
pub record Wrote {A : Type 0} (b : List A) (at : ℕ) (x c : List A) (next : ℕ) : Type 0 where
  pub stored : c ≡ sets b at x
  pub next_is : next ≡ at + length x
