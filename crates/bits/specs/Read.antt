-- `Reader` of bits.rs, on the bits that are left.
-- Assumes nothing.
use Rattle.std.specs.Prelude.{◌≡◌, Bool, List, [], ◌∷◌, map, ℕ, zero, suc, ◌+◌, length, take, drop, leb}
use Rattle.std.specs.Prelude.{Option, None, Some}
use Rattle.laws.specs.Bits.{num, value_of}
use Rattle.laws.specs.Pick.{pick}
use Rattle.bits.specs.Val.{val_of}
use Rattle.bits.specs.declared.reader.Reader.{Reader}

-- `take`: the first n bits as a number, and what is left; nothing where there are fewer
unfoldable pub take_bits : ℕ → List Bool → Option (ℕ × List Bool)
take_bits n b = pick (leb n (length b)) (Some (value_of (take n b), drop n b)) None

-- the first k numbers of w bits each
unfoldable pub numbers : ℕ → ℕ → List Bool → List ℕ
numbers w zero b = []
numbers w (suc k) b = value_of (take w b) ∷ numbers w k (drop w b)

-- a bit as the letter 0 or 1
abbrev pub letter : Bool → ℕ
letter b = 48 + num b

-- `text`, and `vb_val` of it: the number whose decimal digits the first n bits are
unfoldable pub take_text : ℕ → List Bool → Option (ℕ × List Bool)
take_text n b = pick (leb n (length b)) (Some (val_of (map letter (take n b)), drop n b)) None

-- the answer at a position, with the next one
unfoldable pub taken : ℕ → Option (ℕ × List Bool) → Option (ℕ × ℕ)
taken next None = None
taken next (Some p) = Some (p.0, next)

-- the answers of `take` and `text` at a position of all bits
abbrev pub took : ℕ → List Bool → ℕ → Option (ℕ × ℕ)
took n b at = taken (at + n) (take_bits n (drop at b))

abbrev pub took_text : ℕ → List Bool → ℕ → Option (ℕ × ℕ)
took_text n b at = taken (at + n) (take_text n (drop at b))

-- the position after an answer: the next one, or the same where there are too few bits
unfoldable pub after_of : Option (ℕ × ℕ) → ℕ → ℕ
after_of (Some (v, next)) at = next
after_of None at = at

-- answers to readings of so many bits, each from where the one before it left the reader
abbrev pub InTurn : List Bool → ℕ → List (ℕ × Option (ℕ × ℕ)) → Type 0
InTurn b at [] = Unit {0}
InTurn b at (x ∷ xs) = (x.1 ≡ took x.0 b at) × InTurn b (after_of x.1 at) xs

-- the reader after an answer
abbrev pub moved : Reader → Option (ℕ × ℕ) → Reader
moved d t = record { bytes = d.bytes; at = after_of t d.at }
