-- `vb_val` of bits.rs: "skips blanks, stops at the first other non-digit, saturates at 64 bits".
-- Assumes nothing.
use Rattle.std.specs.Prelude.{Bool, true, false, List, [], ◌∷◌, ℕ, ◌+◌, ◌-◌, ◌*◌, min, eqb, ltb}
use Rattle.laws.specs.Pick.{pick}

-- neither a blank nor a digit
unfoldable pub stops : ℕ → Bool
stops c = pick (eqb c 32) false (pick (ltb c 48) true (ltb 57 c))

-- the number with one byte more: a blank leaves it, a digit goes after it
unfoldable pub next_val : ℕ → ℕ → ℕ
next_val a c = pick (eqb c 32) a (min (a * 10 + (c - 48)) 0xffff_ffff_ffff_ffff)

unfoldable pub val_from : ℕ → List ℕ → ℕ
val_from a [] = a
val_from a (c ∷ cs) = pick (stops c) a (val_from (next_val a c) cs)

unfoldable pub val_of : List ℕ → ℕ
val_of s = val_from 0 s
