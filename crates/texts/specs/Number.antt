-- Decimal numbers of at most 64 bits.
-- Assumes nothing.
use Rattle.std.specs.Prelude.{◌&&◌, List, [], ◌∷◌, ◌++◌, ℕ, zero, suc, ◌+◌, ◌-◌, ◌*◌, ◌/◌, ◌%◌, ◌^◌, ltb}
use Rattle.std.specs.Prelude.{Option, None, Some}
use Rattle.laws.specs.Pick.{pick}
use Rattle.laws.specs.Text.{is_digit}

-- the digits of a number that so many hold, with no zero in front
unfoldable pub numeral_from : ℕ → ℕ → List ℕ
numeral_from zero n = []
numeral_from (suc k) n = pick (ltb n 10) ((48 + n) ∷ []) (numeral_from k (n / 10) ++ ((48 + n % 10) ∷ []))

-- 20 digits hold 64 bits
unfoldable pub numeral_of : ℕ → List ℕ
numeral_of n = numeral_from 20 n

-- a number with a digit after it
unfoldable pub with_digit : ℕ → ℕ → ℕ
with_digit v c = v * 10 + (c - 48)

-- a number with digits after it; none where there is another byte, or more than 64 bits
unfoldable pub number_from : ℕ → List ℕ → Option ℕ
number_from v [] = Some v
number_from v (c ∷ s) = pick (is_digit c && ltb (with_digit v c) (2 ^ 64)) (number_from (with_digit v c) s) None

-- the number that a text spells; none also where it is empty
unfoldable pub decimal_of : List ℕ → Option ℕ
decimal_of [] = None
decimal_of (c ∷ s) = number_from 0 (c ∷ s)
