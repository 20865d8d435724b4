-- What two bytes tell of a place in a text: whether a word may start there. Only contracts of inner functions need it.
-- Assumes nothing.
use Rattle.std.specs.Prelude.{Bool, ◌||◌, ◌&&◌, ℕ, ◌/◌, ◌%◌, ◌^◌, eqb, leb}

-- x is the first letter of some word: one of / V P H a A p D G
unfoldable pub first_letter : ℕ → Bool
first_letter x =
    eqb x 0x2F || eqb x 0x56 || eqb x 0x50 || eqb x 0x48 || eqb x 0x61 || eqb x 0x41 || eqb x 0x70 || eqb x 0x44 || eqb x 0x47

-- x is the second letter of some word: one of A i F c P a
unfoldable pub second_letter : ℕ → Bool
second_letter x = eqb x 0x41 || eqb x 0x69 || eqb x 0x46 || eqb x 0x63 || eqb x 0x50 || eqb x 0x61

-- a word may start with x and y: x is the first letter of some word, and y the second letter of some word
unfoldable pub may_open : ℕ → ℕ → Bool
may_open x y = first_letter x && second_letter y

-- x has a mark in m: bit k of m marks the bytes whose low six bits are k
unfoldable pub has_mark : ℕ → ℕ → Bool
has_mark m x = eqb (m / 2 ^ (x % 64) % 2) 1

-- the marks of the words' first letters and of their second letters
unfoldable pub first_marks : ℕ
first_marks = 0x1800200410192

unfoldable pub second_marks : ℕ
second_marks = 0x20A00010042

-- x and y have the marks of a word's first two letters
unfoldable pub both_marked : ℕ → ℕ → Bool
both_marked x y = has_mark first_marks x && has_mark second_marks y

-- a run of plain bytes may stop at x with y after it: x is 0x80 or more, or a word may start with the two
unfoldable pub may_stop : ℕ → ℕ → Bool
may_stop x y = leb 128 x || may_open x y
