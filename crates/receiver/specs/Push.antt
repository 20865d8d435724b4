-- A frame is heard, without the tallies: document 01, the end of "hf/frame.rs".
-- Assumes nothing.
use Rattle.std.specs.Prelude.{not, List, [], ◌∷◌, ℕ, ◌+◌, ◌%◌, length, get_or, take, ltb, eqb}
use Rattle.laws.specs.Pick.{pick}
use Rattle.refusals.specs.Limits.{field_ok}
use Rattle.frame.specs.Frame.{terminator}
use Rattle.receiver.specs.Join.{After, answered, turned_away, refusal_of, join_of}
use Rattle.receiver.specs.declared.Joiner.{Joiner}
use Rattle.receiver.specs.declared.Cause.TheVariants.{WrongLength}
use Rattle.receiver.specs.declared.Push.TheVariants.{Dropped}

-- the place of the last 14 in a list whose first element stands at i, or b where there is none
unfoldable pub last_from : ℕ → ℕ → List ℕ → ℕ
last_from i b [] = b
last_from i b (x ∷ xs) = last_from (i + 1) (pick (eqb x terminator) i b) xs

-- "Fragment length is field where the control byte's bit 0 is set, else the place of the last 14 in the field, else 0."
unfoldable pub fragment_length : List ℕ → ℕ → ℕ
fragment_length f field = pick (eqb (get_or f field 0 % 2) 1) field (last_from 0 0 (take field f))

-- the answer of `push`: 17, 9, 8; "a frame of another length is Dropped"; else its fragment is joined
unfoldable pub push_of : Joiner → List ℕ → List ℕ → ℕ → After Joiner
push_of r store f field =
    pick (ltb 0 (refusal_of r (length store))) (turned_away (refusal_of r (length store)) r store)
    (pick (not (field_ok field)) (turned_away 8 r store)
    (pick (not (eqb (length f) (field + 3))) (answered (Dropped WrongLength) r store)
    (join_of r store f (fragment_length f field))))
