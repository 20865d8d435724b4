-- `classify`: the type of a frame, by its information.
-- Assumes nothing.
use Rattle.std.specs.Prelude.{Bool, true, false, ◌&&◌, ◌||◌, not, List, [], ◌∷◌, ℕ, ◌+◌, length, get_or, leb, eqb}
use Rattle.laws.specs.Pick.{pick}
use Rattle.laws.specs.Text.{ascii, is_digit, starts}
use Rattle.ax25_address.specs.Types.{Text, Binary, Position, TimestampedPosition, Message, ThirdParty}

-- some byte is 80 or more
unfoldable pub any_high : List ℕ → Bool
any_high [] = false
any_high (x ∷ xs) = leb 0x80 x || any_high xs

abbrev pub one_of : ℕ → ℕ → ℕ → Bool
one_of x a b = eqb x a || eqb x b

-- '.', N or S, '.', W or E at their places, of a latitude that starts at k
unfoldable pub marks_at : ℕ → List ℕ → Bool
marks_at k d =
    eqb (get_or d (k + 4) 0) 0x2E
    && (one_of (get_or d (k + 7) 0) 0x4E 0x53
    && (eqb (get_or d (k + 14) 0) 0x2E
    && one_of (get_or d (k + 17) 0) 0x57 0x45))

-- '!' or '=', a digit
unfoldable pub is_position : List ℕ → Bool
is_position d = leb 20 (length d) && (one_of (get_or d 0 0) 0x21 0x3D && (is_digit (get_or d 1 0) && marks_at 1 d))

-- '@' or '/', a digit, 'h' after six
unfoldable pub is_timestamped : List ℕ → Bool
is_timestamped d = leb 27 (length d) && (one_of (get_or d 0 0) 0x40 0x2F && (is_digit (get_or d 1 0) && (eqb (get_or d 7 0) 0x68 && marks_at 8 d)))

-- ':', and ':' after nine
unfoldable pub is_message : List ℕ → Bool
is_message d = leb 11 (length d) && (eqb (get_or d 0 0) 0x3A && eqb (get_or d 10 0) 0x3A)

-- a first ',' that "TCPIP," does not follow
unfoldable pub stops_at : ℕ → ℕ → List ℕ → Bool
stops_at comma x xs = eqb x 0x2C && (eqb comma 0 && not (starts (ascii "TCPIP,") xs))

-- "*:" after one '>' and two ','
unfoldable pub ends_at : ℕ → ℕ → ℕ → List ℕ → Bool
ends_at gt comma x xs = eqb x 0x2A && (eqb gt 1 && (eqb comma 2 && eqb (get_or xs 0 0) 0x3A))

-- one more where the byte is this one
unfoldable pub tally : ℕ → ℕ → ℕ → ℕ
tally n x c = pick (eqb x c) (n + 1) n

-- the scan of the third party, with so many '>' and ',' before
unfoldable pub scan_third : ℕ → ℕ → List ℕ → Bool
scan_third gt comma [] = false
scan_third gt comma (x ∷ xs) =
    pick (stops_at comma x xs) false (pick (ends_at gt comma x xs) true (scan_third (tally gt x 0x3E) (tally comma x 0x2C) xs))

-- '}'
unfoldable pub is_third : List ℕ → Bool
is_third d = leb 21 (length d) && (eqb (get_or d 0 0) 0x7D && scan_third 0 0 d)

-- the tests in order; there is more than Text and Binary only where the destination starts with AP and the command is not `Ax25Long`
unfoldable pub classify_of : Bool → List ℕ → ℕ
classify_of ap d =
    pick (any_high d) Binary
    (pick (not ap) Text
    (pick (is_position d) Position
    (pick (is_timestamped d) TimestampedPosition
    (pick (is_message d) Message
    (pick (is_third d) ThirdParty
    Text)))))
