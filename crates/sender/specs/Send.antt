-- The sender: document 01, "kiss.rs, sender".
-- Assumes nothing.
use Rattle.std.specs.Prelude.{not, List, [], ◌∷◌, ℕ, zero, suc, ◌+◌, ◌-◌, ◌*◌, ◌/◌, length, get_or, take, drop, ltb, leb, eqb}
use Rattle.std.specs.Int.Bits.{bit_or}
use Rattle.laws.specs.Pick.{pick}
use Rattle.crc.specs.Crc.{crc_bits}
use Rattle.refusals.specs.Limits.{field_ok, mask_ok}
use Rattle.refusals.specs.Outcome.{Outcome, refused, answer}

-- ---- how many fragments

-- a / b, rounded up
unfoldable pub ceiling : ℕ → ℕ → ℕ
ceiling a b = (a + (b - 1)) / b

-- "Count is 1 up to field bytes, else 1 + ceiling((length + 1 − field) / (field − 1))."
unfoldable pub count_of : ℕ → ℕ → ℕ
count_of n field = pick (leb n field) 1 (1 + ceiling (n + 1 - field) (field - 1))

-- the answer of `count_for_field`: 8, 2, or the count
unfoldable pub count_for : ℕ → ℕ → Outcome ℕ
count_for total field =
    pick (not (field_ok field)) (refused 8)
    (pick (ltb 5000 total) (refused 2)
    (answer (count_of total field)))

-- ---- the fragments

-- "a check byte: count − 2 joined with the CRC's high byte under the mask"
unfoldable pub check_of : List ℕ → ℕ → ℕ → ℕ
check_of message mask count = bit_or (count - 2) (crc_bits message mask)

-- "80 set on all but the last": the first byte of fragment k of so many
unfoldable pub lead_of : ℕ → ℕ → ℕ → ℕ
lead_of first k count = pick (ltb (suc k) count) (first + 0x80) first

-- fragment k, counted from 0: "the message's first byte, 80 set on all but the last; in the first of several, a check byte; then the
-- next message bytes. Each fragment has at most field bytes." For "of several fragments each one before the last has exactly field bytes,
-- where 01 said at most, and .. the last has at least 2" (02, E1) see `fragment_full` and `fragment_last` in proofs/FullLaws
unfoldable pub fragment_of : List ℕ → ℕ → ℕ → ℕ → List ℕ
fragment_of message field mask zero =
    pick (leb (length message) field)
    message
    (lead_of (get_or message 0 0) 0 (count_of (length message) field)
    ∷ check_of message mask (count_of (length message) field)
    ∷ take (field - 2) (drop 1 message))
fragment_of message field mask (suc k) =
    lead_of (get_or message 0 0) (suc k) (count_of (length message) field)
    ∷ take (field - 1) (drop (field - 2 + k * (field - 1)) (drop 1 message))

-- ---- the list of all fragments, as `split_masked` makes it

-- a list in pieces of n, the last with what is left; its first k elements belong to no piece
unfoldable pub pieces_from : ℕ → ℕ → List ℕ → List (List ℕ)
pieces_from n k [] = []
pieces_from n zero (x ∷ xs) = take n (x ∷ xs) ∷ pieces_from n (n - 1) xs
pieces_from n (suc k) (x ∷ xs) = pieces_from n k xs

-- the first byte before each piece, with 80 set on all but the last
unfoldable pub led : ℕ → List (List ℕ) → List (List ℕ)
led first [] = []
led first (p ∷ []) = (first ∷ p) ∷ []
led first (p ∷ q ∷ ps) = ((first + 0x80) ∷ p) ∷ led first (q ∷ ps)

-- one fragment holds the message; of several the first has the check byte and field − 2 bytes, the others field − 1
unfoldable pub split_of : List ℕ → ℕ → ℕ → List (List ℕ)
split_of [] field mask = []
split_of (first ∷ rest) field mask =
    led first
    (pick (leb (suc (length rest)) field)
    (rest ∷ [])
    ((check_of (first ∷ rest) mask (count_of (suc (length rest)) field) ∷ take (field - 2) rest)
    ∷ pieces_from (field - 1) 0 (drop (field - 2) rest)))

-- ---- the answer of `fragment`

-- "the mask must leave room for count − 2": the largest count. For "With w check bits the sender accepts counts to 2^(8 − w) + 1" (02, E11) see
-- `mask_for_lem` in proofs/MaskLaws
unfoldable pub most_of : ℕ → ℕ
most_of mask = 255 - mask + 2

-- 8, 9, 10, 2, 11, 12, 13, or fragment k
unfoldable pub send_of : List ℕ → ℕ → ℕ → ℕ → Outcome (List ℕ)
send_of message field mask k =
    pick (not (field_ok field)) (refused 8)
    (pick (not (mask_ok mask)) (refused 9)
    (pick (eqb (length message) 0) (refused 10)
    (pick (ltb 5000 (length message)) (refused 2)
    (pick (leb 0x80 (get_or message 0 0)) (refused 11)
    (pick (ltb (most_of mask) (count_of (length message) field)) (refused 12)
    (pick (leb (count_of (length message) field) k) (refused 13)
    (answer (fragment_of message field mask k))))))))
