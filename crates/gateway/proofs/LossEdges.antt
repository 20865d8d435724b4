-- Where fragments went (02, E12): the worked examples as one table that holds of the definitions as a whole.
-- Assumes nothing.
use mathlib.Core.Path.{◌≡◌, refl}
use mathlib.Core.Bool.{Bool, true, false, ◌&&◌}
use mathlib.Core.List.{List, [], ◌∷◌}
use Rattle.std.proofs.Common.{Option, None, Some}
use Prim.Native.Nat.{ℕ, ◌-◌}
use lib.ListN.{replicate}
use lib.Dec.{eqb}
use Rattle.laws.specs.Bits.{odd, num, bits_of, value_of}
use Rattle.laws.specs.Pick.{pick}
use Rattle.laws.specs.Text.{same}
use Rattle.crc.specs.Crc.{crc_bit, crc_steps, crc_byte, crc_from, crc_of, crc_bits}
use Rattle.refusals.specs.Limits.{top_of}
use Rattle.receiver.specs.Join.{Heard, refused, dropped, more, done, finish_of, grow_of, accept_of, refusal_of, join_of}
use Rattle.receiver.specs.New.{fresh_of}
use Rattle.receiver.specs.Push.{last_from, fragment_length, push_of}
use Rattle.receiver.specs.Tally.{largest, is_full, cause_number, tallied, with, join_tallied, push_tallied}
use Rattle.receiver.specs.declared.Cause.TheVariants.{WrongLength, NoFragment, Overflow, Limit, Check}
use Rattle.receiver.specs.declared.Reassembler.{Reassembler}
use Rattle.receiver.specs.declared.Tallies.{Tallies}
use Rattle.gateway.specs.Run.{Call, push, join, reset, State, state, Step, step_of}

-- a call, what it answers, and the eight tallies after it: offered, More, Done, wrong length, no fragment, overflow, limit, check
pub record Row : Type 0 where
  pub call : Call
  pub answer : Option Heard
  pub tallies : List ℕ

abbrev row : Call → Heard → List ℕ → Row
row c h t = record { call = c; answer = Some h; tallies = t }

abbrev reset_row : List ℕ → Row
reset_row t = record { call = reset; answer = None; tallies = t }

-- a receiver, and calls on it, each after the one before it
pub record Case : Type 0 where
  pub receiver : Reassembler
  pub rows : List Row

abbrev case : Reassembler → List Row → Case
case r rows = record { receiver = r; rows = rows }

-- a receiver that a caller makes up: it holds nothing, and has this mask, so many fragments and these tallies
made : ℕ → ℕ → Tallies → Reassembler
made mask fragments t = with (record { held = 0; nfrag = fragments; count = 0; crc_mask = mask; overflow = false }) t

-- one that holds so many bytes in so many fragments, and has these tallies
holding : ℕ → ℕ → Tallies → Reassembler
holding bytes fragments t = with (record { held = bytes; nfrag = fragments; count = 0; crc_mask = 0xF0; overflow = false }) t

abbrev tallies_of : ℕ → ℕ → ℕ → ℕ → ℕ → ℕ → ℕ → ℕ → Tallies
tallies_of a b c d e f g h =
    record { offered = a; more = b; done = c; wrong_length = d; no_fragment = e; overflow = f; limit = g; check = h }

-- the first frame and the last one of a message, and the last with a bit changed
first : List ℕ
first = 0xC0 ∷ 0x40 ∷ 0xAC ∷ 0xB7 ∷ 0x01 ∷ 0x01 ∷ 0xA3 ∷ 0x8C ∷ []

last : List ℕ
last = 0x40 ∷ 0x00 ∷ 0x10 ∷ 0x40 ∷ 0x14 ∷ 0x00 ∷ 0x52 ∷ 0x42 ∷ []

changed : List ℕ
changed = 0x40 ∷ 0x00 ∷ 0x10 ∷ 0x41 ∷ 0x14 ∷ 0x00 ∷ 0x52 ∷ 0x42 ∷ []

-- More, Done and three causes from fresh; limit and overflow where 4,999 bytes or 254 fragments are held (a fragment of 5,000 bytes is a program's
-- to run: bindings/c/edges.c has it); 27 for each tally alone, after 17, 9 and 8, and after a reset; and the last that is counted before 27
pub losses_table : List Case
losses_table =
    case (fresh_of 0xF0)
    (row (push first 5) more (1 ∷ 1 ∷ 0 ∷ 0 ∷ 0 ∷ 0 ∷ 0 ∷ 0 ∷ [])
    ∷ row (push last 5) (done 7 (0x40 ∷ 0xAC ∷ 0xB7 ∷ 0x01 ∷ 0x00 ∷ 0x10 ∷ 0x40 ∷ [])) (2 ∷ 1 ∷ 1 ∷ 0 ∷ 0 ∷ 0 ∷ 0 ∷ 0 ∷ [])
    ∷ row (push (0x40 ∷ []) 5) (dropped WrongLength) (3 ∷ 1 ∷ 1 ∷ 1 ∷ 0 ∷ 0 ∷ 0 ∷ 0 ∷ [])
    ∷ row (push last 2) (refused 8) (3 ∷ 1 ∷ 1 ∷ 1 ∷ 0 ∷ 0 ∷ 0 ∷ 0 ∷ [])
    ∷ row (join (0x40 ∷ []) 0) (dropped NoFragment) (4 ∷ 1 ∷ 1 ∷ 1 ∷ 1 ∷ 0 ∷ 0 ∷ 0 ∷ [])
    ∷ row (join (0x40 ∷ []) 2) (dropped NoFragment) (5 ∷ 1 ∷ 1 ∷ 1 ∷ 2 ∷ 0 ∷ 0 ∷ 0 ∷ [])
    ∷ row (join (0xC0 ∷ []) 1) (dropped NoFragment) (6 ∷ 1 ∷ 1 ∷ 1 ∷ 3 ∷ 0 ∷ 0 ∷ 0 ∷ [])
    ∷ reset_row (6 ∷ 1 ∷ 1 ∷ 1 ∷ 3 ∷ 0 ∷ 0 ∷ 0 ∷ [])
    ∷ row (push first 5) more (7 ∷ 2 ∷ 1 ∷ 1 ∷ 3 ∷ 0 ∷ 0 ∷ 0 ∷ [])
    ∷ row (push changed 5) (dropped Check) (8 ∷ 2 ∷ 1 ∷ 1 ∷ 3 ∷ 0 ∷ 0 ∷ 1 ∷ [])
    ∷ [])
    ∷ case (holding 4999 1 (tallies_of 8 2 1 1 3 0 0 1))
    (row (join (0x80 ∷ 0x00 ∷ []) 2) more (9 ∷ 3 ∷ 1 ∷ 1 ∷ 3 ∷ 0 ∷ 0 ∷ 1 ∷ [])
    ∷ row (join (0x80 ∷ 0x00 ∷ []) 2) (dropped Limit) (10 ∷ 3 ∷ 1 ∷ 1 ∷ 3 ∷ 0 ∷ 1 ∷ 1 ∷ [])
    ∷ row (join (0x81 ∷ []) 1) (dropped Overflow) (11 ∷ 3 ∷ 1 ∷ 1 ∷ 3 ∷ 1 ∷ 1 ∷ 1 ∷ [])
    ∷ row (join (0x01 ∷ []) 1) (dropped Overflow) (12 ∷ 3 ∷ 1 ∷ 1 ∷ 3 ∷ 2 ∷ 1 ∷ 1 ∷ [])
    ∷ [])
    ∷ case (holding 1 254 (tallies_of 8 2 1 1 3 0 0 1))
    (row (join (0x80 ∷ 0x00 ∷ []) 2) more (9 ∷ 3 ∷ 1 ∷ 1 ∷ 3 ∷ 0 ∷ 0 ∷ 1 ∷ [])
    ∷ row (join (0x00 ∷ []) 1) (dropped Limit) (10 ∷ 3 ∷ 1 ∷ 1 ∷ 3 ∷ 0 ∷ 1 ∷ 1 ∷ [])
    ∷ row (join (0x01 ∷ []) 1) (done 1 (0x01 ∷ [])) (11 ∷ 3 ∷ 2 ∷ 1 ∷ 3 ∷ 0 ∷ 1 ∷ 1 ∷ [])
    ∷ [])
    ∷ case (made 0xF0 0 (tallies_of 0 0 0 0 0 0 0 largest))
    (row (join (0x01 ∷ []) 1) (refused 27) (0 ∷ 0 ∷ 0 ∷ 0 ∷ 0 ∷ 0 ∷ 0 ∷ largest ∷ [])
    ∷ row (push first 5) (refused 27) (0 ∷ 0 ∷ 0 ∷ 0 ∷ 0 ∷ 0 ∷ 0 ∷ largest ∷ [])
    ∷ row (push first 2) (refused 8) (0 ∷ 0 ∷ 0 ∷ 0 ∷ 0 ∷ 0 ∷ 0 ∷ largest ∷ [])
    ∷ reset_row (0 ∷ 0 ∷ 0 ∷ 0 ∷ 0 ∷ 0 ∷ 0 ∷ largest ∷ [])
    ∷ row (join (0x01 ∷ []) 1) (refused 27) (0 ∷ 0 ∷ 0 ∷ 0 ∷ 0 ∷ 0 ∷ 0 ∷ largest ∷ [])
    ∷ [])
    ∷ case (made 0xF1 0 (tallies_of 0 0 0 0 0 0 0 largest))
    (row (join (0x01 ∷ []) 1) (refused 9) (0 ∷ 0 ∷ 0 ∷ 0 ∷ 0 ∷ 0 ∷ 0 ∷ largest ∷ [])
    ∷ row (push first 2) (refused 9) (0 ∷ 0 ∷ 0 ∷ 0 ∷ 0 ∷ 0 ∷ 0 ∷ largest ∷ [])
    ∷ [])
    ∷ case (made 0xF1 256 (tallies_of 0 0 0 0 0 0 0 largest))
    (row (join (0x01 ∷ []) 1) (refused 17) (0 ∷ 0 ∷ 0 ∷ 0 ∷ 0 ∷ 0 ∷ 0 ∷ largest ∷ [])
    ∷ row (push first 2) (refused 17) (0 ∷ 0 ∷ 0 ∷ 0 ∷ 0 ∷ 0 ∷ 0 ∷ largest ∷ [])
    ∷ [])
    ∷ case (made 0xF0 0 (tallies_of largest 0 0 0 0 0 0 0))
    (row (join (0x01 ∷ []) 1) (refused 27) (largest ∷ 0 ∷ 0 ∷ 0 ∷ 0 ∷ 0 ∷ 0 ∷ 0 ∷ []) ∷ row (push first 5) (refused 27) (largest ∷ 0 ∷ 0 ∷ 0 ∷ 0 ∷ 0 ∷ 0 ∷ 0 ∷ []) ∷ [])
    ∷ case (made 0xF0 0 (tallies_of 0 largest 0 0 0 0 0 0))
    (row (join (0x01 ∷ []) 1) (refused 27) (0 ∷ largest ∷ 0 ∷ 0 ∷ 0 ∷ 0 ∷ 0 ∷ 0 ∷ []) ∷ row (push first 5) (refused 27) (0 ∷ largest ∷ 0 ∷ 0 ∷ 0 ∷ 0 ∷ 0 ∷ 0 ∷ []) ∷ [])
    ∷ case (made 0xF0 0 (tallies_of 0 0 largest 0 0 0 0 0))
    (row (join (0x01 ∷ []) 1) (refused 27) (0 ∷ 0 ∷ largest ∷ 0 ∷ 0 ∷ 0 ∷ 0 ∷ 0 ∷ []) ∷ row (push first 5) (refused 27) (0 ∷ 0 ∷ largest ∷ 0 ∷ 0 ∷ 0 ∷ 0 ∷ 0 ∷ []) ∷ [])
    ∷ case (made 0xF0 0 (tallies_of 0 0 0 largest 0 0 0 0))
    (row (join (0x01 ∷ []) 1) (refused 27) (0 ∷ 0 ∷ 0 ∷ largest ∷ 0 ∷ 0 ∷ 0 ∷ 0 ∷ []) ∷ row (push first 5) (refused 27) (0 ∷ 0 ∷ 0 ∷ largest ∷ 0 ∷ 0 ∷ 0 ∷ 0 ∷ []) ∷ [])
    ∷ case (made 0xF0 0 (tallies_of 0 0 0 0 largest 0 0 0))
    (row (join (0x01 ∷ []) 1) (refused 27) (0 ∷ 0 ∷ 0 ∷ 0 ∷ largest ∷ 0 ∷ 0 ∷ 0 ∷ []) ∷ row (push first 5) (refused 27) (0 ∷ 0 ∷ 0 ∷ 0 ∷ largest ∷ 0 ∷ 0 ∷ 0 ∷ []) ∷ [])
    ∷ case (made 0xF0 0 (tallies_of 0 0 0 0 0 largest 0 0))
    (row (join (0x01 ∷ []) 1) (refused 27) (0 ∷ 0 ∷ 0 ∷ 0 ∷ 0 ∷ largest ∷ 0 ∷ 0 ∷ []) ∷ row (push first 5) (refused 27) (0 ∷ 0 ∷ 0 ∷ 0 ∷ 0 ∷ largest ∷ 0 ∷ 0 ∷ []) ∷ [])
    ∷ case (made 0xF0 0 (tallies_of 0 0 0 0 0 0 largest 0))
    (row (join (0x01 ∷ []) 1) (refused 27) (0 ∷ 0 ∷ 0 ∷ 0 ∷ 0 ∷ 0 ∷ largest ∷ 0 ∷ []) ∷ row (push first 5) (refused 27) (0 ∷ 0 ∷ 0 ∷ 0 ∷ 0 ∷ 0 ∷ largest ∷ 0 ∷ []) ∷ [])
    ∷ case (made 0xF0 0 (tallies_of (largest - 1) 0 0 0 0 0 0 0))
    (row (join (0x01 ∷ []) 1) (done 1 (0x01 ∷ [])) (largest ∷ 0 ∷ 1 ∷ 0 ∷ 0 ∷ 0 ∷ 0 ∷ 0 ∷ [])
    ∷ row (join (0x01 ∷ []) 1) (refused 27) (largest ∷ 0 ∷ 1 ∷ 0 ∷ 0 ∷ 0 ∷ 0 ∷ 0 ∷ [])
    ∷ [])
    ∷ []

-- ---- tests of answers

same_heard : Heard → Heard → Bool
same_heard (refused n) (refused m) = eqb n m
same_heard (refused n) (dropped d) = false
same_heard (refused n) more = false
same_heard (refused n) (done k l) = false
same_heard (dropped c) (refused m) = false
same_heard (dropped c) (dropped d) = eqb (cause_number c) (cause_number d)
same_heard (dropped c) more = false
same_heard (dropped c) (done k l) = false
same_heard more (refused m) = false
same_heard more (dropped d) = false
same_heard more more = true
same_heard more (done k l) = false
same_heard (done n b) (refused m) = false
same_heard (done n b) (dropped d) = false
same_heard (done n b) more = false
same_heard (done n b) (done k l) = eqb n k && same b l

same_answer : Option Heard → Option Heard → Bool
same_answer None None = true
same_answer None (Some g) = false
same_answer (Some h) None = false
same_answer (Some h) (Some g) = same_heard h g

eight : Tallies → List ℕ
eight t = t.offered ∷ t.more ∷ t.done ∷ t.wrong_length ∷ t.no_fragment ∷ t.overflow ∷ t.limit ∷ t.check ∷ []

-- a step answers what the row has, and leaves its tallies
gives_row : Step → Row → Bool
gives_row s r = same_answer s.answer r.answer && same (eight s.next.receiver.tallies) r.tallies

gives_rows : Step → Row → (State → Bool) → Bool
gives_rows s r rest = gives_row s r && rest s.next

-- each row from what the one before it left
rows_hold : List Row → State → Bool
rows_hold [] t = true
rows_hold (r ∷ rs) t = gives_rows (step_of t r.call) r (rows_hold rs)

pub cases_hold : List Case → Bool
cases_hold [] = true
cases_hold (c ∷ cs) = rows_hold c.rows (state c.receiver (replicate 5000 0)) && cases_hold cs

pub losses_hold : cases_hold losses_table ≡ true
unfolding cases_hold rows_hold gives_rows gives_row same_answer same_heard eight losses_table made holding first last changed odd num bits_of value_of pick same crc_bit crc_steps crc_byte crc_from crc_of crc_bits top_of finish_of grow_of accept_of refusal_of join_of last_from fragment_length push_of is_full tallied join_tallied push_tallied
losses_hold = refl
