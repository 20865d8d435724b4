-- Leaving a channel and coming back (02, E8): the worked example as one table that holds of the definitions as a whole.
-- Assumes nothing.
use mathlib.Core.Path.{◌≡◌, refl, ◌∙◌}
use mathlib.Core.Bool.{true}
use mathlib.Core.List.{List, [], ◌∷◌, ◌++◌}
use Rattle.std.proofs.Common.{Some}
use Prim.Native.Nat.{ℕ}
use lib.ListN.{length, replicate, length-replicate}
use Rattle.laws.specs.Bits.{odd, num, bits_of, value_of}
use Rattle.laws.specs.Pick.{pick}
use Rattle.laws.specs.Text.{same, ascii}
use Rattle.crc.specs.Crc.{crc_bit, crc_steps, crc_byte, crc_from, crc_of, crc_bits}
use Rattle.refusals.specs.Limits.{top_of}
use Rattle.receiver.specs.Join.{more, done, finish_of, grow_of, accept_of, refusal_of, join_of}
use Rattle.receiver.specs.Push.{last_from, fragment_length, push_of}
use Rattle.receiver.specs.Tally.{is_full, tallied, join_tallied, push_tallied}
use Rattle.gateway.specs.Run.{push, left_by}
use Rattle.channels.specs.Book.{Op, call, tune, keep, return_to, drop_name, world, book, past_under, without, Said, heard, number, nothing, world_answers, book_answers}
use Rattle.channels.proofs.Return.{coming_back}

-- an operation and its answer
pub record Row : Type 0 where
  pub op : Op
  pub answer : Said

abbrev pub row : Op → Said → Row
row o a = record { op = o; answer = a }

abbrev pub ops : List Row → List Op
ops [] = []
ops (r ∷ rs) = r.op ∷ ops rs

abbrev pub said : List Row → List Said
said [] = []
said (r ∷ rs) = r.answer ∷ said rs

-- the two frames of the message 40 AC B7 01 00 10 40 at field 5
pub first : List ℕ
first = 0xC0 ∷ 0x40 ∷ 0xAC ∷ 0xB7 ∷ 0x01 ∷ 0x01 ∷ 0xA3 ∷ 0x8C ∷ []

pub last : List ℕ
last = 0x40 ∷ 0x00 ∷ 0x10 ∷ 0x40 ∷ 0x14 ∷ 0x00 ∷ 0x52 ∷ 0x42 ∷ []

-- a store of zeros, and the one that the first frame leaves
pub zeros : List ℕ
zeros = replicate 5000 0

pub begun : List ℕ
begun = 0xC0 ∷ 0xAC ∷ 0xB7 ∷ 0x01 ∷ replicate 4996 0

-- under F0; "net" is left with a message half heard, another channel is heard under F8 over the same store, and "net" is returned to
pub left_and_back : List Row
left_and_back =
    row (call (push first 5)) (heard (Some more))
    ∷ row (keep (ascii "net")) (number 0)
    ∷ row (tune 0xF8 begun) nothing
    ∷ row (call (push last 5)) (heard (Some (done 4 (0x40 ∷ 0x00 ∷ 0x10 ∷ 0x40 ∷ []))))
    ∷ row (call (push first 5)) (heard (Some more))
    ∷ row (keep (ascii "fm")) (number 0)
    ∷ row (return_to (ascii "net")) (number 0)
    ∷ row (call (push last 5)) (heard (Some (done 7 (0x40 ∷ 0xAC ∷ 0xB7 ∷ 0x01 ∷ 0x00 ∷ 0x10 ∷ 0x40 ∷ []))))
    ∷ []

-- names come and go
pub names : List Row
names =
    row (drop_name (ascii "net")) (number 0)
    ∷ row (return_to (ascii "net")) (number 20)
    ∷ row (drop_name (ascii "net")) (number 20)
    ∷ row (keep (ascii "x")) (number 0)
    ∷ row (keep (ascii "1")) (number 0)
    ∷ row (keep (ascii "22")) (number 0)
    ∷ row (keep (ascii "333")) (number 0)
    ∷ row (keep (ascii "4444")) (number 0)
    ∷ row (keep (ascii "7777777")) (number 0)
    ∷ row (keep (ascii "88888888")) (number 0)
    ∷ row (keep (ascii "ninth")) (number 21)
    ∷ row (return_to (ascii "ninth")) (number 20)
    ∷ row (keep (ascii "fm")) (number 0)
    ∷ row (keep []) (number 20)
    ∷ row (keep (ascii "999999999")) (number 20)
    ∷ row (return_to []) (number 20)
    ∷ row (drop_name (ascii "999999999")) (number 20)
    ∷ row (drop_name (ascii "x")) (number 0)
    ∷ row (keep (ascii "A")) (number 0)
    ∷ row (return_to (ascii "A" ++ (0 ∷ []))) (number 20)
    ∷ row (return_to (ascii "A")) (number 0)
    ∷ []

abbrev pub table : List Row
table = left_and_back ++ names

-- by the book
book_says : book_answers (book 0xF0 zeros) (ops table) ≡ said table
unfolding first last zeros begun left_and_back names book_answers past_under without left_by pick same top_of refusal_of finish_of grow_of accept_of join_of push_of join_tallied push_tallied is_full tallied last_from fragment_length crc_bit crc_steps crc_byte crc_from crc_of crc_bits odd num bits_of value_of
book_says = refl

-- so in the world, whatever the 40,000 lent bytes hold
pub table_holds : (lent : List ℕ) → length lent ≡ 40000 → world_answers (world 0xF0 zeros lent) (ops table) ≡ said table
unfolding zeros top_of
table_holds lent whole = (coming_back true 0xF0 refl zeros lent (length-replicate {A = ℕ} 5000 0) whole (ops table)).answered ∙ book_says
