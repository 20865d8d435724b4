-- Where fragments went: document 02, E12. The receiver with its tallies.
-- Assumes nothing.
use Rattle.std.specs.Prelude.{Bool, true, false, ◌||◌, not, List, ℕ, ◌+◌, length, ltb, leb, eqb}
use Rattle.laws.specs.Bits.{num}
use Rattle.laws.specs.Pick.{pick}
use Rattle.refusals.specs.Limits.{field_ok}
use Rattle.receiver.specs.Join.{Heard, refused, dropped, more, done, heard_of, After, turned_away, reset_of, refusal_of, join_of}
use Rattle.receiver.specs.Push.{push_of}
use Rattle.receiver.specs.declared.Cause.{Cause}
use Rattle.receiver.specs.declared.Cause.TheVariants.{WrongLength, NoFragment, Overflow, Limit, Check}
use Rattle.receiver.specs.declared.Joiner.{Joiner}
use Rattle.receiver.specs.declared.Pushed.{Pushed}
use Rattle.receiver.specs.declared.Reassembler.{Reassembler}
use Rattle.receiver.specs.declared.Tallies.{Tallies}

-- ---- 27

-- "the largest 64-bit number"
abbrev pub largest : ℕ
largest = 18446744073709551615

-- "27 when offered or any other tally is already the largest 64-bit number"
unfoldable pub is_full : Tallies → Bool
is_full t =
    leb largest t.offered
    || (leb largest t.more
    || (leb largest t.done
    || (leb largest t.wrong_length
    || (leb largest t.no_fragment
    || (leb largest t.overflow
    || (leb largest t.limit
    || leb largest t.check))))))

-- ---- what each tally counts

-- the causes by number, in document 02's order
abbrev pub cause_number : Cause → ℕ
cause_number WrongLength = 1
cause_number NoFragment = 2
cause_number Overflow = 3
cause_number Limit = 4
cause_number Check = 5

-- offered: the answers to pushes and joins "that were not refused"
abbrev pub is_offered : Heard → Bool
is_offered (refused n) = false
is_offered (dropped c) = true
is_offered more = true
is_offered (done n message) = true

-- "More"
abbrev pub is_more : Heard → Bool
is_more (refused n) = false
is_more (dropped c) = false
is_more more = true
is_more (done n message) = false

-- "Done"
abbrev pub is_done : Heard → Bool
is_done (refused n) = false
is_done (dropped c) = false
is_done more = false
is_done (done n message) = true

-- "Dropped by cause"
abbrev pub is_dropped_by : Cause → Heard → Bool
is_dropped_by c (refused n) = false
is_dropped_by c (dropped d) = eqb (cause_number c) (cause_number d)
is_dropped_by c more = false
is_dropped_by c (done n message) = false

-- the tallies after one more answer: each takes one more where it counts the answer
unfoldable pub tallied : Heard → Tallies → Tallies
tallied h t =
    record {
      offered = t.offered + num (is_offered h);
      more = t.more + num (is_more h);
      done = t.done + num (is_done h);
      wrong_length = t.wrong_length + num (is_dropped_by WrongLength h);
      no_fragment = t.no_fragment + num (is_dropped_by NoFragment h);
      overflow = t.overflow + num (is_dropped_by Overflow h);
      limit = t.limit + num (is_dropped_by Limit h);
      check = t.check + num (is_dropped_by Check h);
    }

-- ---- the calls

-- what a call returned, with the store as it leaves it
abbrev pub after : Pushed → List ℕ → After Reassembler
after p store = record { heard = heard_of p.answer store; receiver = p.receiver; store = store }

-- a receiver of its two parts
abbrev pub with : Joiner → Tallies → Reassembler
with r t = record { state = r; tallies = t }

-- what the receiver without tallies answers and leaves, and the answer counted
abbrev pub counted : Tallies → After Joiner → After Reassembler
counted t a = record { heard = a.heard; receiver = with a.receiver (tallied a.heard t); store = a.store }

-- the answer of `join`: 17, 9, 27; else as without tallies, and counted
unfoldable pub join_tallied : Reassembler → List ℕ → List ℕ → ℕ → After Reassembler
join_tallied r store f n =
    pick (ltb 0 (refusal_of r.state (length store))) (turned_away (refusal_of r.state (length store)) r store)
    (pick (is_full r.tallies) (turned_away 27 r store)
    (counted r.tallies (join_of r.state store f n)))

-- the answer of `push`: 17, 9, 8, 27; else as without tallies, and counted
unfoldable pub push_tallied : Reassembler → List ℕ → List ℕ → ℕ → After Reassembler
push_tallied r store f field =
    pick (ltb 0 (refusal_of r.state (length store))) (turned_away (refusal_of r.state (length store)) r store)
    (pick (not (field_ok field)) (turned_away 8 r store)
    (pick (is_full r.tallies) (turned_away 27 r store)
    (counted r.tallies (push_of r.state store f field))))

-- "Reset keeps the tallies"
abbrev pub reset_tallied : Reassembler → Reassembler
reset_tallied r = with (reset_of r.state) r.tallies
