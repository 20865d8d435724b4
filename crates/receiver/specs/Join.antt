-- The receiver without its tallies: document 01, "kiss.rs, receiver". What it does with a fragment, by the rules in order.
-- Assumes nothing.
use Rattle.std.specs.Prelude.{Bool, false, ◌||◌, not, Option, None, Some, Result, Ok, Err, List, ℕ, ◌+◌, ◌-◌, length, get_or, take, drop, set, ltb, leb, eqb}
use Rattle.std.specs.Int.Bits.{bit_and}
use Rattle.std.proofs.lemmas.List.Edits.{sets}
use Rattle.laws.specs.Pick.{pick}
use Rattle.crc.specs.Crc.{crc_bits}
use Rattle.refusals.specs.Limits.{mask_ok}
use Rattle.refusals.specs.Outcome.{number}
use Rattle.refusals.specs.declared.Refusal.{Refusal}
use Rattle.receiver.specs.declared.Joiner.{Joiner}
use Rattle.receiver.specs.declared.Joined.{Joined}
use Rattle.receiver.specs.declared.Cause.{Cause}
use Rattle.receiver.specs.declared.Cause.TheVariants.{NoFragment, Overflow, Limit, Check}
use Rattle.receiver.specs.declared.Push.{Push}
use Rattle.receiver.specs.declared.Push.TheVariants.{Dropped, More, Done}

-- ---- answers

-- "An answer is a refusal number, Dropped, More, or Done with its length and that many first bytes of the store." Dropped has
-- its cause: document 02, E12
pub data Heard : Type 0 where
  refused : ℕ → Heard
  dropped : Cause → Heard
  more : Heard
  done : ℕ → List ℕ → Heard

-- document 01's values for each case of `Push`, with the store as the call leaves it
abbrev pub told_of : Push → List ℕ → Heard
told_of (Dropped c) store = dropped c
told_of More store = more
told_of (Done n) store = done n (take n store)

-- the same, or document 01's number of a refusal
abbrev pub heard_of : Result Push Refusal → List ℕ → Heard
heard_of (Err e) store = refused (number e)
heard_of (Ok a) store = told_of a store

-- what a call answers, and the receiver and the store that it leaves; the receiver is of type R, without or with its tallies
pub record After (R : Type 0) : Type 0 where
  pub heard : Heard
  pub receiver : R
  pub store : List ℕ

-- an answer, with the receiver and the store that are left
abbrev pub answered : {R : Type 0} → Push → R → List ℕ → After R
answered a r store = record { heard = told_of a store; receiver = r; store = store }

-- the number of a refusal, with the receiver and the store as they were
abbrev pub turned_away : {R : Type 0} → ℕ → R → List ℕ → After R
turned_away n r store = record { heard = refused n; receiver = r; store = store }

-- what a call returned, with the store as it leaves it
abbrev pub joined_after : Joined → List ℕ → After Joiner
joined_after j store = answered j.answer j.state store

-- ---- reset

-- nothing held, fragments 0, and an overflow or none; "check byte and mask are kept"
abbrev pub emptied : Joiner → Bool → Joiner
emptied r overflow = record { held = 0; nfrag = 0; count = r.count; crc_mask = r.crc_mask; overflow = overflow }

-- "Reset: nothing held, fragments 0, no overflow"
abbrev pub reset_of : Joiner → Joiner
reset_of r = emptied r false

-- ---- the last fragment

-- "nothing is held from here on"
abbrev pub ended : Joiner → Joiner
ended r = record { held = 0; nfrag = r.nfrag; count = r.count; crc_mask = r.crc_mask; overflow = r.overflow }

-- "Last: its first byte replaces the held first; with two or more fragments the CRC under the mask must match the check byte, else
-- Dropped; Done(length), the message first in the store. One fragment is never checked."
unfoldable pub finish_of : Joiner → List ℕ → ℕ → After Joiner
finish_of r store first =
    pick (ltb r.nfrag 2)
    (answered (Done r.held) (ended r) (set store 0 first))
    (pick (eqb (crc_bits (take r.held (set store 0 first)) r.crc_mask) (bit_and r.count r.crc_mask))
    (answered (Done r.held) (ended r) (set store 0 first))
    (answered (Dropped Check) (ended r) (set store 0 first)))

-- ---- a tail

-- how many bytes stand before the tail: what is held, or the first byte
abbrev pub base_of : ℕ → ℕ
base_of held = pick (eqb held 0) 1 held

-- "first byte held", where nothing was
abbrev pub headed : ℕ → List ℕ → ℕ → List ℕ
headed held store first = pick (eqb held 0) (set store 0 first) store

-- "append and count"
abbrev pub grown : Joiner → ℕ → Joiner
grown r n = record { held = base_of r.held + n; nfrag = r.nfrag + 1; count = r.count; crc_mask = r.crc_mask; overflow = false }

-- "Held plus tail over 5,000, or 255 fragments already: Dropped, nothing held, fragments 0, overflow becomes More, store unchanged. Else
-- append and count. More: answer More."
unfoldable pub grow_of : Joiner → List ℕ → ℕ → List ℕ → After Joiner
grow_of r store first tail =
    pick (ltb 5000 (base_of r.held + length tail) || leb 255 r.nfrag)
    (answered (Dropped Limit) (emptied r (leb 0x80 first)) store)
    (pick (leb 0x80 first)
    (answered More (grown r (length tail)) (sets (headed r.held store first) (base_of r.held) tail))
    (finish_of (grown r (length tail)) (sets (headed r.held store first) (base_of r.held) tail) first))

-- ---- a fragment

-- "fragments 0", with a check byte
abbrev pub started : Joiner → ℕ → Joiner
started r check = record { held = 0; nfrag = 0; count = check; crc_mask = r.crc_mask; overflow = false }

-- the n first bytes of f, n not 0 and not beyond f. "'More' is bit 80 of its first byte. In overflow: Dropped, overflow becomes More.
-- Nothing held: if More, the check byte is f's second byte even if n = 1 (no second byte: Dropped, no change) and the tail starts at 2,
-- else at 1. Otherwise the tail starts at 1."
unfoldable pub accept_of : Joiner → List ℕ → List ℕ → ℕ → After Joiner
accept_of r store f n =
    pick r.overflow
    (answered (Dropped Overflow) (record { held = r.held; nfrag = r.nfrag; count = r.count; crc_mask = r.crc_mask; overflow = leb 0x80 (get_or f 0 0) }) store)
    (pick (eqb r.held 0)
    (pick (leb 0x80 (get_or f 0 0))
    (pick (ltb (length f) 2)
    (answered (Dropped NoFragment) r store)
    (grow_of (started r (get_or f 1 0)) store (get_or f 0 0) (take (n - 2) (drop 2 f))))
    (grow_of (started r r.count) store (get_or f 0 0) (take (n - 1) (drop 1 f))))
    (grow_of r store (get_or f 0 0) (take (n - 1) (drop 1 f))))

-- ---- the answer of `join`

-- the number of a refusal, 0 for none
abbrev pub code_of : Option Refusal → ℕ
code_of None = 0
code_of (Some e) = number e

-- the first refusal of a state with a store of so many bytes, 0 where there is none. 17: "store not 5,000 bytes, or state with held over
-- 5,000 or fragments over 255"; then 9
unfoldable pub refusal_of : Joiner → ℕ → ℕ
refusal_of r size =
    pick (not (eqb size 5000) || (ltb 5000 r.held || ltb 255 r.nfrag)) 17
    (pick (mask_ok r.crc_mask) 0 9)

-- 17, 9; "n = 0 or beyond f: Dropped, no change"; else the fragment
unfoldable pub join_of : Joiner → List ℕ → List ℕ → ℕ → After Joiner
join_of r store f n =
    pick (ltb 0 (refusal_of r (length store))) (turned_away (refusal_of r (length store)) r store)
    (pick (eqb n 0 || ltb (length f) n) (answered (Dropped NoFragment) r store)
    (accept_of r store f n))
