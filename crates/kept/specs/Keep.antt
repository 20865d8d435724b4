-- Leaving a channel and coming back: document 02, E8. Receiver states kept under names, their stores in 40,000 lent bytes.
-- Assumes nothing.
use Rattle.std.specs.Prelude.{Bool, ◌&&◌, List, [], ◌∷◌, ℕ, suc, ◌*◌, max, length, take, drop, set, replicate, get_or, ltb, leb, eqb}
use Rattle.std.specs.Prelude.{Option, None, Some}
use Rattle.std.proofs.lemmas.List.Edits.{sets}
use Rattle.laws.specs.Pick.{pick}
use Rattle.laws.specs.Text.{same}
use Rattle.refusals.specs.Outcome.{Outcome, refused, answer}
use Rattle.receiver.specs.Join.{refusal_of}
use Rattle.receiver.specs.New.{fresh_of}
use Rattle.receiver.specs.Stored.{receiver_of, stored_of}
use Rattle.receiver.specs.declared.Reassembler.{Reassembler}
use Rattle.kept.specs.declared.Slot.{Slot}
use Rattle.kept.specs.declared.Kept.{Kept}

-- ---- names and slots

-- "names of 1 to 8 bytes"
abbrev pub name_ok : ℕ → Bool
name_ok n = leb 1 n && leb n 8

-- the name in a slot. A slot whose name has another length is free, whatever else it holds, and has no name
abbrev pub name_in : Slot → List ℕ
name_in s = pick (name_ok s.len) (take s.len s.name) []

-- a slot that has this name; for no name, a slot that is free
unfoldable pub is_under : List ℕ → Slot → Bool
is_under name s = same name (name_in s)

-- a free slot
abbrev pub is_free : Slot → Bool
is_free s = is_under [] s

-- the first place of what passes a test, where the first element stands at i
unfoldable pub first_from : {A : Type 0} → (A → Bool) → ℕ → List A → Option ℕ
first_from p i [] = None
first_from p i (x ∷ xs) = pick (p x) (Some i) (first_from p (suc i) xs)

-- the first slot under a name
abbrev pub place_under : List ℕ → List Slot → Option ℕ
place_under name ss = first_from (is_under name) 0 ss

-- the first place, and the second where there is no first
abbrev pub or_else : {A : Type 0} → Option A → Option A → Option A
or_else (Some i) other = Some i
or_else None other = other

-- "Keeping under a known name replaces it in its place", a new one goes to the first slot that is free
abbrev pub place_for : List ℕ → List Slot → Option ℕ
place_for name ss = or_else (place_under name ss) (first_from is_free 0 ss)

-- a state under a name, which stands in eight bytes with zeros after it
abbrev pub slot_of : List ℕ → Reassembler → Slot
slot_of name r = record { len = length name; name = sets (replicate 8 0) 0 name; receiver = stored_of r }

-- a free slot of zeros
abbrev pub free_slot : Slot
free_slot = slot_of [] (fresh_of 0)

-- "up to eight receiver states": none
abbrev pub none_kept : Kept
none_kept = record { slots = replicate 8 free_slot }

-- another slot at a place
abbrev pub with_slot : Kept → ℕ → Slot → Kept
with_slot k i s = record { slots = set k.slots i s }

-- where the 5,000 lent bytes of slot i start
abbrev pub start_of : ℕ → ℕ
start_of i = i * 5000

-- the 5,000 lent bytes of slot i
abbrev pub part_of : List ℕ → ℕ → List ℕ
part_of lent i = take 5000 (drop (start_of i) lent)

-- ---- the checks

-- 17 where there are not as many bytes as there are to be, else 0
abbrev pub size_refusal : ℕ → ℕ → ℕ
size_refusal len size = pick (eqb len size) 0 17

-- the refusal of the state in a slot, 17 or 9, 0 for none. What a free slot holds is not looked at
unfoldable pub refusal_in : Slot → ℕ
refusal_in s = pick (name_ok s.len) (refusal_of (receiver_of s.receiver).state 5000) 0

-- "17 .., then 9, for each state .. kept": 17 of any comes before 9 of any, and 0 is none, so it is the largest number
unfoldable pub kept_refusal : List Slot → ℕ
kept_refusal [] = 0
kept_refusal (s ∷ ss) = max (refusal_in s) (kept_refusal ss)

-- "17, also when the lent bytes are not 40,000"
unfoldable pub lent_refusal : Kept → ℕ → ℕ
lent_refusal k lent = max (size_refusal lent 40000) (kept_refusal k.slots)

-- a place, or a refusal where there is none
abbrev pub place_or : ℕ → Option ℕ → Outcome ℕ
place_or n None = refused n
place_or n (Some i) = answer i

-- the place of a name of so many bytes, after the checks in order: 17 and 9, "then 20 for a name of another length", then n where it has none
unfoldable pub placed : ℕ → ℕ → ℕ → Option ℕ → Outcome ℕ
placed code len n place = pick (ltb 0 code) (refused code) (pick (name_ok len) (place_or n place) (refused 20))

-- ---- keep

-- what a keep answers, and the kept states and the lent bytes that it leaves
pub record KeepLeft : Type 0 where
  pub outcome : Outcome ℕ
  pub kept : Kept
  pub lent : List ℕ

-- "Keeping copies the whole store" into the 5,000 lent bytes of the slot
abbrev pub kept_at : Outcome ℕ → Kept → Reassembler → List ℕ → List ℕ → List ℕ → KeepLeft
kept_at (refused n) k r store lent name = record { outcome = refused n; kept = k; lent = lent }
kept_at (answer i) k r store lent name =
    record { outcome = answer i; kept = with_slot k i (slot_of name r); lent = sets lent (start_of i) store }

-- the place that a name goes to, for a store and lent bytes of so many bytes. 17 and 9 of the state that is handed in, of its store, of the lent
-- bytes and of each state that is kept; 20; "then 21 for a new name when eight are kept"
abbrev pub keep_place : Kept → Reassembler → ℕ → ℕ → List ℕ → Outcome ℕ
keep_place k r store lent name = placed (max (refusal_of r.state store) (lent_refusal k lent)) (length name) 21 (place_for name k.slots)

-- the answer of `keep`, and what it leaves
unfoldable pub keep_of : Kept → Reassembler → List ℕ → List ℕ → List ℕ → KeepLeft
keep_of k r store lent name = kept_at (keep_place k r (length store) (length lent) name) k r store lent name

-- ---- return

-- what a return answers, and the store that it leaves
pub record ReturnLeft : Type 0 where
  pub outcome : Outcome Reassembler
  pub store : List ℕ

-- "a return copies it back, and the name stays kept"
abbrev pub returned_at : Outcome ℕ → Kept → List ℕ → List ℕ → ReturnLeft
returned_at (refused n) k store lent = record { outcome = refused n; store = store }
returned_at (answer i) k store lent = record { outcome = answer (receiver_of (get_or k.slots i free_slot).receiver); store = part_of lent i }

-- the place of a name that is returned to. 17 and 9 of the store, of the lent bytes and of each state that is kept; "20 for a name of another
-- length, or for one not kept"
abbrev pub return_place : Kept → ℕ → ℕ → List ℕ → Outcome ℕ
return_place k store lent name = placed (max (size_refusal store 5000) (lent_refusal k lent)) (length name) 20 (place_under name k.slots)

-- the answer of `return_to`, and what it leaves
unfoldable pub return_of : Kept → List ℕ → List ℕ → List ℕ → ReturnLeft
return_of k store lent name = returned_at (return_place k (length store) (length lent) name) k store lent

-- ---- drop

-- what a drop answers, and the kept states that it leaves
pub record DropLeft : Type 0 where
  pub outcome : Outcome ℕ
  pub kept : Kept

-- "dropping a name makes it free and writes no lent byte"
abbrev pub dropped_at : Outcome ℕ → Kept → DropLeft
dropped_at (refused n) k = record { outcome = refused n; kept = k }
dropped_at (answer i) k = record { outcome = answer i; kept = with_slot k i free_slot }

-- the place of a name that is dropped. 17 and 9 of the lent bytes and of each state that is kept; 20
abbrev pub drop_place : Kept → ℕ → List ℕ → Outcome ℕ
drop_place k lent name = placed (lent_refusal k lent) (length name) 20 (place_under name k.slots)

-- the answer of `drop_name`, and what it leaves
unfoldable pub drop_of : Kept → List ℕ → List ℕ → DropLeft
drop_of k lent name = dropped_at (drop_place k (length lent) name) k
