-- Kept states (02, E8): places of names and refusals as tables that hold of the definitions as a whole.
-- Assumes nothing.
use mathlib.Core.Path.{◌≡◌, refl}
use mathlib.Core.Bool.{false}
use mathlib.Core.List.{List, [], ◌∷◌, ◌++◌}
use Rattle.std.proofs.Common.{Option, None, Some}
use Prim.Native.Nat.{ℕ}
use lib.ListN.{replicate}
use Rattle.laws.specs.Bits.{num}
use Rattle.laws.specs.Pick.{pick}
use Rattle.laws.specs.Text.{same, ascii}
use Rattle.refusals.specs.Limits.{top_of}
use Rattle.refusals.specs.Outcome.{Outcome, refused, answer}
use Rattle.receiver.specs.Join.{refusal_of}
use Rattle.receiver.specs.New.{no_tallies, fresh_of}
use Rattle.receiver.specs.declared.Reassembler.{Reassembler}
use Rattle.kept.specs.Keep.{is_under, first_from, place_under, place_for, slot_of, free_slot, none_kept, with_slot, refusal_in, kept_refusal, lent_refusal, placed, keep_place, return_place, drop_place}
use Rattle.kept.specs.declared.Kept.{Kept}
use Rattle.kept.specs.declared.Slot.{Slot}

-- ---- places

fine : Reassembler
fine = fresh_of 0xF0

-- "K1A" in slot 0 and "B" in slot 2; the others are free
two : Kept
two = with_slot (with_slot none_kept 0 (slot_of (ascii "K1A") fine)) 2 (slot_of (ascii "B") fine)

-- a slot that a caller makes up: eight bytes, of which so many are the name
made : ℕ → List ℕ → Slot
made n eight = record { len = n; name = eight; receiver = free_slot.receiver }

-- "B" twice, then a name of nine bytes and one of eight
odd : Kept
odd =
    with_slot (with_slot (with_slot (with_slot none_kept 1 (made 1 (ascii "Bxxxxxxx"))) 2 (slot_of (ascii "B") fine)) 0 (made 9 (ascii "12345678")))
    3 (made 8 (ascii "12345678"))

-- eight names
eight : Kept
eight = record { slots = slot_of (ascii "B") fine ∷ replicate 7 (slot_of (ascii "C") fine) }

-- a name with the slot that has it, and the slot that it goes to
pub record Row : Type 0 where
  pub kept : Kept
  pub name : List ℕ
  pub under : Option ℕ
  pub goes : Option ℕ

abbrev row : Kept → List ℕ → Option ℕ → Option ℕ → Row
row k name under goes = record { kept = k; name = name; under = under; goes = goes }

pub places : List Row
places =
    row none_kept (ascii "B") None (Some 0)
    ∷ row two (ascii "K1A") (Some 0) (Some 0)
    ∷ row two (ascii "B") (Some 2) (Some 2)
    ∷ row two (ascii "K1") None (Some 1)
    ∷ row two (ascii "K1AB") None (Some 1)
    ∷ row two (ascii "K1A" ++ (0 ∷ [])) None (Some 1)
    ∷ row odd (ascii "B") (Some 1) (Some 1)
    ∷ row odd (ascii "Bx") None (Some 0)
    ∷ row odd (ascii "12345678") (Some 3) (Some 3)
    ∷ row odd (ascii "1234567") None (Some 0)
    ∷ row eight (ascii "C") (Some 1) (Some 1)
    ∷ row eight (ascii "D") None None
    ∷ []

-- what the definitions say of the same names
pub found : List Row → List Row
found [] = []
found (r ∷ rs) = row r.kept r.name (place_under r.name r.kept.slots) (place_for r.name r.kept.slots) ∷ found rs

pub places_hold : found places ≡ places
unfolding found places fine two made odd eight is_under first_from same pick num
places_hold = refl

-- ---- refusals

-- a state that holds so many bytes in so many fragments under a mask
state : ℕ → ℕ → ℕ → Reassembler
state held n mask = record { state = record { held = held; nfrag = n; count = 0; crc_mask = mask; overflow = false }; tallies = no_tallies }

-- one kept state more, in slot 7, under a name of any length
with_seven : List ℕ → Reassembler → Kept
with_seven name r = with_slot two 7 (slot_of name r)

-- the place that each call answers, or its refusal
pub answers : List (Outcome ℕ)
answers =
    keep_place two fine 5000 40000 (ascii "K1A")
    ∷ keep_place two fine 5000 40000 (ascii "new")
    ∷ keep_place eight fine 5000 40000 (ascii "new")
    ∷ keep_place eight fine 5000 40000 (ascii "C")
    ∷ keep_place eight fine 5000 40000 []
    ∷ keep_place eight fine 5000 40000 (ascii "123456789")
    ∷ keep_place two fine 4999 40000 (ascii "B")
    ∷ keep_place two fine 5001 40000 (ascii "B")
    ∷ keep_place two fine 5000 39999 (ascii "B")
    ∷ keep_place two fine 5000 40001 (ascii "B")
    ∷ keep_place two (state 5000 255 0xF0) 5000 40000 (ascii "B")
    ∷ keep_place two (state 5001 0 0xF0) 5000 40000 (ascii "B")
    ∷ keep_place two (state 0 256 0xF1) 5000 40000 (ascii "B")
    ∷ keep_place two (state 0 0 0xF1) 5000 40000 []
    ∷ keep_place (with_seven (ascii "D") (state 0 256 0xF0)) (state 0 0 0xF1) 5000 40000 (ascii "B")
    ∷ keep_place (with_seven (ascii "D") (state 0 0 0x00)) fine 5000 40000 []
    ∷ keep_place (with_seven (ascii "D") (state 0 0 0x00)) (state 5001 0 0xF0) 5000 40000 []
    ∷ keep_place (with_seven [] (state 5001 256 0xF1)) fine 5000 40000 (ascii "B")
    ∷ return_place two 5000 40000 (ascii "B")
    ∷ return_place two 5000 40000 (ascii "C")
    ∷ return_place two 5000 40000 []
    ∷ return_place two 4999 40000 []
    ∷ return_place two 5000 39999 (ascii "B")
    ∷ return_place (with_seven (ascii "D") (state 0 0 0x00)) 5000 40000 (ascii "B")
    ∷ return_place (with_seven (ascii "D") (state 0 0 0x00)) 5000 39999 (ascii "B")
    ∷ drop_place two 40000 (ascii "B")
    ∷ drop_place two 40000 (ascii "123456789")
    ∷ drop_place two 40001 (ascii "B")
    ∷ drop_place (with_seven (ascii "D") (state 0 0 0x00)) 40000 []
    ∷ []

pub answers_hold :
    answers
    ≡ answer 0
    ∷ answer 1
    ∷ refused 21
    ∷ answer 1
    ∷ refused 20
    ∷ refused 20
    ∷ refused 17
    ∷ refused 17
    ∷ refused 17
    ∷ refused 17
    ∷ answer 2
    ∷ refused 17
    ∷ refused 17
    ∷ refused 9
    ∷ refused 17
    ∷ refused 9
    ∷ refused 17
    ∷ answer 2
    ∷ answer 2
    ∷ refused 20
    ∷ refused 20
    ∷ refused 17
    ∷ refused 17
    ∷ refused 9
    ∷ refused 17
    ∷ answer 2
    ∷ refused 20
    ∷ refused 17
    ∷ refused 9
    ∷ []
unfolding answers with_seven state fine two eight is_under first_from refusal_in kept_refusal lent_refusal placed refusal_of top_of same pick num
answers_hold = refl
