-- `kept::Kept::show` meets its contract. The slots that were seen have flags that are 0 or 1.
-- Assumes nothing.
use borrow.Author.Rules.{rules}
use native.Mathlib.Omega.{arith}
use mathlib.Core.Path.{◌≡◌, refl, sym, ap, ap₂, ◌∙◌}
use mathlib.Core.List.{List}
use lib.ListN.{length, get_or, set}
use Rattle.kept.specs.declared.Kept.{Kept}
use Rattle.kept.specs.declared.Slot.{Slot}
use Rattle.kept.specs.Told.{to_slot}
use Rattle.kept.proofs.Flags.{firsts, firsts_at, firsts_set, firsts_all, slots_same}
use Rattle.kept.proofs.NoSlot.{no_slot}
use Rattle.kept.proofs.Kept.show.Goals as goal

pub loop-slot-init : goal.loop-slot-init
unfolding firsts
loop-slot-init c = refl

pub loop-slot-preserved : goal.loop-slot-preserved
loop-slot-preserved c =
    let old = c.args.self.now.slots in
    let i = c.loop-slot.slot-index in
    let e : length old ≡ 8 = search rules in
    let here : get_or c.loop-slot.slot-items i no_slot ≡ get_or old i no_slot = ap (λ (x : List Slot). get_or x i no_slot) c.loop-slot.invariant ∙ firsts_at to_slot i old no_slot in
    ap₂ (λ (x : List Slot) (y : Slot). set x i y) c.loop-slot.invariant (c.shown.ensures ∙ ap to_slot here) ∙ firsts_set to_slot i old no_slot (omega arith)

pub returns-after-loop-slot : goal.returns-after-loop-slot
returns-after-loop-slot c =
    let old = c.args.self.now.slots in
    let e : length old ≡ 8 = search rules in
    ap {A = List Slot} {B = Kept} (λ x. record { slots = x }) (c.loop-slot.invariant ∙ firsts_all to_slot c.loop-slot.slot-index old (omega arith))

pub returns-else-has_other_flag : goal.returns-else-has_other_flag
returns-else-has_other_flag c =
    ap {A = List Slot} {B = Kept} (λ x. record { slots = x })
    (sym (slots_same 0 c.args.self.now.slots (sym c.has_other_flag.ensures ∙ c.if-has_other_flag.false)))
