-- `kept::Kept::drop_name` meets its contract.
-- Assumes nothing.
use borrow.Author.Rules.{rules}
use native.Mathlib.Omega.{arith}
use lib.ListN.{length}
use Prim.Native.Nat.{ℕ}
use mathlib.Core.Path.{◌≡◌, sym, ap, ◌∙◌}
use mathlib.Core.List.{[]}
use Rattle.kept.specs.Keep.{dropped_at}
use Rattle.kept.specs.Told.{beside, to_dropped}
use Rattle.refusals.specs.Outcome.{Outcome, outcome_of}
use Rattle.receiver.specs.New.{fresh_of}
use Rattle.kept.proofs.Calls.{drop_is, drop_slot}
use Rattle.kept.proofs.Flags.{slot_kept}
use Rattle.kept.proofs.Keepings.{written}
use Rattle.kept.proofs.Kept.drop_name.Goals as goal

pub offset_bounds-keeping-place : goal.offset_bounds-keeping-place
offset_bounds-keeping-place c =
    let a = c.args in
    let e : length a.self.now.slots ≡ 8 = search rules in
    omega (arith, drop_slot a.self.now a.lent.now a.name.now c.lent_refusal-refusal.ensures c.find.ensures c.placed-placed.ensures _ (ap outcome_of c.in-Ok.is))

pub bounds-keeping-place : goal.bounds-keeping-place
bounds-keeping-place c =
    let a = c.args in
    let e : length a.self.now.slots ≡ 8 = search rules in
    omega (arith, drop_slot a.self.now a.lent.now a.name.now c.lent_refusal-refusal.ensures c.find.ensures c.placed-placed.ensures _ (ap outcome_of c.in-Ok.is))

pub returns-in-Ok : goal.returns-in-Ok
returns-in-Ok c =
    let a = c.args in
    let found = ap outcome_of c.in-Ok.is in
    written a.self.now c.answered-keeping.ensures found c.show.ensures c.free.ensures (slot_kept [] (fresh_of 0))
    ∙ ap (λ (x : Outcome ℕ). to_dropped (dropped_at x a.self.now)) (sym found)
    ∙ ap to_dropped (drop_is a.self.now a.lent.now a.name.now c.lent_refusal-refusal.ensures c.find.ensures c.placed-placed.ensures)

pub returns-in_default : goal.returns-in_default
returns-in_default c =
    let a = c.args in
    let found = ap outcome_of c.in_default.is in
    c.answered-keeping.ensures
    ∙ ap (λ (x : Outcome ℕ). beside x a.self.now) found
    ∙ ap (λ (x : Outcome ℕ). to_dropped (dropped_at x a.self.now)) (sym found)
    ∙ ap to_dropped (drop_is a.self.now a.lent.now a.name.now c.lent_refusal-refusal.ensures c.find.ensures c.placed-placed.ensures)
