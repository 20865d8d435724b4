-- `kept::Kept::keep` meets its contract.
-- Assumes nothing.
use borrow.Author.Rules.{rules}
use native.Mathlib.Omega.{arith}
use mathlib.Core.Path.{◌≡◌, sym, ap, ap₂, ◌∙◌}
use mathlib.Core.List.{List}
use Rattle.kept.specs.Keep.{kept_at}
use Rattle.kept.specs.Told.{beside, to_keeping_with}
use Prim.Native.Nat.{ℕ, max}
use lib.ListN.{length}
use Rattle.refusals.specs.Outcome.{Outcome, outcome_of}
use Rattle.kept.specs.declared.Keeping.{Keeping}
use Rattle.kept.proofs.Calls.{keep_is, keep_fits, keep_name}
use Rattle.kept.proofs.Flags.{slot_kept}
use Rattle.kept.proofs.Keepings.{written}
use Rattle.kept.proofs.Kept.keep.Goals as goal

pub named-requires : goal.named-requires
named-requires c =
    let a = c.args in
    let checked = c.larger-refusal.ensures ∙ ap₂ max c.refusal.ensures c.lent_refusal-others.ensures in
    keep_name a.self.now a.receiver a.store.now a.lent.now a.name.now checked c.place_for.ensures c.placed-placed.ensures _ (ap outcome_of c.in-Ok.is)

pub offset_bounds-keeping-place : goal.offset_bounds-keeping-place
offset_bounds-keeping-place c =
    let a = c.args in
    let checked = c.larger-refusal.ensures ∙ ap₂ max c.refusal.ensures c.lent_refusal-others.ensures in
    let e : length a.self.now.slots ≡ 8 = search rules in
    omega (arith, (keep_fits a.self.now a.receiver a.store.now a.lent.now a.name.now checked c.place_for.ensures c.placed-placed.ensures _ (ap outcome_of c.in-Ok.is)).slot)

pub bounds-keeping-place : goal.bounds-keeping-place
bounds-keeping-place c =
    let a = c.args in
    let checked = c.larger-refusal.ensures ∙ ap₂ max c.refusal.ensures c.lent_refusal-others.ensures in
    let e : length a.self.now.slots ≡ 8 = search rules in
    omega (arith, (keep_fits a.self.now a.receiver a.store.now a.lent.now a.name.now checked c.place_for.ensures c.placed-placed.ensures _ (ap outcome_of c.in-Ok.is)).slot)

pub copy_in-requires : goal.copy_in-requires
copy_in-requires c =
    let a = c.args in
    let checked = c.larger-refusal.ensures ∙ ap₂ max c.refusal.ensures c.lent_refusal-others.ensures in
    let e : length a.self.now.slots ≡ 8 = search rules in
    let fits = keep_fits a.self.now a.receiver a.store.now a.lent.now a.name.now checked c.place_for.ensures c.placed-placed.ensures _ (ap outcome_of c.in-Ok.is) in
    (omega (arith, fits.slot), fits.lent, fits.store)

pub returns-in-Ok : goal.returns-in-Ok
returns-in-Ok c =
    let a = c.args in
    let checked = c.larger-refusal.ensures ∙ ap₂ max c.refusal.ensures c.lent_refusal-others.ensures in
    let found = ap outcome_of c.in-Ok.is in
    ap₂ {A = Keeping} {B = List ℕ} {C = Keeping × List ℕ} (λ x y. (x, y))
    (written a.self.now c.answered-keeping.ensures found c.show.ensures c.named.ensures (slot_kept a.name.now a.receiver)) c.copy_in.ensures
    ∙ ap (λ (x : Outcome ℕ). to_keeping_with (kept_at x a.self.now a.receiver a.store.now a.lent.now a.name.now)) (sym found)
    ∙ ap to_keeping_with (keep_is a.self.now a.receiver a.store.now a.lent.now a.name.now checked c.place_for.ensures c.placed-placed.ensures)

pub returns-in_default : goal.returns-in_default
returns-in_default c =
    let a = c.args in
    let checked = c.larger-refusal.ensures ∙ ap₂ max c.refusal.ensures c.lent_refusal-others.ensures in
    let found = ap outcome_of c.in_default.is in
    ap {A = Keeping} {B = Keeping × List ℕ} (λ x. (x, a.lent.now)) (c.answered-keeping.ensures ∙ ap (λ (x : Outcome ℕ). beside x a.self.now) found)
    ∙ ap (λ (x : Outcome ℕ). to_keeping_with (kept_at x a.self.now a.receiver a.store.now a.lent.now a.name.now)) (sym found)
    ∙ ap to_keeping_with (keep_is a.self.now a.receiver a.store.now a.lent.now a.name.now checked c.place_for.ensures c.placed-placed.ensures)
