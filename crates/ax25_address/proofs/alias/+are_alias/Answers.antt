-- The proof of the cycle of calls {are_alias}. The measure is how many fields there are.
-- Assumes nothing.
use mathlib.Core.Path.{sym, ap, ◌∙◌}
use mathlib.Core.List.{List, [], map}
use Prim.Native.Nat.{ℕ, ◌+◌, ◌-◌}
use lib.ListN.{get_or}
use borrow.Author.Tests.{eq-eqb}
use Rattle.laws.proofs.ListLaws.{from_place}
use Rattle.ax25_address.specs.Address.{addr_call}
use Rattle.ax25_address.specs.Parse.{fields_of, aliases, alias_calls, same_all}
use Rattle.ax25_address.proofs.AliasLaws.{alias_all, alias_other, alias_next}
use Rattle.ax25_address.proofs.alias.+are_alias.Goals as goal

pub returns-then-n-eq0 : goal.returns-then-n-eq0
returns-then-n-eq0 t c =
    let a = c.args in
    eq-eqb _ _ c.if-n-eq0.true ∙ alias_all a.l a.n a.i a.k a.f.now c.if-n-eq0.true

pub returns-then-is_alias : goal.returns-then-is_alias
returns-then-is_alias t c =
    let a = c.args in
    c.are_alias.ensures
    ∙ ap (λ (s : List ℕ). same_all (map (addr_call a.l) (fields_of a.l (a.n - 1) s)) (alias_calls (get_or aliases a.i []) (a.k + 1) (a.n - 1))) (from_place a.f.now (a.l + 1))
    ∙ alias_next a.l a.n a.i a.k a.f.now c.if-n-eq0.false (sym c.is_alias.ensures ∙ c.if-is_alias.true)

pub returns-else-is_alias : goal.returns-else-is_alias
returns-else-is_alias t c =
    let a = c.args in
    c.if-is_alias.false ∙ alias_other a.l a.n a.i a.k a.f.now c.if-n-eq0.false (sym c.is_alias.ensures ∙ c.if-is_alias.false)
