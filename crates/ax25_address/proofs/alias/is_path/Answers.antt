-- `ax25_address::alias::is_path` meets its contract: the first call by its text, the others by `are_alias`.
-- Assumes nothing.
use native.Mathlib.Omega.{arith}
use mathlib.Core.Path.{sym, ap, ap₂, ◌∙◌}
use mathlib.Core.List.{List, [], map}
use Prim.Native.Nat.{ℕ, ◌+◌, ◌-◌}
use lib.ListN.{get_or}
use Rattle.laws.specs.Text.{same}
use Rattle.laws.proofs.ListLaws.{from_place}
use Rattle.ax25_address.specs.Address.{addr_call}
use Rattle.ax25_address.specs.Parse.{fields_of, aliases, alias_calls, same_all}
use Rattle.ax25_address.proofs.AliasLaws.{alias_other, alias_next}
use Rattle.ax25_address.proofs.alias.is_path.Goals as goal

pub returns-else-same_call : goal.returns-else-same_call
returns-else-same_call c =
    let a = c.args in
    let r = c.same_call in
    let e = r.ensures ∙ ap₂ same c.requires.c_value.0 c.alias_call.ensures.0 in
    c.if-same_call.false ∙ alias_other a.l a.n a.i 1 a.f.now (λ z. omega (arith, c.requires.n_nonzero.0)) (sym e ∙ c.if-same_call.false)

pub returns-then-same_call : goal.returns-then-same_call
returns-then-same_call c =
    let a = c.args in
    let r = c.same_call in
    let e = r.ensures ∙ ap₂ same c.requires.c_value.0 c.alias_call.ensures.0 in
    c.are_alias.ensures
    ∙ ap (λ (s : List ℕ). same_all (map (addr_call a.l) (fields_of a.l (a.n - 1) s)) (alias_calls (get_or aliases a.i []) 2 (a.n - 1))) (from_place a.f.now (a.l + 1))
    ∙ alias_next a.l a.n a.i 1 a.f.now (λ z. omega (arith, c.requires.n_nonzero.0)) (sym e ∙ c.if-same_call.true)
