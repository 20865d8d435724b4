-- `ax25::encode::put_digis` meets its contract.
-- Assumes nothing.
use mathlib.Core.Path.{◌≡◌, sym, ap, ◌∙◌}
use Prim.Native.Nat.{suc}
use native.Mathlib.Omega.{arith}
use native.Mathlib.Numerals.{add-one}
use Rattle.ax25_address.specs.Record.{alias_number}
use mathlib.Core.List.{map}
use borrow.Author.Tests.{not-true, not-false}
use Rattle.ax25_address.specs.Address.{addr_call}
use Rattle.ax25_address.specs.Parse.{fields_of}
use Rattle.ax25_address.proofs.AliasLaws.{digis_count}
use Rattle.ax25.proofs.CoderLaws.{alias_small, alias_bit, digis_none, digis_tokens, digis_aliased, digis_marked}
use borrow.Author.Rules.{rules}
use Rattle.ax25.proofs.encode.put_digis.Goals as goal

pub returns-then-n-eq0 : goal.returns-then-n-eq0
returns-then-n-eq0 c =
    let a = c.args in
    digis_none a.l a.ap (map (addr_call a.l) (fields_of a.l a.n a.f.now)) _ a.at (digis_count a.l a.n a.f.now ∙ c.if-n-eq0.true)

pub returns-then-not-ap : goal.returns-then-not-ap
returns-then-not-ap c =
    let a = c.args in
    let other = c.if-n-eq0.false in
    digis_tokens a.l (map (addr_call a.l) (fields_of a.l a.n a.f.now)) (λ e. other (sym (digis_count a.l a.n a.f.now) ∙ e)) a.ap _ a.at _
    (c.if-not-ap.true) _ c.put_tokens.ensures

pub overflow_add-i : goal.overflow_add-i
overflow_add-i c =
    let a = c.args in
    let e : alias_number a.alias ≡ suc c.in-Some.i = ap alias_number c.in-Some.is in
    omega (arith, e, c.requires.6, alias_small (map (addr_call a.l) (fields_of a.l a.n a.f.now)))

pub returns-in-Some : goal.returns-in-Some
returns-in-Some c =
    let a = c.args in
    let other = c.if-n-eq0.false in
    let e : alias_number a.alias ≡ suc c.in-Some.i = ap alias_number c.in-Some.is in
    digis_aliased a.l (map (addr_call a.l) (fields_of a.l a.n a.f.now)) (λ e. other (sym (digis_count a.l a.n a.f.now) ∙ e)) a.ap _ a.at _
    (alias_number a.alias) _ _ (c.if-not-ap.false) c.requires.6 (alias_bit a.alias (rw c.is_some.ensures at c.bit-p.ensures))
    (omega (arith, e)) (rw (e, ← add-one c.in-Some.i) c.push.ensures.wrote)

pub returns : goal.returns
returns c =
    let a = c.args in
    let other = c.if-n-eq0.false in
    let e : alias_number a.alias ≡ 0 = ap alias_number c.in_default.is in
    digis_marked a.l (map (addr_call a.l) (fields_of a.l a.n a.f.now)) (λ e. other (sym (digis_count a.l a.n a.f.now) ∙ e)) a.ap _ a.at _
    (alias_number a.alias) _ _ (c.if-not-ap.false) c.requires.6 (alias_bit a.alias (rw c.is_some.ensures at c.bit-p.ensures))
    (omega (arith, e)) _ c.put_tokens-2.ensures
