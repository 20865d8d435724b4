-- `ax25_address::parse::digi_fields` meets its contract. The invariant: those that are left, with the n that were passed, are all.
-- Assumes nothing.
use native.Mathlib.Omega.{arith}
use mathlib.Core.Path.{◌≡◌, sym, ap, ◌∙◌}
use Prim.Native.Nat.{ℕ, ◌-◌, ◌%◌}
use lib.ListN.{get_or}
use Rattle.ax25_address.proofs.DigiLaws.{end_of, end_next, digis_eight, digis_last, digis_short, digis_next}
use Rattle.ax25_address.proofs.parse.digi_fields.Goals as goal

pub returns-then-frame-pos-eq1 : goal.returns-then-frame-pos-eq1
returns-then-frame-pos-eq1 c =
    let a = c.args in
    let pos = c.addr_end-pos.ensures in
    let last = sym (ap (λ (p : ℕ). get_or a.frame.now (p - 1) 0 % 2) pos) ∙ c.if-frame-pos-eq1.true in
    sym (digis_last a.l c.loop-n.n a.frame.now c.loop-n-test.true last) ∙ c.loop-n.invariant.1

pub returns-then-frame-pos : goal.returns-then-frame-pos
returns-then-frame-pos c =
    let a = c.args in
    let pos = c.addr_end-pos.ensures in
    let other : get_or a.frame.now (end_of a.l c.loop-n.n - 1) 0 % 2 ≡ 1 → ⊥ = λ e. c.if-frame-pos-eq1.false (ap (λ (p : ℕ). get_or a.frame.now (p - 1) 0 % 2) pos ∙ e) in
    sym (digis_short a.l c.loop-n.n a.frame.now c.loop-n-test.true other (omega (arith, pos, c.if-frame-pos.true))) ∙ c.loop-n.invariant.1

pub loop-n-preserved : goal.loop-n-preserved
loop-n-preserved c =
    let a = c.args in
    let n = c.loop-n.n in
    let pos = c.addr_end-pos.ensures in
    let other : get_or a.frame.now (end_of a.l c.loop-n.n - 1) 0 % 2 ≡ 1 → ⊥ = λ e. c.if-frame-pos-eq1.false (ap (λ (p : ℕ). get_or a.frame.now (p - 1) 0 % 2) pos ∙ e) in (
      omega (arith, pos, c.if-frame-pos.false, end_next a.l n),
      sym (digis_next a.l n a.frame.now c.loop-n-test.true other (omega (arith, pos, c.if-frame-pos.false))) ∙ c.loop-n.invariant.1,
    )

pub returns : goal.returns
returns c =
    let a = c.args in
    let n : c.loop-n.n ≡ 8 = omega arith in
    rw n at (sym (digis_eight a.l c.loop-n.n a.frame.now (omega arith)) ∙ c.loop-n.invariant.1)
