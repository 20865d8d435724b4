-- `Joiner::accept` meets its contract: each way out is a case of the definition.
-- Assumes nothing.
use mathlib.Core.Path.{◌≡◌, sym, ◌∙◌}
use Prim.Native.Nat.{◌-◌}
use native.Mathlib.Omega.{arith}
use Rattle.receiver.proofs.JoinLaws.{accept_over, accept_short, accept_first, accept_only, accept_next}
use Rattle.receiver.proofs.Joiner.accept.Goals as goal

pub returns-then-self : goal.returns-then-self
returns-then-self c = sym (accept_over _ _ _ _ c.if-self.true)

pub returns-then-self-ne0 : goal.returns-then-self-ne0
returns-then-self-ne0 c =
    c.grow.ensures
    ∙ sym (accept_next _ _ _ _ c.if-self.false c.if-self-ne0.true)

pub returns-then-first-lt128 : goal.returns-then-first-lt128
returns-then-first-lt128 c =
    c.grow-then-first-lt128.ensures
    ∙ rw c.reset-begun.ensures
    (sym (accept_only _ _ _ _ c.if-self.false c.if-self-ne0.false c.if-first-lt128.true))

pub returns-then-f-lt2 : goal.returns-then-f-lt2
returns-then-f-lt2 c = sym (accept_short _ _ _ _ c.if-self.false c.if-self-ne0.false c.if-first-lt128.false c.if-f-lt2.true)

pub returns : goal.returns
returns c =
    let n = c.args.n in
    let e : c.max.result - 2 ≡ n - 2 = omega (arith, c.max.ensures) in
    c.grow-2.ensures
    ∙ rw (e, c.reset-begun.ensures)
    (sym (accept_first _ _ _ _ c.if-self.false c.if-self-ne0.false c.if-first-lt128.false c.if-f-lt2.false))
