-- `ax25_token::encode::put_letters` meets its contract. The invariant: what codes the letters that are left, from here, codes all of them.
-- Assumes nothing.
use borrow.Author.Rules.{rules}
use mathlib.Core.Path.{sym, ap, ◌∙◌}
use native.Mathlib.Omega.{arith}
use Rattle.ax25_token.specs.Tables.{alpha_of}
use Rattle.ax25_token.proofs.PutLaws.{drop_end, drop_bad, drop_more}
use Rattle.ax25_token.proofs.encode.put_letters.Goals as goal

pub returns-in_err-v : goal.returns-in_err-v
returns-in_err-v c =
    let code = sym (c.alpha.ensures ∙ ap alpha_of c.cased.ensures) ∙ c.in_err-v.was in
    rw c.from_residual.ensures (c.loop-x.invariant.1 _ _ (drop_bad _ _ c.loop-x.x-index _ _ (omega arith) code _))

pub loop-x-preserved : goal.loop-x-preserved
loop-x-preserved c =
    let push = c.push-p in
    let code = sym (c.alpha.ensures ∙ ap alpha_of c.cased.ensures) ∙ c.in_ok-v.was in (
      search rules,
      λ d r h. c.loop-x.invariant.1 d r (drop_more _ _ c.loop-x.x-index _ _ (omega arith) _ code _ _ push.ensures.wrote d r h),
    )

pub returns : goal.returns
returns c = c.loop-x.invariant.1 _ _ (drop_end _ _ c.loop-x.x-index _ _ c.loop-x-test.false)
