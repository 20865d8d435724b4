-- `kiss::generic::generic_encode` meets its contract.
-- Assumes nothing.
use borrow.Author.Rules.{rules}
use native.Mathlib.Omega.{arith}
use mathlib.Core.Path.{sym, ◌∙◌}
use Rattle.kiss.proofs.GenericLaws.{high_wrote, low_wrote}
use Rattle.kiss.proofs.generic.generic_encode.Goals as goal

pub returns-then-any_high : goal.returns-then-any_high
returns-then-any_high c =
    let copy = c.copy in
    let byte = c.byte in
    high_wrote _ (sym c.any_high.ensures ∙ c.if-any_high.true) byte.ensures copy.ensures

pub returns : goal.returns
returns c =
    let text = c.push_text7 in
    let byte = c.byte-2 in
    low_wrote _ (sym c.any_high.ensures ∙ c.if-any_high.false) (λ j l. omega (arith, c.slice_known-1.given j)) (λ j l. omega (arith, c.type_inv.out j)) byte.ensures text.ensures.wrote
