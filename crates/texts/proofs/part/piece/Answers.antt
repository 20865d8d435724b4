-- `texts::part::piece` meets its contract. After some pieces the rest starts at the place.
-- Assumes nothing.
use borrow.Author.Rules.{rules}
use mathlib.Core.Path.{◌∙◌}
use Rattle.texts.proofs.PartLaws.{piece_next, piece_here}
use Rattle.texts.proofs.part.piece.Goals as goal

pub loop-preserved : goal.loop-preserved
loop-preserved c =
    (search rules, piece_next _ _ _ _ _ c.loop-test.true c.next-at.ensures.2 ∙ c.loop.invariant.1)

pub returns : goal.returns
returns c =
    piece_here _ _ _ _ c.find.ensures.2 _ _ c.loop-test.false ∙ c.loop.invariant.1
