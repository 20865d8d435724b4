-- `crc::crc_folded` meets its contract: the blocks that are left come after those that the window stands for.
-- Assumes nothing.
use mathlib.Core.Path.{sym, ap, ap₂, ◌∙◌}
use Prim.Native.Nat.{ℕ}
use native.Mathlib.Omega.{arith}
use Rattle.std.specs.Slice.Iter.{chunks_exact_rest, chunks_exact_size}
use Rattle.crc.specs.Crc.{crc_from}
use Rattle.crc.specs.Fold.{held}
use Rattle.crc.proofs.LinearLaws.{blocks_of, blocks_on, blocks_end}
use Rattle.crc.proofs.FoldLaws.{window_first}
use Rattle.crc.proofs.crc_folded.Goals as goal

pub loop-block-init : goal.loop-block-init
unfolding crc_from
loop-block-init c =
    let it = c.into_iter-block-iterator.ensures.into_iter_gives in
    (ap chunks_exact_size it ∙ c.chunks_exact-block-items.ensures.size, window_first.0, ap₂ blocks_of window_first.1 (ap chunks_exact_rest it ∙ c.chunks_exact-block-items.ensures.rest))

pub loop-block-preserved : goal.loop-block-preserved
loop-block-preserved c =
    let s = c.in-Some.ensures.steps in
    let known = c.loop-block.invariant in (
      s.0 ∙ known.0,
      c.fold-w.ensures.1,
      ap (λ (x : ℕ). blocks_of x (chunks_exact_rest c.next.new.self)) c.fold-w.ensures.0
          ∙ sym (blocks_on (held c.loop-block.w) _ _ _ s.1.0 (s.1.1 ∙ known.0))
          ∙ known.2,
    )

pub returns : goal.returns
returns c =
    let s = c.in-None.ensures.steps in
    let known = c.loop-block.invariant in
    c.crc_window.ensures
    ∙ sym (blocks_end (held c.loop-block.w) (chunks_exact_rest c.loop-block.block-iterator) (omega (arith, s.1.0, known.0)))
    ∙ known.2
