-- `crc::crc_folded` meets its contract: the blocks that are left come after those that the window stands for.
-- Assumes nothing.
use mathlib.Core.Path.{◌≡◌}
use Rattle.std.specs.Slice.Iter.{chunks_exact_rest, chunks_exact_size}
use Rattle.crc.specs.Crc.{start}
use Rattle.crc.specs.Fold.{Window, held}
use Rattle.crc.proofs.LinearLaws.{blocks_of}
use Rattle.crc.proofs.crc_folded.Given as goal

abbrev pub invariant-loop-block : goal.invariant-loop-block
invariant-loop-block l = (chunks_exact_size l.block-iterator ≡ 128) × Window l.w × (blocks_of (held l.w) (chunks_exact_rest l.block-iterator) ≡ blocks_of start l.«data»)
