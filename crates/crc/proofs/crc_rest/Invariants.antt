-- `crc::crc_rest` meets its contract: the groups that are left come after those that are in.
-- Assumes nothing.
use mathlib.Core.Path.{◌≡◌}
use Rattle.std.specs.Slice.Iter.{chunks_exact_rest, chunks_exact_size}
use Rattle.crc.proofs.LinearLaws.{eights_of}
use Rattle.crc.proofs.crc_rest.Given as goal

abbrev pub invariant-loop-eight : goal.invariant-loop-eight
invariant-loop-eight l = (chunks_exact_size l.eight-iterator ≡ 8) × (eights_of l.c (chunks_exact_rest l.eight-iterator) ≡ eights_of l.before l.«data»)
