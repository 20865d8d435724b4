-- `crc::fold` meets its contract.
-- Assumes nothing.
use Rattle.crc.proofs.FoldLaws.{Ring}
use Rattle.crc.proofs.fold.Given as goal

abbrev pub invariant-loop-j : goal.invariant-loop-j
invariant-loop-j l = Ring l.block 0 l.fn.old 0 l.w l.j

abbrev pub invariant-loop-j-2 : goal.invariant-loop-j-2
invariant-loop-j-2 l = Ring l.block 0 l.fn.old 0 l.w l.j

abbrev pub invariant-loop-j-3 : goal.invariant-loop-j-3
invariant-loop-j-3 l = Ring l.block 0 l.fn.old 0 l.w l.j
