-- `texts::hex::pairs` meets its contract. The first i bytes are written.
-- Assumes nothing.
use Prim.Native.Nat.{◌*◌}
use lib.ListN.{take}
use Rattle.laws.specs.Wrote.{Wrote}
use Rattle.texts.specs.Hex.{bytes_of}
use Rattle.texts.proofs.hex.pairs.Given as goal

abbrev pub invariant-loop-i : goal.invariant-loop-i
invariant-loop-i l = Wrote l.initial.out 0 (bytes_of (take (l.i * 2) l.text)) l.out l.i
