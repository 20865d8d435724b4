-- `bits_write::put_words` meets its contract. With the carried bits j words are written.
-- Assumes nothing.
use mathlib.Core.Path.{◌≡◌}
use Prim.Native.Nat.{◌+◌, ◌*◌}
use lib.ListN.{length, take}
use lib.Seq.{sets}
use Rattle.laws.specs.Bits.{bits_of, unpack}
use Rattle.bits_write.proofs.put_words.Given as goal

abbrev pub invariant-loop-j : goal.invariant-loop-j
invariant-loop-j l = (length l.out ≡ length l.initial.out) × (sets (unpack l.out) ((l.i + l.j * 8) * 8) (bits_of l.o l.carried) ≡ sets (sets (unpack l.initial.out) (l.i * 8) (bits_of l.o l.first)) (l.i * 8 + l.o) (take (l.j * 64) (unpack l.s)))
