-- `bits_write::put_blocks` meets its contract. With the carried bits j blocks are written.
-- Assumes nothing.
use mathlib.Core.Path.{◌≡◌}
use Prim.Native.Nat.{◌+◌, ◌*◌, ◌^◌, ◌<◌}
use lib.ListN.{length, take}
use lib.Seq.{sets}
use Rattle.laws.specs.Bits.{bits_of, unpack}
use Rattle.bits_write.specs.Text7.{sevens}
use Rattle.bits_write.proofs.put_blocks.Given as goal

abbrev pub invariant-loop-j : goal.invariant-loop-j
invariant-loop-j l = (l.carried < 2 ^ l.o) × (length l.out ≡ length l.initial.out) × (sets (unpack l.out) ((l.i + l.j * 7) * 8) (bits_of l.o l.carried) ≡ sets (sets (unpack l.initial.out) (l.i * 8) (bits_of l.o l.first)) (l.i * 8 + l.o) (sevens (take (l.j * 8) l.text)))
