-- `bits::read::blocks` meets its contract. The first k blocks of eight numbers are written.
-- Assumes nothing.
use borrow.Author.Rules.{rules}
use native.Mathlib.Omega.{arith}
use native.Mathlib.Nat.{add_assoc}
use mathlib.Core.Path.{◌≡◌, refl}
use Prim.Native.Nat.{◌/◌, ◌+◌, ◌*◌}
use lib.ListN.{drop, length-drop}
use lib.Seq.{drop-drop}
use Rattle.laws.specs.Bits.{bits_of, unpack}
use Rattle.laws.specs.Wrote.{Wrote}
use Rattle.laws.proofs.ByteLaws.{length_unpack}
use Rattle.laws.proofs.WroteLaws.{wrote_then, wrote_as}
use Rattle.bits.specs.Read.{numbers}
use Rattle.bits.proofs.WordLaws.{numbers_add, numbers_front}
use Rattle.bits.proofs.read.blocks.Goals as goal

pub loop-k-init : goal.loop-k-init
unfolding numbers
loop-k-init c = (search rules, record { stored = refl; next_is = refl })

pub returns-then-s-p : goal.returns-then-s-p
returns-then-s-p c = record { upper_bound = search rules; wrote = c.loop-k.invariant.1 }

pub loop-k-preserved : goal.loop-k-preserved
loop-k-preserved c =
    let a = c.args in
    let b = unpack a.s.now in
    let i = c.loop-k.k * 8 in
    let v = c.block in
    let seven : i * 7 ≡ c.loop-k.k * 56 = omega arith in
    let eight : numbers 7 8 (bits_of 56 v.result) ≡ numbers 7 8 (drop (i * 7) (drop a.at b)) =
    rw (v.ensures, seven, drop-drop (c.loop-k.k * 56) a.at b) (numbers_front 7 8 (drop (a.at + c.loop-k.k * 56) b) (omega (arith, length-drop (a.at + c.loop-k.k * 56) b, length_unpack a.s.now))) in
    let put : Wrote c.loop-k.out (a.to + i) (numbers 7 8 (drop (i * 7) (drop a.at b))) _ (a.to + i + 8) = wrote_as eight c.put_eight.ensures in
    let next : (c.loop-k.k + 1) * 8 ≡ i + 8 = omega arith in
    (search rules, rw (next, numbers_add 7 i 8 (drop a.at b), ← add_assoc a.to i 8) (wrote_then c.loop-k.invariant.1 put))

pub returns : goal.returns
returns c =
    let all : c.loop-k.k ≡ c.least-most.result / 8 = omega arith in
    record { upper_bound = search rules; wrote = rw all at c.loop-k.invariant.1 }
