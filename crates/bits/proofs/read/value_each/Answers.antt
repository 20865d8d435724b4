-- `bits::read::value_each` meets its contract. The loop has read the first i bits.
-- Assumes nothing.
use borrow.Author.Rules.{rules}
use native.Mathlib.Omega.{arith}
use native.Mathlib.Numerals.{add-one}
use mathlib.Core.Path.{◌≡◌}
use mathlib.Core.Bool.{false}
use Prim.Native.Nat.{◌+◌, ◌<◌}
use lib.ListN.{length, drop, get_or, length-drop}
use lib.Seq.{get_or-drop}
use Rattle.laws.specs.Bits.{unpack, value_of}
use Rattle.laws.proofs.BitLaws.{value_take_suc, value_take_fits, num_lt}
use Rattle.laws.proofs.ByteLaws.{length_unpack}
use Rattle.bits.proofs.read.value_each.Goals as goal

pub loop-i-init : goal.loop-i-init
unfolding value_of
loop-i-init c = search rules

pub overflow_mul-v : goal.overflow_mul-v
overflow_mul-v c =
    let a = c.args in
    omega (arith, value_take_fits 64 (drop a.at (unpack a.s.now)) c.loop-i.i (omega arith))

pub overflow_add-v : goal.overflow_add-v
overflow_add-v c =
    let a = c.args in
    let b = unpack a.s.now in
    let i = c.loop-i.i in
    omega (arith, value_take_fits 64 (drop a.at b) i (omega arith), num_lt (get_or b (a.at + i) false))

pub loop-i-preserved : goal.loop-i-preserved
loop-i-preserved c =
    let a = c.args in
    let b = unpack a.s.now in
    let i = c.loop-i.i in
    let room : i < length (drop a.at b) = omega (arith, length-drop a.at b, length_unpack a.s.now) in (
      search rules,
      rw (add-one, value_take_suc (drop a.at b) i room, get_or-drop a.at b i false, ← c.loop-i.invariant.1, ← c.get_bit.ensures),
    )

pub returns : goal.returns
returns c =
    let all : c.loop-i.i ≡ c.args.n = omega arith in
    rw all at c.loop-i.invariant.1
