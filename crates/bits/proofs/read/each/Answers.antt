-- `bits::read::each` meets its contract. The first i numbers are written.
-- Assumes nothing.
use borrow.Author.Rules.{rules}
use native.Mathlib.Omega.{arith}
use native.Mathlib.Nat.{add-zero, lt_of_lt_of_le, mul-le-mul_right, suc-mul}
use native.Mathlib.Numerals.{add-one}
use mathlib.Core.Path.{◌≡◌}
use Prim.Native.Nat.{ℕ, suc, ◌+◌, ◌*◌, ◌≤◌, ◌<◌}
use lib.ListN.{take, drop}
use lib.Pow.{pow_mono}
use lib.Seq.{drop-drop}
use Rattle.laws.specs.Bits.{value_of, unpack}
use Rattle.laws.proofs.BitLaws.{value_take_lt}
use Rattle.laws.proofs.WroteLaws.{wrote_then, wrote_none}
use Rattle.bits.specs.Read.{numbers}
use Rattle.bits.proofs.WordLaws.{numbers_suc}
use Rattle.bits.proofs.read.each.Goals as goal

-- one number more is within n
within : (i w : ℕ) {n : ℕ} → i < n → i * w + w ≤ n * w
within i w h = rw (← suc-mul i w) (mul-le-mul_right w h)

pub loop-i-init : goal.loop-i-init
unfolding numbers
loop-i-init c = (search rules, rw ((add-zero c.args.to)) wrote_none)

pub value-requires : goal.value-requires
value-requires c =
    let a = c.args in
    (search rules, omega (arith, within c.loop-i.i a.w c.loop-i-test.true), search rules)

pub overflow_cast-value : goal.overflow_cast-value
overflow_cast-value c =
    let a = c.args in
    let narrow : a.w ≤ 8 = omega arith in
    record { fits = rw c.value.ensures (lt_of_lt_of_le (value_take_lt (drop (a.at + c.loop-i.i * a.w) (unpack a.s.now)) a.w) (pow_mono narrow)) }

pub loop-i-preserved : goal.loop-i-preserved
loop-i-preserved c =
    let a = c.args in
    let b = unpack a.s.now in
    let i = c.loop-i.i in
    let value : c.value.result ≡ value_of (take a.w (drop (i * a.w) (drop a.at b))) = rw (drop-drop (i * a.w) a.at b) c.value.ensures in
    let next : c.byte.result ≡ a.to + suc i = omega (arith, c.byte.ensures.next_is) in
    (search rules, rw (add-one, numbers_suc a.w i (drop a.at b), ← value, ← next) (wrote_then c.loop-i.invariant.1 c.byte.ensures))

pub returns : goal.returns
returns c =
    let all : c.loop-i.i ≡ c.args.n = omega arith in
    rw all at c.loop-i.invariant.1
