-- `bits::read::put_eight` meets its contract. The first k numbers are written.
-- Assumes nothing.
use borrow.Author.Rules.{rules}
use native.Mathlib.Omega.{arith}
use native.Mathlib.Nat.{add-zero}
use native.Mathlib.Numerals.{add-one}
use mathlib.Core.Path.{◌≡◌, sym, ◌∙◌}
use Prim.Native.Nat.{suc, ◌+◌, ◌-◌, ◌*◌}
use lib.ListN.{take, drop}
use Rattle.laws.specs.Bits.{bits_of, value_of}
use Rattle.laws.proofs.WroteLaws.{wrote_then, wrote_none, wrote_one}
use Rattle.bits.specs.Read.{numbers}
use Rattle.bits.proofs.WordLaws.{numbers_suc, seven_in}
use Rattle.bits.proofs.read.put_eight.Goals as goal

pub loop-k-init : goal.loop-k-init
unfolding numbers
loop-k-init c = (search rules, rw ((add-zero c.args.to)) wrote_none)

pub loop-k-preserved : goal.loop-k-preserved
loop-k-preserved c =
    let a = c.args in
    let k = c.loop-k.k in
    let b = bits_of 56 a.v in
    let x : value_of (take 7 (drop (k * 7) b)) ≡ c.low.result = seven_in k (7 - k) a.v (omega arith) ∙ sym c.low.ensures in
    let next : a.to + suc k ≡ a.to + k + 1 = omega arith in
    (search rules, rw (add-one, numbers_suc 7 k b, x, next) (wrote_then c.loop-k.invariant.1 wrote_one))

pub returns : goal.returns
returns c =
    let all : c.loop-k.k ≡ 8 = omega arith in
    rw all at c.loop-k.invariant.1
