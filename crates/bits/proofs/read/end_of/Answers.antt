-- `bits::read::end_of` meets its contract. The bits from e on are a run of the pad.
-- Assumes nothing.
use native.Mathlib.Omega.{arith}
use mathlib.Core.Path.{◌≡◌, sym, ◌∙◌, ap}
use mathlib.Core.Bool.{Bool, false}
use native.Mathlib.Nat.{mod-eq_of_lt}
use Prim.Native.Nat.{◌+◌, ℕ, suc, ◌-◌, ◌*◌, ◌<◌}
use lib.ListN.{length, take, get_or}
use lib.Seq.{take_all}
use Rattle.laws.specs.Bits.{odd, num, unpack}
use Rattle.laws.proofs.BitLaws.{odd_num, num_odd}
use Rattle.laws.proofs.ByteLaws.{length_unpack}
use Rattle.bits.specs.Text7.{end_of}
use Rattle.bits.proofs.Text7Laws.{end_same, end_other}
use Rattle.bits.proofs.read.end_of.Goals as goal

-- what the code's test says of the bit
is_pad : (x : Bool) (r pad : ℕ) → r ≡ num x → r ≡ pad → x ≡ odd pad
is_pad x r pad p q = sym (odd_num x) ∙ ap odd (sym p ∙ q)

not_pad : (x : Bool) (r pad : ℕ) → pad < 2 → r ≡ num x → (r ≡ pad → ⊥) → x ≡ odd pad → ⊥
not_pad x r pad h p n e = n (p ∙ ap num e ∙ num_odd pad ∙ mod-eq_of_lt h)

pub loop-i-init : goal.loop-i-init
loop-i-init c =
    let b = unpack c.args.s.now in
    rw (take_all (length c.args.s.now * 8) b (omega (arith, length_unpack c.args.s.now)))

pub returns-then-get_bit-pad : goal.returns-then-get_bit-pad
returns-then-get_bit-pad c =
    let a = c.args in
    let b = unpack a.s.now in
    let k = c.loop-i.i - 1 in
    let se : c.loop-i.i ≡ suc k = omega arith in
    let room : k < length b = omega (arith, length_unpack a.s.now) in
    let bit = get_or b k false in
    let got = c.get_bit in
    let next : c.loop-i.i - 1 + 1 ≡ suc k = omega arith in
    let ends = end_other (odd a.pad) b k room (not_pad bit got.result a.pad (omega arith) got.ensures c.if-get_bit-pad.true) in
    next ∙ sym (c.loop-i.invariant ∙ ap (λ (j : ℕ). end_of (odd a.pad) (take j b)) se ∙ ends)

pub loop-i-preserved : goal.loop-i-preserved
loop-i-preserved c =
    let a = c.args in
    let b = unpack a.s.now in
    let k = c.loop-i.i - 1 in
    let se : c.loop-i.i ≡ suc k = omega arith in
    let room : k < length b = omega (arith, length_unpack a.s.now) in
    let bit = get_or b k false in
    let got = c.get_bit in
    rw se at c.loop-i.invariant ∙ end_same (odd a.pad) b k room (is_pad bit got.result a.pad got.ensures c.if-get_bit-pad.false)

pub returns : goal.returns
unfolding end_of
returns c =
    let z : c.loop-i.i ≡ 0 = omega arith in
    sym (rw z at c.loop-i.invariant)
