-- `bits::read::text7` meets its contract.
-- Assumes nothing.
use borrow.Author.Rules.{rules}
use native.Mathlib.Omega.{arith}
use mathlib.Core.Path.{◌≡◌, ap}
use mathlib.Core.Bool.{false}
use Rattle.std.proofs.Common.{Some}
use Prim.Native.Nat.{◌-◌, ◌*◌}
use lib.ListN.{length, get_or, drop}
use Rattle.laws.specs.Bits.{odd, unpack}
use Rattle.laws.proofs.BitLaws.{num_lt, odd_num}
use Rattle.laws.proofs.ByteLaws.{length_unpack}
use Rattle.bits.specs.Read.{numbers}
use Rattle.bits.specs.Text7.{text7_of, text7_next, text7_left}
use Rattle.bits.proofs.Text7Laws.{text7_none, text7_some, end_le}
use Rattle.bits.proofs.read.text7.Goals as goal

pub returns-then-s-eq0 : goal.returns-then-s-eq0
unfolding text7_next text7_left
returns-then-s-eq0 c =
    let a = c.args in
    let e = text7_none (unpack a.s.now) a.at (omega (arith, length_unpack a.s.now)) in
    (rw e, rw e)

pub end_of-end-requires : goal.end_of-end-requires
end_of-end-requires c =
    let a = c.args in
    (omega (arith, num_lt (get_or (unpack a.s.now) (length a.s.now * 8 - 1) false)), search rules)

pub sevens-requires : goal.sevens-requires
sevens-requires c =
    let pad = odd c.get_bit-pad.result in
    omega (arith, end_le pad (unpack c.args.s.now), length_unpack c.args.s.now, c.requires)

pub returns : goal.returns
unfolding text7_next text7_left
returns c =
    let a = c.args in
    let s = a.s.now in
    let b = unpack s in
    let n = c.count in
    let got = c.get_bit-pad in
    let end = c.end_of-end in
    let wrote = c.sevens.ensures in
    let last : odd got.result ≡ get_or b (length b - 1) false = rw (got.ensures, length_unpack s) (odd_num (get_or b (length s * 8 - 1) false)) in
    let e : text7_of b a.at ≡ Some (numbers 7 n.result (drop a.at b)) =
    rw (n.ensures, end.ensures, last)
    (text7_some b a.at (omega (arith, length_unpack s, c.if-s-eq0.false))) in
    (rw e (ap Some wrote.next_is), rw e wrote.stored)
