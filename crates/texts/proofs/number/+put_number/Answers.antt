-- The proof of the cycle of calls {put_number}. The measure is the number.
-- Assumes nothing.
use native.Mathlib.Omega.{arith}
use Rattle.laws.proofs.WroteLaws.{wrote_then}
use Rattle.texts.proofs.NumberLaws.{numeral_digit, numeral_behind, numeral_length}
use Prim.Native.Nat.{◌/◌}
use Rattle.texts.proofs.number.+put_number.Goals as goal

pub returns-then-n-lt10 : goal.returns-then-n-lt10
returns-then-n-lt10 t c =
    let n = c.args.n in
    rw (numeral_digit n c.if-n-lt10.true) c.byte.ensures

pub byte-requires-2 : goal.byte-requires-2
byte-requires-2 t c =
    omega (arith, c.requires, c.put_number-p.ensures.next_is, numeral_length (c.args.n / 10))

pub returns : goal.returns
returns t c =
    rw (numeral_behind c.args.n c.if-n-lt10.false c.ranges.n.fits) (wrote_then c.put_number-p.ensures c.byte-2.ensures)
