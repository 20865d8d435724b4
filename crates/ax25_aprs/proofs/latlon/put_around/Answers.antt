-- `ax25_aprs::latlon::put_around` meets its contract.
-- Assumes nothing.
use native.Mathlib.Omega.{arith}
use Rattle.laws.proofs.WroteLaws.{wrote_then}
use Prim.Native.Nat.{◌/◌}
use Rattle.laws.proofs.DigitLaws.{ten_pos, length_digits}
use Rattle.ax25_aprs.proofs.latlon.put_around.Goals as goal

pub nonzero_div-v : goal.nonzero_div-v
nonzero_div-v c = rw c.ten.ensures (ten_pos c.args.m)

pub byte-q-requires : goal.byte-q-requires
byte-q-requires c =
    let a = c.args in
    omega (arith, c.put_digits-p.ensures.next_is, length_digits a.k (a.v / c.ten.result))

pub put_digits-requires : goal.put_digits-requires
put_digits-requires c =
    let a = c.args in
    omega (arith, c.put_digits-p.ensures.next_is, length_digits a.k (a.v / c.ten.result), c.byte-q.ensures.next_is)

pub returns : goal.returns
returns c =
    rw (← c.ten.ensures)
    (wrote_then c.put_digits-p.ensures (wrote_then c.byte-q.ensures c.put_digits.ensures))
