-- `ax25_aprs::number::put_padded` meets its contract.
-- Assumes nothing.
use native.Mathlib.Omega.{arith}
use native.Mathlib.Numerals.{add-one}
use Prim.Native.Nat.{◌^◌, ◌<◌, ◌≤◌}
use Rattle.ax25_aprs.proofs.TextLaws.{padded_few, padded_more}
use Rattle.ax25_aprs.proofs.number.put_padded.Goals as goal

pub returns-then-v-ten : goal.returns-then-v-ten
returns-then-v-ten c =
    let a = c.args in
    let few : a.v < 10 ^ a.n = omega (arith, c.ten.ensures) in
    rw (padded_few a.n a.v few) c.put_digits.ensures

pub returns-else-v-ten : goal.returns-else-v-ten
returns-else-v-ten c =
    let a = c.args in
    let more : 10 ^ a.n ≤ a.v = omega (arith, c.ten.ensures) in
    rw (padded_more a.n a.v more, ← add-one) c.put_digits-else-v-ten.ensures
