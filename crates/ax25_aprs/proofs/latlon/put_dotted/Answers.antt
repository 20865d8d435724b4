-- `ax25_aprs::latlon::put_dotted` meets its contract.
-- Assumes nothing.
use native.Mathlib.Omega.{arith}
use Prim.Native.Nat.{◌^◌, ◌≤◌, ◌<◌}
use Rattle.ax25_aprs.proofs.PlaceLaws.{dotted_few, dotted_more}
use Rattle.ax25_aprs.proofs.latlon.put_dotted.Goals as goal
use Rattle.ax25_aprs.proofs.latlon.put_dotted.Goals.{then-v-ten, else-v-ten}

pub returns : goal.returns
returns c =
    let a = c.args in
    elim c.if-v-ten.branch [
      | then-v-ten w ↦
          let few : a.v < 10 ^ a.n = omega (arith, c.ten.ensures) in
          rw (dotted_few a.k a.n a.v (omega arith) few, ← w.m-is) c.put_around.ensures
      | else-v-ten w ↦
          let more : 10 ^ a.n ≤ a.v = omega (arith, c.ten.ensures) in
          rw (dotted_more a.k a.n a.v (omega arith) more, ← w.m-is) c.put_around.ensures
    ]
