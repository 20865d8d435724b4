-- `texts::say::put_unread` meets its contract, by cases.
-- Assumes nothing.
use native.Mathlib.Omega.{arith}
use Prim.Native.Nat.{◌≤◌}
use lib.ListN.{length}
use Rattle.laws.proofs.WroteLaws.{wrote_none}
use Rattle.texts.specs.Say.{unread_line}
use Rattle.texts.proofs.SayLaws.{fault_few}
use Rattle.texts.proofs.say.put_unread.Goals as goal

pub returns-in-Ok : goal.returns-in-Ok
unfolding unread_line
returns-in-Ok c = rw c.in-Ok.is wrote_none

pub put_error-requires : goal.put_error-requires
put_error-requires c =
    let few : length c.fault.result.now ≤ 30 = rw c.fault.ensures (fault_few c.in-Err.error) in
    (c.requires, omega (arith, few))

pub returns-in-Err : goal.returns-in-Err
unfolding unread_line
returns-in-Err c = rw (c.in-Err.is, ← c.fault.ensures) c.put_error.ensures
