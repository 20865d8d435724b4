-- `texts::say::put_refusal` meets its contract.
-- Assumes nothing.
use native.Mathlib.Omega.{arith}
use Prim.Native.Nat.{◌≤◌}
use lib.ListN.{length}
use Rattle.texts.specs.Say.{refusal_line}
use Rattle.texts.proofs.SayLaws.{reason_few}
use Rattle.texts.proofs.say.put_refusal.Goals as goal

pub put_line-requires : goal.put_line-requires
put_line-requires c =
    let few : length c.reason.result.now ≤ 502 = rw c.reason.ensures (reason_few c.args.n) in
    (c.requires, omega arith, omega (arith, few))

pub returns : goal.returns
unfolding refusal_line
returns c = rw (← c.reason.ensures, ← c.from.ensures) c.put_line.ensures
