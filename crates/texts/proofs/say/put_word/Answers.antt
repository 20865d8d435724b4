-- `texts::say::put_word` meets its contract.
-- Assumes nothing.
use native.Mathlib.Omega.{arith}
use Prim.Native.Nat.{◌≤◌}
use lib.ListN.{length}
use Rattle.texts.proofs.SayLaws.{word_few}
use Rattle.texts.proofs.say.put_word.Goals as goal

pub copy-requires : goal.copy-requires
copy-requires c =
    let few : length c.word.result.now ≤ 17 = rw c.word.ensures (word_few c.args.command) in
    (omega arith, omega (arith, few))
