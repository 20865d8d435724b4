-- `sender::Field::count` meets its contract.
-- Assumes nothing.
use native.Mathlib.Omega.{arith}
use mathlib.Core.Path.{sym}
use Rattle.sender.proofs.CountLaws.{count_one, count_many}
use Rattle.sender.proofs.Field.count.Goals as goal

pub returns-then-total-self : goal.returns-then-total-self
returns-then-total-self c = sym (count_one c.args.total c.args.self.bytes c.if-total-self.true)

pub returns-else-total-self : goal.returns-else-total-self
returns-else-total-self c =
    omega (arith, c.frags_needed.ensures, count_many c.args.total c.args.self.bytes c.if-total-self.false)
