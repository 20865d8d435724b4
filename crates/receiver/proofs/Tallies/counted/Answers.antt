-- `Tallies::counted` meets its contract.
-- Assumes nothing.
use Rattle.receiver.proofs.TallyLaws.{after_counted}
use Rattle.receiver.proofs.Tallies.counted.Goals as goal

pub returns : goal.returns
returns c store =
    let a = c.args in
    after_counted a.self a.joined store c.count.result c.count.ensures
