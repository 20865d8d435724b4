-- `monitor::put_star` meets its contract.
-- Assumes nothing.
use native.Mathlib.Omega.{arith}
use Rattle.laws.proofs.WroteLaws.{wrote_none}
use Rattle.monitor.proofs.MonitorLaws.{star_none, star_last}
use Rattle.monitor.proofs.put_star.Goals as goal

pub returns-then-not-later : goal.returns-then-not-later
returns-then-not-later c =
    let w = c.byte.ensures in
    (rw (star_last _ _ c.if-heard.true c.if-not-later.true) w, omega (arith, w.next_is))

pub returns-else-heard : goal.returns-else-heard
returns-else-heard c = (rw (star_none _ _ c.else-heard.either) wrote_none, omega arith)
