-- `ax25_address::classify::scan_third` meets its contract. The answer is that of the rest with the counts so far, which are at most the place.
-- Assumes nothing.
use Rattle.laws.specs.Pick.{pick}
use Rattle.ax25_address.proofs.ClassifyLaws.{scan_end, scan_at, tally_le}
use Rattle.ax25_address.proofs.classify.scan_third.Goals as goal

pub returns-then-stops_at : goal.returns-then-stops_at
unfolding pick
returns-then-stops_at c =
    rw (← c.loop-i.invariant.2, scan_at _ _ _ _ c.loop-i-test.true, ← c.stops_at.ensures, c.if-stops_at.true)

pub returns-then-ends_at : goal.returns-then-ends_at
unfolding pick
returns-then-ends_at c =
    rw (← c.loop-i.invariant.2, scan_at _ _ _ _ c.loop-i-test.true, ← c.stops_at.ensures, c.if-stops_at.false, ← c.ends_at.ensures, c.if-ends_at.true)

pub loop-i-preserved : goal.loop-i-preserved
unfolding pick
loop-i-preserved c =
    let n = c.tally-gt.ensures in
    let m = c.tally-comma.ensures in
    let inv = c.loop-i.invariant in (
      rw n (tally_le _ _ _ _ inv.0),
      rw m (tally_le _ _ _ _ inv.1),
      rw (← inv.2, scan_at _ _ _ _ c.loop-i-test.true, ← c.stops_at.ensures, c.if-stops_at.false, ← c.ends_at.ensures, c.if-ends_at.false, n, m),
    )

pub returns : goal.returns
returns c = rw (← c.loop-i.invariant.2, scan_end _ _ _ _ c.loop-i-test.false)
