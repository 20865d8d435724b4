-- `texts::show::put_shown` meets its contract. The first bytes are shown.
-- Assumes nothing.
use borrow.Author.Rules.{rules}
use mathlib.Core.List.{flat_map}
use native.Mathlib.Omega.{arith}
use lib.ListN.{get_or}
use lib.Seq.{take_all}
use Rattle.laws.proofs.WroteLaws.{wrote_then, wrote_none}
use Rattle.texts.specs.Show.{shown_byte, shown}
use Rattle.texts.proofs.HexLaws.{flat_more}
use Rattle.texts.proofs.ShowLaws.{shown_few}
use Rattle.texts.proofs.show.put_shown.Goals as goal

pub loop-x-init : goal.loop-x-init
unfolding flat_map
loop-x-init c = (search rules, wrote_none)

pub loop-x-preserved : goal.loop-x-preserved
loop-x-preserved c =
    let put = c.put_one-next in
    let s = c.args.s.now in
    let i = c.loop-x.x-index in (
      omega (arith, c.loop-x.invariant.0, put.ensures.next_is, shown_few (get_or s i 0)),
      rw (flat_more shown_byte s i c.loop-x-test.true) (wrote_then c.loop-x.invariant.1 put.ensures),
    )

pub returns : goal.returns
unfolding shown
returns c =
    rw (take_all c.loop-x.x-index c.args.s.now c.loop-x-test.false) at c.loop-x.invariant.1
