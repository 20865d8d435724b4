-- `ax25_aprs::text::selves` meets its contract. The first n codes stand for themselves.
-- Assumes nothing.
use borrow.Author.Rules.{rules}
use mathlib.Core.Path.{◌≡◌, sym}
use Prim.Native.Nat.{◌+◌, ◌*◌}
use lib.ListN.{drop}
use lib.Seq.{drop-drop}
use Rattle.laws.specs.Bits.{unpack}
use Rattle.ax25_aprs.specs.Selves.{Selves}
use Rattle.ax25_aprs.proofs.SelfLaws.{selves_front, selves_add}
use Rattle.ax25_aprs.proofs.text.selves.Goals as goal

pub loop-i-preserved : goal.loop-i-preserved
loop-i-preserved c =
    let a = c.args in
    let b = drop a.at (unpack a.s.now) in
    let n = c.loop-i.n in
    let u = unpack a.s.now in
    let at_block : a.at + n * 7 ≡ c.loop-i.i = sym c.loop-i.invariant.0 in
    let more : Selves 8 (drop (n * 7) b) =
    selves_front 8 (drop (n * 7) b) (rw (drop-drop (n * 7) a.at u, at_block, ← c.block.ensures) (c.all_selves.ensures (c.if-all_selves.true))) in
    (search rules, search rules, selves_add n 8 b c.loop-i.invariant.2 more)
