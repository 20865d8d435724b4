-- `ax25_address::classify::any_high` meets its contract. `all` has bit 80 where a byte that was passed has it.
-- Assumes nothing.
use mathlib.Core.Path.{sym}
use mathlib.Core.Bool.{or_assoc, or-false}
use native.Mathlib.Omega.{arith}
use Prim.Native.Nat.{◌+◌, ◌<◌}
use lib.Bits.{or_lt}
use lib.Dec.{leb}
use lib.ListN.{get_or, drop}
use Rattle.ax25_address.specs.Classify.{any_high}
use Rattle.ax25_address.proofs.ClassifyLaws.{high_end, high_at, or_high}
use Rattle.ax25_address.proofs.classify.any_high.Goals as goal

pub loop-x-preserved : goal.loop-x-preserved
loop-x-preserved c =
    let d = c.args.d.now in
    let i = c.loop-x.x-index in
    let x = get_or d i 0 in
    let a = c.loop-x.all in
    let lt : x < 256 = omega (arith, c.type_inv.d i) in
    (or_lt 8 a x c.loop-x.invariant.0 lt, rw (or_high a x c.loop-x.invariant.0 lt, or_assoc (leb 0x80 a) (leb 0x80 x) (any_high (drop (i + 1) d)), ← high_at d i (omega arith)) c.loop-x.invariant.1)

pub returns : goal.returns
returns c =
    let d = c.args.d.now in
    let i = c.loop-x.x-index in
    sym (rw (high_end d i (omega arith), or-false) at c.loop-x.invariant.1)
