-- `texts::hex::pairs` meets its contract. The first i bytes are written.
-- Assumes nothing.
use mathlib.Core.Path.{◌≡◌}
use native.Mathlib.Omega.{arith}
use Prim.Native.Nat.{◌+◌, ◌*◌, ◌<◌}
use lib.ListN.{length}
use Rattle.laws.proofs.WroteLaws.{wrote_then, wrote_none}
use Rattle.texts.specs.Hex.{bytes_of}
use Rattle.texts.proofs.HexLaws.{bytes_more}
use Rattle.texts.proofs.hex.pairs.Goals as goal

pub loop-i-init : goal.loop-i-init
unfolding bytes_of
loop-i-init c = wrote_none

pub loop-i-preserved : goal.loop-i-preserved
loop-i-preserved c =
    let byte = c.byte in
    let text = c.args.text.now in
    let i = c.loop-i.i in
    let e : (i + 1) * 2 ≡ i * 2 + 2 = omega arith in
    let h : i * 2 + 1 < length text = omega arith in
    rw (e, bytes_more text i h, ← c.value_at.ensures.0, ← c.value_at-in-loop-i.ensures.0, ← byte.ensures.next_is) (wrote_then c.loop-i.invariant byte.ensures)
