-- `texts::hex::put_hex` meets its contract. The digits of the first bytes are written.
-- Assumes nothing.
use borrow.Author.Rules.{rules}
use mathlib.Core.List.{List, flat_map}
use native.Mathlib.Omega.{arith}
use Prim.Native.Nat.{ℕ, ◌+◌, ◌*◌, ◌≤◌}
use lib.ListN.{get_or}
use lib.Seq.{take_all}
use Rattle.laws.specs.Wrote.{Wrote}
use Rattle.laws.proofs.WroteLaws.{wrote_then, wrote_none}
use Rattle.texts.specs.Hex.{hex_byte, hex_of}
use Rattle.texts.proofs.HexLaws.{flat_more}
use Rattle.texts.proofs.hex.put_hex.Goals as goal

-- two digits more
two_more : {b d : List ℕ} {p q : ℕ} (at i x : ℕ) → p ≤ at + i * 2 → Wrote b p (hex_byte x) d q → q ≤ at + (i + 1) * 2
unfolding hex_byte
two_more at i x h w = omega (arith, w.next_is)

pub loop-x-init : goal.loop-x-init
unfolding flat_map
loop-x-init c = (search rules, wrote_none)

pub loop-x-preserved : goal.loop-x-preserved
loop-x-preserved c =
    let put = c.put_byte-next in
    let s = c.args.s.now in
    let i = c.loop-x.x-index in (
      two_more c.args.at i (get_or s i 0) c.loop-x.invariant.0 put.ensures,
      rw (flat_more hex_byte s i c.loop-x-test.true) (wrote_then c.loop-x.invariant.1 put.ensures),
    )

pub returns : goal.returns
unfolding hex_of
returns c =
    rw (take_all c.loop-x.x-index c.args.s.now c.loop-x-test.false) at c.loop-x.invariant.1
