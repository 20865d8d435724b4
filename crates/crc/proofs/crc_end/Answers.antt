-- `crc::crc_end` meets its contract: the bytes that are left come after those that are in.
-- Assumes nothing.
use mathlib.Core.Path.{sym, ap, ◌∙◌}
use Prim.Native.Nat.{ℕ}
use native.Mathlib.Omega.{arith}
use lib.Seq.{take_all}
use lib.Bits.{bit_xor}
use Rattle.crc.specs.Crc.{start, final, crc_from, crc_of}
use Rattle.crc.proofs.LinearLaws.{from_one}
use Rattle.crc.proofs.crc_end.Goals as goal

pub loop-i-preserved : goal.loop-i-preserved
loop-i-preserved c =
    let l = c.args.«data».now in
    let i = c.loop-i.i in
    rw (c.crc_byte-c.ensures, c.loop-i.invariant) (sym (from_one start i l (omega arith)))

pub returns : goal.returns
unfolding crc_of
returns c =
    let l = c.args.«data».now in
    ap (λ (x : ℕ). bit_xor x final) (c.loop-i.invariant ∙ ap (crc_from start) (take_all c.loop-i.i l (omega arith)))
