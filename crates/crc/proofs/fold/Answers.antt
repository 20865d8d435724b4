-- `crc::fold` meets its contract.
-- Assumes nothing.
use mathlib.Core.Path.{◌≡◌, ap, ◌∙◌}
use Prim.Native.Nat.{◌+◌, ◌-◌}
use native.Mathlib.Omega.{arith}
use lib.ListN.{take}
use lib.Seq.{take_all}
use Rattle.crc.specs.Crc.{crc_from}
use Rattle.crc.specs.Fold.{held}
use Rattle.crc.proofs.FoldLaws.{ring_block, stands_first, stands_last}
use Rattle.crc.proofs.fold.Goals as goal

pub loop-j-preserved : goal.loop-j-preserved
loop-j-preserved c =
    let j = c.loop-j.j in
    ring_block c.args.block.now c.args.old c.loop-j.w j c.loop-j.invariant (omega arith) (j + 40) (j + 96) (omega arith) (omega arith) (omega arith) (omega (arith, c.type_inv.block j))

pub loop-j-2-preserved : goal.loop-j-2-preserved
loop-j-2-preserved c =
    let j = c.loop-j-2.j in
    ring_block c.args.block.now c.args.old c.loop-j-2.w j c.loop-j-2.invariant (omega arith) (j + 40) (j - 32) (omega arith) (omega arith) (omega arith) (omega (arith, c.type_inv.block j))

pub loop-j-3-preserved : goal.loop-j-3-preserved
loop-j-3-preserved c =
    let j = c.loop-j-3.j in
    ring_block c.args.block.now c.args.old c.loop-j-3.w j c.loop-j-3.invariant (omega arith) (j - 88) (j - 32) (omega arith) (omega arith) (omega arith) (omega (arith, c.type_inv.block j))

pub returns : goal.returns
returns c =
    let w = c.loop-j-3.w in
    let l = c.args.block.now in
    let old = c.args.old in
    let done = c.loop-j-3.invariant in
    let all : take 128 l ≡ l = take_all 128 l (omega arith) in
    (stands_last l 0 c.loop-j-3.j w (held old) done.0.0 (omega arith) (done.1 (held old) (stands_first l 0 old)) ∙ ap (crc_from (held old)) all, done.0)
