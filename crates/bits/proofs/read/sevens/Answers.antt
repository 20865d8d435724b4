-- `bits::read::sevens` meets its contract.
-- Assumes nothing.
use native.Mathlib.Omega.{arith}
use mathlib.Core.Path.{◌≡◌, sym}
use mathlib.Core.List.{◌++◌}
use Prim.Native.Nat.{◌+◌, ◌-◌, ◌*◌}
use lib.ListN.{drop}
use lib.Seq.{drop-drop}
use Rattle.laws.specs.Bits.{unpack}
use Rattle.laws.proofs.WroteLaws.{wrote_then, wrote_as}
use Rattle.bits.specs.Read.{numbers}
use Rattle.bits.proofs.WordLaws.{length_numbers, numbers_add, unwritten}
use Rattle.bits.proofs.read.sevens.Goals as goal

pub returns-then-out-to : goal.returns-then-out-to
returns-then-out-to c =
    let a = c.args in
    let b = drop a.at (unpack a.s.now) in
    unwritten a.out.now a.to (numbers 7 a.n b) (length_numbers 7 a.n b) (omega arith)

pub returns : goal.returns
returns c =
    let a = c.args in
    let b = drop a.at (unpack a.s.now) in
    let first = c.blocks-i in
    let i = first.result in
    let all : i + (a.n - i) ≡ a.n = omega arith in
    let parts : numbers 7 i b ++ numbers 7 (a.n - i) (drop (a.at + i * 7) (unpack a.s.now)) ≡ numbers 7 a.n b =
    rw (← drop-drop (i * 7) a.at (unpack a.s.now)) (sym (rw all at (numbers_add 7 i (a.n - i) b))) in
    wrote_as parts (wrote_then first.ensures.wrote c.each.ensures)
