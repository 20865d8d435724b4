-- `bits::read::eight` meets its contract.
-- Assumes nothing.
use native.Mathlib.Omega.{arith}
use mathlib.Core.Path.{◌≡◌}
use Prim.Native.Nat.{◌+◌, ◌*◌, ◌/◌, ◌%◌}
use lib.ListN.{take, drop}
use lib.Seq.{drop-drop}
use Rattle.laws.specs.Bits.{bits_of, unpack}
use Rattle.bits.proofs.WordLaws.{behind_lt, behind}
use Rattle.bits.proofs.read.eight.Goals as goal

pub overflow_add-result : goal.overflow_add-result
overflow_add-result c =
    let a = c.args in
    omega (arith, behind_lt (a.at % 8) 64 c.word.result c.one.result (omega arith) (omega arith) c.one.ensures.1)

pub returns : goal.returns
returns c =
    let a = c.args in
    let b = unpack a.s.now in
    let o = a.at % 8 in
    let i = a.at / 8 in
    let p : i * 8 + o ≡ a.at = omega arith in
    let q : i * 8 + 64 ≡ (i + 8) * 8 = omega arith in
    let next : bits_of 8 c.one.result ≡ take 8 (drop 64 (drop (i * 8) b)) = rw (drop-drop 64 (i * 8) b, q) c.one.ensures.0 in
    rw (drop-drop o (i * 8) b, p) at (behind o 64 c.word.result c.one.result (omega arith) (omega arith) c.one.ensures.1 (drop (i * 8) b) c.word.ensures next)
