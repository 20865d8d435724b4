-- `bits::read::bytes` meets its contract.
-- Assumes nothing.
use native.Mathlib.Omega.{arith}
use mathlib.Core.Path.{◌≡◌, sym, ◌∙◌}
use mathlib.Core.List.{◌++◌}
use Prim.Native.Nat.{◌+◌, ◌-◌, ◌*◌, ◌/◌, ◌≤◌}
use lib.ListN.{length, drop, length-drop}
use lib.Seq.{drop-drop}
use Rattle.laws.specs.Bits.{pack_n, unpack}
use Rattle.laws.proofs.ByteLaws.{length_unpack, length_pack_n}
use Rattle.laws.proofs.WroteLaws.{wrote_then, wrote_as}
use Rattle.bits.specs.Read.{numbers}
use Rattle.bits.proofs.WordLaws.{numbers_add, numbers_bytes, bytes_wrote, unwritten}
use Rattle.bits.proofs.read.bytes.Goals as goal

pub returns-then-out-to : goal.returns-then-out-to
returns-then-out-to c =
    let a = c.args in
    let n = c.remaining-n.result / 8 in
    let b = drop a.at (unpack a.s.now) in
    rw (← c.remaining-n.ensures) (unwritten a.out.now a.to (pack_n n b) (length_pack_n n b) (omega arith))

pub returns : goal.returns
returns c =
    let first = c.words-i in
    let left = c.remaining-n in
    let a = c.args in
    let b = unpack a.s.now in
    let d = drop a.at b in
    let n = left.result / 8 in
    let i = first.result in
    let all : i + (n - i) ≡ n = omega arith in
    let room : i * 8 ≤ length d = omega (arith, left.ensures, first.ensures.upper_bound, length-drop a.at b, length_unpack a.s.now) in
    let front = bytes_wrote i d {i = a.to} room (λ j h. omega (arith, c.slice_known-1.given j)) (λ j h. omega (arith, c.slice_known-2-1.given j)) first.ensures.out_after in
    let bytes = numbers_bytes n d (omega (arith, left.ensures, length-drop a.at b, length_unpack a.s.now)) in
    let parts : numbers 8 i d ++ numbers 8 (n - i) (drop (a.at + i * 8) b) ≡ pack_n n d = rw (← drop-drop (i * 8) a.at b) (sym (rw all at (numbers_add 8 i (n - i) d)) ∙ bytes) in
    rw (← left.ensures) (wrote_as parts (wrote_then (wrote_as (sym (numbers_bytes i d room)) front) c.each.ensures))
