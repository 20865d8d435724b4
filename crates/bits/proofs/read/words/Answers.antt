-- `bits::read::words` meets its contract. The first k words are written.
-- Assumes nothing.
use borrow.Author.Rules.{rules}
use native.Mathlib.Omega.{arith}
use mathlib.Core.Path.{◌≡◌, refl, sym}
use Prim.Native.Nat.{◌/◌, ◌+◌, ◌*◌}
use lib.ListN.{length, take, drop, length-drop}
use lib.Seq.{drop-drop, take-add, length-take-le}
use Rattle.laws.specs.Bits.{bits_of, unpack}
use Rattle.laws.proofs.ByteLaws.{length_unpack}
use Rattle.laws.proofs.ListLaws.{sets_append}
use Rattle.bits.proofs.read.words.Goals as goal

pub loop-k-init : goal.loop-k-init
loop-k-init c = (search rules, refl)

pub loop-k-preserved : goal.loop-k-preserved
loop-k-preserved c =
    let a = c.args in
    let out = unpack a.out.now in
    let b = unpack a.s.now in
    let d = drop a.at b in
    let k = c.loop-k.k in
    let v = c.eight in
    let e : (k + 1) * 64 ≡ k * 64 + 64 = omega arith in
    let f : a.to * 8 + length (take (k * 64) d) ≡ (a.to + k * 8) * 8 =
    omega (arith, length-take-le (k * 64) d (omega (arith, length-drop a.at b, length_unpack a.s.now))) in
    let more : bits_of 64 v.result ≡ take 64 (drop (k * 64) d) = rw (drop-drop (k * 64) a.at b) v.ensures in
    let joined = sets_append out (a.to * 8) (take (k * 64) d) (take 64 (drop (k * 64) d)) in
    (search rules, rw (c.put_bytes.ensures, c.loop-k.invariant.1, more, e, take-add (k * 64) 64 d) (sym (rw f at joined)))

pub returns : goal.returns
returns c =
    let all : c.loop-k.k * 64 ≡ c.saturating_sub-n.result / 8 * 8 * 8 = omega arith in
    record { upper_bound = search rules; out_after = rw all at c.loop-k.invariant.1 }
