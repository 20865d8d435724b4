-- `ax25_address::address::halved` meets its contract: the call holds the letters before the place.
-- Assumes nothing.
use native.Mathlib.Omega.{arith}
use mathlib.Core.Path.{◌≡◌, ap, ◌∙◌}
use mathlib.Core.List.{List, map}
use Prim.Native.Nat.{ℕ, ◌-◌}
use lib.ListN.{length, take}
use lib.Seq.{take_all, length-take-le}
use Rattle.ax25_token.specs.Call.{empty, appended}
use Rattle.ax25_address.specs.Address.{half}
use Rattle.ax25_address.proofs.LetterLaws.{none_taken, half_more, halved_text}
use Rattle.ax25_address.proofs.address.halved.Goals as goal

pub loop-x-init : goal.loop-x-init
loop-x-init c = (none_taken half c.args.f.now, omega arith)

pub loop-x-preserved : goal.loop-x-preserved
loop-x-preserved c =
    let l = c.loop-x in
    (half_more _ l.x-index (omega arith) l.c _ l.invariant.0 c.push-c.ensures.0, omega (arith, c.push-c.ensures.1, l.invariant.1))

pub returns : goal.returns
returns c =
    let l = c.loop-x in
    let a = c.args in
    let n : a.l - 0 ≡ a.l = omega arith in
    let f = take (a.l - 0) a.f.now in
    let all : l.c ≡ appended empty (map half f) = l.invariant.0 ∙ ap (λ (t : List ℕ). appended empty (map half t)) (take_all l.x-index f c.loop-x-test.false) in
    (halved_text a.l a.f.now l.c (omega arith) (omega arith) (rw n at all), omega (arith, length-take-le a.l a.f.now (omega arith), ap (λ (k : ℕ). length (take k a.f.now)) n))
