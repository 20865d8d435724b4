-- `sender::Field::next_of` meets its contract: the first byte and then as many bytes as there are, at most field - 1.
-- Assumes nothing.
use native.Mathlib.Omega.{arith}
use mathlib.Core.Path.{◌≡◌, sym, ap, ◌∙◌}
use mathlib.Core.List.{List, ◌∷◌}
use Prim.Native.Nat.{ℕ, suc, ◌+◌, ◌-◌, min}
use lib.ListN.{length, take, drop, length-take, length-drop}
use lib.Seq.{take_all}
use Rattle.laws.proofs.Cases.{by_le}
use Rattle.laws.proofs.WroteLaws.{wrote_then, wrote_as}
use Rattle.refusals.proofs.OutcomeLaws.{into_short, into_wrote}
use Rattle.sender.proofs.Field.next_of.Goals as goal

size : (n start : ℕ) (l : List ℕ) → length (take n (drop start l)) ≡ min n (length l - start)
size n start l = length-take n (drop start l) ∙ ap (min n) (length-drop start l)

-- the part up to the end or of n bytes, whichever is less
least_part : (n start : ℕ) (l : List ℕ) (r : ℕ) → r ≡ min n (length l - start) → take (start + r - start) (drop start l) ≡ take n (drop start l)
least_part n start l r e =
    by_le n (length l - start)
    (λ h. let z : start + r - start ≡ n = omega arith in ap (λ (k : ℕ). take k (drop start l)) z)
    (λ h. take_all (start + r - start) (drop start l) (omega (arith, length-drop start l))
    ∙ sym (take_all n (drop start l) (omega (arith, length-drop start l))))

pub returns-then-out-size : goal.returns-then-out-size
returns-then-out-size c =
    let a = c.args in
    let m = a.message.now in
    sym (into_short (a.lead ∷ take (a.self.bytes - 1) (drop a.start m)) a.out.now
    (omega (arith, size (a.self.bytes - 1) a.start m, c.min-n.ensures, c.if-out-size.true)))

pub returns : goal.returns
returns c =
    let least = c.min-n in
    let a = c.args in
    let m = a.message.now in
    let part = take (a.self.bytes - 1) (drop a.start m) in
    let n : least.result + 1 ≡ suc (length part) = omega (arith, size (a.self.bytes - 1) a.start m, least.ensures) in
    rw n
    (into_wrote (a.lead ∷ part) a.out.now (omega (arith, c.if-out-size.false))
    (wrote_as (ap (λ (l : List ℕ). a.lead ∷ l) (least_part (a.self.bytes - 1) a.start m least.result least.ensures))
    (wrote_then c.byte-at.ensures c.copy.ensures)))
