-- `sender::Field::first_of` meets its contract: the fragment has as many bytes as the field.
-- Assumes nothing.
use native.Mathlib.Omega.{arith}
use mathlib.Core.Path.{◌≡◌, sym, ap, ◌∙◌}
use mathlib.Core.List.{List, ◌∷◌}
use Prim.Native.Nat.{ℕ, suc, ◌-◌, ◌<◌}
use lib.ListN.{length, take, drop, length-drop}
use lib.Seq.{length-take-le}
use Rattle.laws.proofs.WroteLaws.{wrote_then, wrote_as}
use Rattle.refusals.specs.Outcome.{left, answer}
use Rattle.refusals.proofs.OutcomeLaws.{into_short, into_wrote}
use Rattle.sender.proofs.Field.first_of.Goals as goal

size : (message : List ℕ) (field : ℕ) → field < length message → length (take (field - 2) (drop 1 message)) ≡ field - 2
size message field h = length-take-le (field - 2) (drop 1 message) (omega (arith, length-drop 1 message))

pub returns-then-out-self : goal.returns-then-out-self
returns-then-out-self c =
    let a = c.args in
    let m = a.message.now in
    sym (into_short (a.lead ∷ a.check ∷ take (a.self.bytes - 2) (drop 1 m)) a.out.now
    (omega (arith, size m a.self.bytes (omega arith), c.if-out-self.true)))

pub returns : goal.returns
returns c =
    let a = c.args in
    let m = a.message.now in
    let part = take (a.self.bytes - 2) (drop 1 m) in
    let s = size m a.self.bytes (omega arith) in
    let n : a.self.bytes ≡ suc (suc (length part)) = omega arith in
    let z : a.self.bytes - 1 - 1 ≡ a.self.bytes - 2 = omega arith in
    ap (λ (k : ℕ). left (answer k) c.copy.new.out) n
    ∙ into_wrote (a.lead ∷ a.check ∷ part) a.out.now (omega (arith, c.if-out-self.false))
    (wrote_as (ap (λ (k : ℕ). a.lead ∷ a.check ∷ take k (drop 1 m)) z)
    (wrote_then (wrote_then c.byte-at.ensures c.byte-rest.ensures) c.copy.ensures))
