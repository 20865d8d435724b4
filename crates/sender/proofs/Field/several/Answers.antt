-- `sender::Field::several` meets its contract: fragment 0 and the later ones.
-- Assumes nothing.
use native.Mathlib.Omega.{arith}
use mathlib.Core.Path.{◌≡◌, sym, ap, ap₂, ◌∙◌}
use mathlib.Core.List.{List, ◌∷◌}
use Prim.Native.Nat.{ℕ, ◌-◌, ◌*◌, ◌<◌}
use lib.ListN.{length, get_or, take, drop}
use Rattle.refusals.specs.Outcome.{answer}
use Rattle.sender.specs.Send.{count_of, check_of, lead_of, fragment_of}
use Rattle.refusals.proofs.OutcomeLaws.{into_is}
use Rattle.sender.proofs.CountLaws.{count_two, starts_within}
use Rattle.sender.proofs.SendLaws.{fragment_first, fragment_later}
use Rattle.sender.proofs.Field.several.Goals as goal

first_is : (message : List ℕ) (field mask count k : ℕ) → count ≡ count_of (length message) field → field < length message → k ≡ 0
    → lead_of (get_or message 0 0) k count ∷ check_of message mask count ∷ take (field - 2) (drop 1 message) ≡ fragment_of message field mask k
first_is message field mask count k e h z =
    rw (ap (λ (n : ℕ). lead_of (get_or message 0 0) k n) e, ap (check_of message mask) e, z) (sym (fragment_first message field mask h))

pub check_byte-check-requires : goal.check_byte-check-requires
check_byte-check-requires c =
    let a = c.args in
    omega (arith, count_two (length a.message.now) a.self.bytes (omega arith) (omega arith))

pub returns-then-k-eq0 : goal.returns-then-k-eq0
returns-then-k-eq0 c =
    let check = c.check_byte-check in
    let lead = c.lead_of-lead in
    let a = c.args in
    let m = a.message.now in
    let n : a.count ≡ count_of (length m) a.self.bytes = omega arith in
    into_is a.out.now
    (ap answer
    (ap₂ (λ (x y : ℕ). x ∷ y ∷ take (a.self.bytes - 2) (drop 1 m)) lead.ensures check.ensures
    ∙ first_is m a.self.bytes a.mask a.count a.k n (omega arith) c.if-k-eq0.true))
    c.first_of.ensures

pub next_of-requires : goal.next_of-requires
next_of-requires c =
    let a = c.args in
    let known : a.k * (a.self.bytes - 1) < length a.message.now = starts_within (length a.message.now) a.self.bytes a.k (omega arith) (omega arith) (omega arith) in
    omega (arith, known)

pub returns : goal.returns
returns c =
    let lead = c.lead_of-lead in
    let a = c.args in
    let m = a.message.now in
    let n : a.count ≡ count_of (length m) a.self.bytes = omega arith in
    into_is a.out.now
    (ap answer
    (ap (λ (x : ℕ). x ∷ take (a.self.bytes - 1) (drop (a.k * (a.self.bytes - 1)) m)) (lead.ensures ∙ ap (lead_of (get_or m 0 0) a.k) n)
    ∙ sym (fragment_later m a.self.bytes a.mask a.k (omega arith) (omega arith))))
    c.next_of.ensures
