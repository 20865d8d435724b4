-- `sender::Field::numbered` meets its contract.
-- Assumes nothing.
use native.Mathlib.Omega.{arith}
use mathlib.Core.Path.{◌≡◌, refl, sym, ap, ◌∙◌}
use Prim.Native.Nat.{ℕ, ◌+◌, ◌-◌, ◌<◌}
use lib.ListN.{length}
use Rattle.refusals.specs.Outcome.{answer}
use Rattle.sender.specs.Send.{count_of, most_of}
use Rattle.refusals.proofs.OutcomeLaws.{into_is, into_refuses}
use Rattle.sender.proofs.SendLaws.{Sendable, field_accepted, fragment_whole, send_crowded, send_past, send_answer}
use Rattle.sender.proofs.Field.numbered.Goals as goal

most_is : (mask : ℕ) → most_of mask ≡ 255 - mask + 2
unfolding most_of
most_is mask = refl

pub returns-then-room-fragments : goal.returns-then-room-fragments
returns-then-room-fragments c =
    let a = c.args in
    let m = a.message.now in
    into_refuses a.out.now 12
    (send_crowded m a.self.bytes a.mask a.k (field_accepted a.self.bytes (omega arith) (omega arith)) c.requires.mask_value (omega arith) (omega arith) (omega arith)
    (omega (arith, most_is a.mask, c.count-fragments.ensures)))

pub returns-then-fragments-k : goal.returns-then-fragments-k
returns-then-fragments-k c =
    let a = c.args in
    let sendable_here : Sendable a.message.now a.self.bytes a.mask = record { field_ok_holds = field_accepted a.self.bytes (omega arith) (omega arith); mask_ok_holds = c.requires.mask_value; some = omega arith; short = omega arith; first_low = omega arith; room = omega (arith, most_is c.args.mask, c.count-fragments.ensures) } in
    into_refuses a.out.now 13
    (send_past a.message.now a.self.bytes a.mask a.k sendable_here (omega (arith, c.count-fragments.ensures)))

pub returns-then-len-self : goal.returns-then-len-self
returns-then-len-self c =
    let a = c.args in
    let sendable_here : Sendable a.message.now a.self.bytes a.mask = record { field_ok_holds = field_accepted a.self.bytes (omega arith) (omega arith); mask_ok_holds = c.requires.mask_value; some = omega arith; short = omega arith; first_low = omega arith; room = omega (arith, most_is c.args.mask, c.count-fragments.ensures, c.if-room-fragments.false) } in
    let m = a.message.now in
    let below : a.k < count_of (length m) a.self.bytes = omega (arith, c.count-fragments.ensures, c.if-fragments-k.false) in
    into_is a.out.now
    (sym
    (send_answer m a.self.bytes a.mask a.k sendable_here below
    ∙ ap answer (fragment_whole m a.self.bytes a.mask a.k c.if-len-self.true below)))
    c.whole.ensures

pub returns : goal.returns
returns c =
    let a = c.args in
    let sendable_here : Sendable a.message.now a.self.bytes a.mask = record { field_ok_holds = field_accepted a.self.bytes (omega arith) (omega arith); mask_ok_holds = c.requires.mask_value; some = omega arith; short = omega arith; first_low = omega arith; room = omega (arith, most_is c.args.mask, c.count-fragments.ensures, c.if-room-fragments.false) } in
    let m = a.message.now in
    into_is a.out.now
    (sym (send_answer m a.self.bytes a.mask a.k sendable_here (omega (arith, c.count-fragments.ensures, c.if-fragments-k.false))))
    c.several.ensures
