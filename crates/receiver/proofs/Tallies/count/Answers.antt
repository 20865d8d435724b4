-- `Tallies::count` meets its contract, answer by answer.
-- Assumes nothing.
use mathlib.Core.Path.{◌≡◌, sym}
use Rattle.receiver.specs.declared.Cause.TheVariants.{WrongLength, NoFragment, Overflow, Limit, Check}
use Rattle.receiver.proofs.TallyLaws.{tallied_more, tallied_done, tallied_wrong_length, tallied_no_fragment, tallied_overflow, tallied_limit, tallied_check}
use Rattle.receiver.proofs.Tallies.count.Goals as goal

pub returns-in-Dropped-WrongLength : goal.returns-in-Dropped-WrongLength
returns-in-Dropped-WrongLength c =
    let cause : c.in-Dropped-WrongLength.field-0 ≡ WrongLength = rw c.in-Dropped-WrongLength.is at c.in-Dropped-WrongLength.field-0-is in
    rw (c.in-Dropped-WrongLength.is, cause) (sym (tallied_wrong_length c.args.self))

pub returns-in-Dropped-NoFragment : goal.returns-in-Dropped-NoFragment
returns-in-Dropped-NoFragment c =
    let cause : c.in-Dropped-NoFragment.field-0 ≡ NoFragment = rw c.in-Dropped-NoFragment.is at c.in-Dropped-NoFragment.field-0-is in
    rw (c.in-Dropped-NoFragment.is, cause) (sym (tallied_no_fragment c.args.self))

pub returns-in-Dropped-Overflow : goal.returns-in-Dropped-Overflow
returns-in-Dropped-Overflow c =
    let cause : c.in-Dropped-Overflow.field-0 ≡ Overflow = rw c.in-Dropped-Overflow.is at c.in-Dropped-Overflow.field-0-is in
    rw (c.in-Dropped-Overflow.is, cause) (sym (tallied_overflow c.args.self))

pub returns-in-Dropped-Limit : goal.returns-in-Dropped-Limit
returns-in-Dropped-Limit c =
    let cause : c.in-Dropped-Limit.field-0 ≡ Limit = rw c.in-Dropped-Limit.is at c.in-Dropped-Limit.field-0-is in
    rw (c.in-Dropped-Limit.is, cause) (sym (tallied_limit c.args.self))

pub returns-in-Dropped-Check : goal.returns-in-Dropped-Check
returns-in-Dropped-Check c =
    let cause : c.in-Dropped-Check.field-0 ≡ Check = rw c.in-Dropped-Check.is at c.in-Dropped-Check.field-0-is in
    rw (c.in-Dropped-Check.is, cause) (sym (tallied_check c.args.self))

pub returns-in-More : goal.returns-in-More
returns-in-More c = rw c.in-More.is (sym (tallied_more c.args.self))

pub returns-in-Done : goal.returns-in-Done
returns-in-Done c = rw c.in-Done.is (sym (tallied_done c.args.self _ _))
