-- `texts::say::reason` meets its contract, number by number.
-- Assumes nothing.
use mathlib.Core.Path.{sym}
use native.Mathlib.Omega.{arith}
use Rattle.laws.specs.Pick.{pick}
use Rattle.laws.proofs.Cases.{by_le, by_eq}
use Rattle.texts.specs.Part.{piece_of, before, behind}
use Rattle.texts.specs.Say.{reason_of}
use Rattle.texts.proofs.SayLaws.{reason_past}
use Rattle.texts.proofs.say.reason.Goals as goal

pub returns-in-1 : goal.returns-in-1
unfolding reason_of piece_of before behind pick
returns-in-1 c = rw c.in-1.is

pub returns-in-2 : goal.returns-in-2
unfolding reason_of piece_of before behind pick
returns-in-2 c = rw c.in-2.is

pub returns-in-3 : goal.returns-in-3
unfolding reason_of piece_of before behind pick
returns-in-3 c = rw c.in-3.is

pub returns-in-4 : goal.returns-in-4
unfolding reason_of piece_of before behind pick
returns-in-4 c = rw c.in-4.is

pub returns-in-5 : goal.returns-in-5
unfolding reason_of piece_of before behind pick
returns-in-5 c = rw c.in-5.is

pub returns-in-6 : goal.returns-in-6
unfolding reason_of piece_of before behind pick
returns-in-6 c = rw c.in-6.is

pub returns-in-7 : goal.returns-in-7
unfolding reason_of piece_of before behind pick
returns-in-7 c = rw c.in-7.is

pub returns-in-8 : goal.returns-in-8
unfolding reason_of piece_of before behind pick
returns-in-8 c = rw c.in-8.is

pub returns-in-9 : goal.returns-in-9
unfolding reason_of piece_of before behind pick
returns-in-9 c = rw c.in-9.is

pub returns-in-10 : goal.returns-in-10
unfolding reason_of piece_of before behind pick
returns-in-10 c = rw c.in-10.is

pub returns-in-11 : goal.returns-in-11
unfolding reason_of piece_of before behind pick
returns-in-11 c = rw c.in-11.is

pub returns-in-12 : goal.returns-in-12
unfolding reason_of piece_of before behind pick
returns-in-12 c = rw c.in-12.is

pub returns-in-13 : goal.returns-in-13
unfolding reason_of piece_of before behind pick
returns-in-13 c = rw c.in-13.is

pub returns-in-14 : goal.returns-in-14
unfolding reason_of piece_of before behind pick
returns-in-14 c = rw c.in-14.is

pub returns-in-15 : goal.returns-in-15
unfolding reason_of piece_of before behind pick
returns-in-15 c = rw c.in-15.is

pub returns-in-16 : goal.returns-in-16
unfolding reason_of piece_of before behind pick
returns-in-16 c = rw c.in-16.is

pub returns-in-17 : goal.returns-in-17
unfolding reason_of piece_of before behind pick
returns-in-17 c = rw c.in-17.is

pub returns-in-20 : goal.returns-in-20
unfolding reason_of piece_of before behind pick
returns-in-20 c = rw c.in-20.is

pub returns-in-21 : goal.returns-in-21
unfolding reason_of piece_of before behind pick
returns-in-21 c = rw c.in-21.is

pub returns-in-27 : goal.returns-in-27
unfolding reason_of piece_of before behind pick
returns-in-27 c = rw c.in-27.is

pub returns-in_default : goal.returns-in_default
unfolding reason_of piece_of before behind pick
returns-in_default c =
    let n = c.args.n in
    by_le 28 n
    (λ h. sym (reason_past n h))
    (λ h. by_eq n 0 (λ e. rw e)
    (λ n0. by_eq n 18 (λ e. rw e)
    (λ n18. by_eq n 19 (λ e. rw e)
    (λ n19. by_eq n 22 (λ e. rw e)
    (λ n22. by_eq n 23 (λ e. rw e)
    (λ n23. by_eq n 24 (λ e. rw e)
    (λ n24. by_eq n 25 (λ e. rw e)
    (λ n25. by_eq n 26 (λ e. rw e)
    (λ n26. absurd (omega arith))))))))))
