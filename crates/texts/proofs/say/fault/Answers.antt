-- `texts::say::fault` meets its contract, by cases.
-- Assumes nothing.
use Rattle.texts.specs.Say.{fault_of}
use Rattle.texts.proofs.say.fault.Goals as goal

pub returns-in-NoDigit : goal.returns-in-NoDigit
unfolding fault_of
returns-in-NoDigit c = rw c.in-NoDigit.is

pub returns-in-Odd : goal.returns-in-Odd
unfolding fault_of
returns-in-Odd c = rw c.in-Odd.is

pub returns-in-TooLong : goal.returns-in-TooLong
unfolding fault_of
returns-in-TooLong c = rw c.in-TooLong.is
