-- `texts::hex::digit` meets its contract, by ranges.
-- Assumes nothing.
use native.Mathlib.Omega.{arith}
use mathlib.Core.Path.{sym}
use Rattle.texts.proofs.HexLaws.{value_low, value_digit, value_middle, value_capital, value_upper, value_small, value_high}
use Rattle.texts.proofs.hex.digit.Goals as goal

pub returns-in-48-to-57 : goal.returns-in-48-to-57
returns-in-48-to-57 c = (sym (value_digit _ (omega arith) (omega arith)), omega arith)

pub returns-in-65-to-70 : goal.returns-in-65-to-70
returns-in-65-to-70 c = (omega (arith, value_capital c.args.c (omega arith) (omega arith)), omega arith)

pub returns-in-97-to-102 : goal.returns-in-97-to-102
returns-in-97-to-102 c = (omega (arith, value_small c.args.c (omega arith) (omega arith)), omega arith)

pub returns-in_default : goal.returns-in_default
returns-in_default c = (sym (value_low _ (omega arith)), omega arith)

pub returns-in_default-2 : goal.returns-in_default-2
returns-in_default-2 c = (sym (value_middle _ (omega arith) (omega arith)), omega arith)

pub returns-in_default-3 : goal.returns-in_default-3
returns-in_default-3 c = (sym (value_upper _ (omega arith) (omega arith)), omega arith)

pub returns-in_default-4 : goal.returns-in_default-4
returns-in_default-4 c = (sym (value_high _ (omega arith)), omega arith)
