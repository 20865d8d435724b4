-- `ax25_body::third::inner_type` meets its contract.
-- Assumes nothing.
use mathlib.Core.Path.{sym}
use Rattle.ax25_body.proofs.ThirdLaws.{inner_zero, inner_one, inner_two, inner_other}
use Rattle.ax25_body.proofs.third.inner_type.Goals as goal

pub returns-in-0 : goal.returns-in-0
returns-in-0 c = sym (inner_zero c.args.k c.in-0.is)

pub returns-in-1 : goal.returns-in-1
returns-in-1 c = sym (inner_one c.args.k c.in-1.is)

pub returns-in-2 : goal.returns-in-2
returns-in-2 c = sym (inner_two c.args.k c.in-2.is)

pub returns-in_default : goal.returns-in_default
returns-in_default c = sym (inner_other c.args.k c.in_default.in_default-own.rest.0.0.1 c.in_default.in_default-own.rest.0.1 c.in_default.in_default-own.rest.1)
