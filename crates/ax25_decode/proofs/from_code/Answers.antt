-- `ax25_decode::from_code` meets its contract.
-- Assumes nothing.
use Rattle.ax25_address.specs.declared.classify.AprsType.TheVariants.{Text, Binary, Position, TimestampedPosition, Message, ThirdParty}
use Rattle.ax25_decode.proofs.HeadLaws.{type_here, type_none}
use Rattle.ax25_decode.proofs.from_code.Goals as goal

pub returns-in-0 : goal.returns-in-0
returns-in-0 c = type_here Text _ _ c.in-0.is

pub returns-in-1 : goal.returns-in-1
returns-in-1 c = type_here Binary _ _ c.in-1.is

pub returns-in-2 : goal.returns-in-2
returns-in-2 c = type_here Position _ _ c.in-2.is

pub returns-in-3 : goal.returns-in-3
returns-in-3 c = type_here TimestampedPosition _ _ c.in-3.is

pub returns-in-4 : goal.returns-in-4
returns-in-4 c = type_here Message _ _ c.in-4.is

pub returns-in-6 : goal.returns-in-6
returns-in-6 c = type_here ThirdParty _ _ c.in-6.is

pub returns-in_default : goal.returns-in_default
returns-in_default c =
    let rest = c.in_default.in_default-own.rest in
    type_none _ _ rest.0.0.0.0.0.1 rest.0.0.0.0.1 rest.0.0.0.1 rest.0.0.1 rest.0.1 rest.1
