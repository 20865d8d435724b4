-- Commands and types by number.
-- Assumes nothing.
use Rattle.std.specs.Prelude.{ℕ, eqb}
use Rattle.laws.specs.Pick.{pick}

-- `Command`
abbrev pub Ax25 : ℕ
Ax25 = 0

abbrev pub Ax25Long : ℕ
Ax25Long = 1

abbrev pub Generic : ℕ
Generic = 2

-- `AprsType`, as the source numbers it
abbrev pub Text : ℕ
Text = 0

abbrev pub Binary : ℕ
Binary = 1

abbrev pub Position : ℕ
Position = 2

abbrev pub TimestampedPosition : ℕ
TimestampedPosition = 3

abbrev pub Message : ℕ
Message = 4

abbrev pub ThirdParty : ℕ
ThirdParty = 6

-- `call_len`: the letters of a call under a command
abbrev pub call_len : ℕ → ℕ
call_len command = pick (eqb command Ax25Long) 7 6
