-- `ax25_aprs::text::put_code` meets its contract: each arm is a range of codes.
-- Assumes nothing.
use native.Mathlib.Omega.{arith}
use lib.ListN.{drop}
use Rattle.laws.specs.Bits.{unpack}
use Rattle.ax25_aprs.proofs.WordLaws.{word_size}
use Rattle.ax25_aprs.proofs.TextLaws.{code_zero, code_one, code_word, code_none, code_self}
use Rattle.laws.proofs.WroteLaws.{wrote_none, wrote_then}
use Rattle.ax25_aprs.proofs.text.put_code.Goals as goal

pub put_altitude-requires : goal.put_altitude-requires
put_altitude-requires c = omega (arith, c.put_word-next.ensures.next_is, word_size 1 (omega arith) (omega arith))

pub returns-in-0 : goal.returns-in-0
returns-in-0 c =
    let a = c.args in
    rw (code_zero a.position a.code (drop a.at (unpack a.s.now)) (omega arith)) wrote_none

pub returns-in-1 : goal.returns-in-1
returns-in-1 c =
    let a = c.args in
    rw (code_one a.position a.code (drop a.at (unpack a.s.now)) c.in-1.is)
    (wrote_then c.put_word-next.ensures c.put_altitude.ensures)

pub returns-in-2-to-9 : goal.returns-in-2-to-9
returns-in-2-to-9 c =
    let a = c.args in
    rw (code_word a.position a.code (drop a.at (unpack a.s.now)) (omega arith) (omega arith)) c.put_word.ensures

pub returns-in-10-to-31 : goal.returns-in-10-to-31
returns-in-10-to-31 c =
    let a = c.args in
    rw (code_none a.position a.code (drop a.at (unpack a.s.now)) (omega arith) (omega arith)) wrote_none

pub returns-in-32-to-127 : goal.returns-in-32-to-127
returns-in-32-to-127 c =
    let a = c.args in
    rw (code_self a.position a.code (drop a.at (unpack a.s.now)) (omega arith)) c.byte.ensures

pub returns-in_default : goal.returns-in_default
returns-in_default c = absurd (omega arith)
