-- `ax25_aprs::text::put_altitude` meets its contract.
-- Assumes nothing.
use native.Mathlib.Omega.{arith}
use mathlib.Core.Path.{◌≡◌}
use Prim.Native.Nat.{min}
use lib.ListN.{length, drop}
use Rattle.laws.specs.Bits.{unpack}
use Rattle.ax25_aprs.proofs.TextLaws.{altitude_number, altitude_no}
use Rattle.laws.proofs.WroteLaws.{wrote_none}
use Rattle.ax25_aprs.proofs.ValueLaws.{bits_left, take_min}
use Rattle.ax25_aprs.proofs.text.put_altitude.Goals as goal

pub returns-then-not-position : goal.returns-then-not-position
returns-then-not-position c =
    let a = c.args in
    rw (c.if-not-position.true, altitude_no (drop a.at (unpack a.s.now))) wrote_none

pub returns : goal.returns
returns c =
    let a = c.args in
    let b = drop a.at (unpack a.s.now) in
    let n = c.min-n in
    let e : n.result ≡ min 14 (length b) = omega (arith, n.ensures, c.remaining_at.ensures, bits_left a.s.now a.at) in
    rw (c.if-not-position.false, altitude_number b, ← take_min 14 b, ← e, ← c.value.ensures) c.put_padded.ensures
