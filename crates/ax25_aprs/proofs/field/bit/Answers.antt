-- `ax25_aprs::field::bit` meets its contract.
-- Assumes nothing.
use native.Mathlib.Omega.{arith}
use Rattle.laws.specs.Bits.{unpack}
use Rattle.laws.proofs.ByteLaws.{length_unpack}
use Rattle.ax25_aprs.proofs.ValueLaws.{bit_told}
use Rattle.ax25_aprs.proofs.field.bit.Goals as goal

pub returns : goal.returns
returns c =
    let a = c.args in
    bit_told (unpack a.s.now) a.at c.value.result (omega (arith, length_unpack a.s.now)) c.value.ensures
