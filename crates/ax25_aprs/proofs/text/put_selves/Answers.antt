-- `ax25_aprs::text::put_selves` meets its contract.
-- Assumes nothing.
use native.Mathlib.Omega.{arith}
use lib.ListN.{drop}
use Rattle.laws.specs.Bits.{unpack}
use Rattle.bits.proofs.WordLaws.{length_numbers}
use Rattle.ax25_aprs.proofs.text.put_selves.Goals as goal

pub returns : goal.returns
returns c =
    let a = c.args in
    let n = c.selves-n in
    let put = c.sevens.ensures in record { result_in_bounds = n.ensures; wrote = record { stored = put.stored; next_is = omega (arith, put.next_is, length_numbers 7 n.result (drop a.at (unpack a.s.now))) } }
