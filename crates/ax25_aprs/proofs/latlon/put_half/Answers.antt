-- `ax25_aprs::latlon::put_half` meets its contract.
-- Assumes nothing.
use native.Mathlib.Omega.{arith}
use Rattle.laws.proofs.WroteLaws.{wrote_then}
use Rattle.ax25_aprs.specs.Place.{half_text}
use Rattle.ax25_aprs.proofs.PlaceLaws.{dotted_size}
use Rattle.ax25_aprs.proofs.latlon.put_half.Goals as goal

pub byte-q-requires : goal.byte-q-requires
byte-q-requires c =
    let a = c.args in
    omega (arith, c.put_dotted-p.ensures.next_is, dotted_size a.k a.n a.v)

pub byte-requires : goal.byte-requires
byte-requires c =
    let a = c.args in
    omega (arith, c.put_dotted-p.ensures.next_is, c.byte-q.ensures.next_is, dotted_size a.k a.n a.v)

pub returns : goal.returns
unfolding half_text
returns c = wrote_then c.put_dotted-p.ensures (wrote_then c.byte-q.ensures c.byte.ensures)
