-- `ax25_body::body::position_decode` meets its contract.
-- Assumes nothing.
use lib.ListN.{drop}
use Rattle.laws.specs.Bits.{unpack}
use Rattle.ax25_aprs.specs.LatLon.{read_latlon}
use Rattle.ax25_aprs.proofs.PartLaws.{reads_then}
use Rattle.ax25_body.specs.Read.{read_position}
use borrow.Author.Rules.{rules}
use Rattle.ax25_body.proofs.body.position_decode.Goals as goal

pub returns : goal.returns
unfolding read_position
returns c =
    let a = c.args in
    reads_then c.byte-p.ensures (read_latlon (drop a.at (unpack a.s.now))) _ _ c.latlon_decode.ensures
