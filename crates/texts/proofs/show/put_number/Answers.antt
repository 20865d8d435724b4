-- `texts::show::put_number` meets its contract.
-- Assumes nothing.
use native.Mathlib.Omega.{arith}
use Rattle.laws.proofs.WroteLaws.{wrote_then}
use Rattle.texts.specs.Hex.{hex_byte}
use Rattle.texts.proofs.show.put_number.Goals as goal

pub byte-requires : goal.byte-requires
unfolding hex_byte
byte-requires c = omega (arith, c.put_byte-q.ensures.next_is, c.copy-p.ensures.next_is)

pub returns : goal.returns
returns c =
    wrote_then c.copy-p.ensures (wrote_then c.put_byte-q.ensures c.byte.ensures)
