-- `crc::crc_pair` meets its contract.
-- Assumes nothing.
use mathlib.Core.Path.{◌≡◌}
use Prim.Native.Nat.{◌+◌, ◌*◌}
use native.Mathlib.Omega.{arith}
use Rattle.crc.specs.Rows.{pair_of}
use Rattle.crc.proofs.crc_pair.Goals as goal

pub returns : goal.returns
unfolding pair_of
returns c =
    let k = c.args.k in
    let e : (k + 1 + 1) * 8 ≡ (k + 2) * 8 = omega arith in
    rw (c.entry.ensures, e, c.entry-2.ensures)
