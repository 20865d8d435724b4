-- `ax25_decode::read_bytes` meets its contract.
-- Assumes nothing.
use borrow.Author.Rules.{rules}
use native.Mathlib.Omega.{arith}
use Prim.Native.Nat.{◌-◌, ◌*◌, ◌/◌}
use lib.ListN.{length, drop, length-drop}
use Rattle.laws.specs.Bits.{unpack}
use Rattle.laws.proofs.ByteLaws.{length_unpack}
use Rattle.laws.proofs.WroteLaws.{wrote_as}
use Rattle.ax25_decode.proofs.BodyLaws.{bytes_in_lem}
use Rattle.ax25_decode.proofs.read_bytes.Goals as goal

pub returns : goal.returns
returns c =
    let a = c.args in
    let s = a.s.now in
    let b = drop a.at (unpack s) in
    wrote_as (bytes_in_lem ((length s * 8 - a.at) / 8) b (omega (arith, length-drop a.at (unpack s), length_unpack s))) c.bytes_at.ensures
