-- `crc::crc_long` meets its contract: the bytes in whole groups of 128 come before those in groups of eight.
-- Assumes nothing.
use mathlib.Core.Path.{◌≡◌, sym, ap, ◌∙◌}
use Prim.Native.Nat.{ℕ, ◌+◌, ◌*◌, ◌/◌}
use native.Mathlib.Omega.{arith}
use lib.ListN.{length, take, drop, length-drop}
use Rattle.laws.proofs.ListLaws.{from_place}
use Rattle.crc.specs.Crc.{start, crc_from}
use Rattle.crc.proofs.LinearLaws.{from_more}
use Rattle.crc.proofs.crc_long.Goals as goal

pub crc_end-requires : goal.crc_end-requires
crc_end-requires c =
    let l = c.args.«data».now in
    let a = length l / 128 * 128 in
    let k = length (drop a l) / 8 * 8 in
    let e : a + k ≡ length l / 8 * 8 = omega (arith, length-drop a l) in
    c.crc_rest.ensures
    ∙ rw (c.crc_folded-c.ensures, from_place l a) (sym (from_more start a k l) ∙ ap (λ (n : ℕ). crc_from start (take n l)) e)
