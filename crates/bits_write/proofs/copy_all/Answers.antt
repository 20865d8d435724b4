-- `bits_write::copy_all` meets its contract.
-- Assumes nothing.
use mathlib.Core.Path.{refl}
use native.Mathlib.Omega.{arith}
use Rattle.bits_write.proofs.CopyLaws.{put_mid_sets}
use Rattle.bits_write.proofs.copy_all.Goals as goal

pub returns : goal.returns
returns c =
    let a = c.args in
    let e = c.copy_from_slice.ensures.after in
    rw e (put_mid_sets a.out.now a.src.now a.at _ refl (omega arith))
