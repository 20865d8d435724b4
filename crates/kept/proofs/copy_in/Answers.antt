-- `kept::copy_in` meets its contract.
-- Assumes nothing.
use native.Mathlib.Omega.{arith}
use Prim.Native.Nat.{◌*◌}
use Rattle.frame.proofs.PartLaws.{put_copied}
use Rattle.kept.proofs.copy_in.Goals as goal

pub returns : goal.returns
returns c = put_copied (c.args.i * 5000) _ _ _ c.copy_from_slice.ensures.after (omega arith)
