-- `receiver::fragment_length` meets its contract. The field is gone through from its end: after i there is no 14.
-- Assumes nothing.
use mathlib.Core.Path.{◌≡◌}
use lib.ListN.{take}
use Rattle.receiver.specs.Push.{last_from}
use Rattle.receiver.proofs.fragment_length.Given as goal

abbrev pub invariant-loop-i : goal.invariant-loop-i
invariant-loop-i l = last_from 0 0 (take l.i l.f) ≡ last_from 0 0 (take l.field l.f)
