-- `ax25_address::call_bytes::ssid_of` meets its contract: a text of no letter or several, and a letter that has no number of its own.
-- Assumes nothing.
use native.Mathlib.Omega.{arith}
use Rattle.laws.specs.Pick.{pick}
use Rattle.std.proofs.lemmas.Grind.{common_steps}
use Rattle.ax25_address.proofs.CallField.{ssid_one, ssid_other}
use Rattle.ax25_address.proofs.call_bytes.ssid_of.Goals as goal
use Rattle.ax25_address.proofs.call_bytes.ssid_of.Goals.{in_default-via-then-s-lt1, in_default-via-else-s-lt1+then-s-lt2+in_default-1, in_default-via-else-s-lt1+else-s-lt2}

pub returns-in_default : goal.returns-in_default
unfolding pick
returns-in_default c =
    elim c.in_default.branch [
      | in_default-via-then-s-lt1 w ↦ grind (arith, ssid_other)
      | in_default-via-else-s-lt1+then-s-lt2+in_default-1 w ↦ grind (arith, common_steps, ssid_one)
      | in_default-via-else-s-lt1+else-s-lt2 w ↦ grind (arith, ssid_other)
    ]
