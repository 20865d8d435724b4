-- `ax25_address::parse::digi_fields` meets its contract. The invariant: those that are left, with the n that were passed, are all.
-- Assumes nothing.
use mathlib.Core.Path.{◌≡◌}
use Prim.Native.Nat.{◌≤◌}
use lib.ListN.{length}
use Rattle.ax25_address.specs.Digis.{digis_from}
use Rattle.ax25_address.proofs.DigiLaws.{end_of}
use Rattle.ax25_address.proofs.parse.digi_fields.Given as goal

abbrev pub invariant-loop-n : goal.invariant-loop-n
invariant-loop-n l = (end_of l.l l.n ≤ length l.frame) × (digis_from l.l l.n l.frame ≡ digis_from l.l 0 l.frame)
