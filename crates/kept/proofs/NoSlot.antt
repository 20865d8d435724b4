-- The slot that a read past the end would give.
-- Assumes nothing.
use mathlib.Core.List.{[]}
use Rattle.receiver.specs.New.{no_tallies}
use Rattle.kept.specs.declared.Slot.{Slot}

abbrev pub no_slot : Slot
no_slot = record { len = 0; name = []; receiver = record { held = 0; nfrag = 0; count = 0; crc_mask = 0; overflow = 0; tallies = no_tallies } }
