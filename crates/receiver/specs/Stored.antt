-- The receiver in numbers alone, as it is kept and as it crosses to C.
-- Assumes nothing.
use Rattle.std.specs.Prelude.{Bool, not, ℕ, eqb}
use Rattle.laws.specs.Bits.{num}
use Rattle.receiver.specs.declared.Reassembler.{Reassembler}
use Rattle.receiver.specs.declared.Stored.{Stored}

-- a byte as a flag: every byte but 0 is true
abbrev pub flag : ℕ → Bool
flag b = not (eqb b 0)

-- the receiver that is stored
abbrev pub receiver_of : Stored → Reassembler
receiver_of s =
    record {
      state = record { held = s.held; nfrag = s.nfrag; count = s.count; crc_mask = s.crc_mask; overflow = flag s.overflow };
      tallies = s.tallies;
    }

-- a receiver as it is stored; its overflow is 0 or 1
abbrev pub stored_of : Reassembler → Stored
stored_of r =
    record {
      held = r.state.held;
      nfrag = r.state.nfrag;
      count = r.state.count;
      crc_mask = r.state.crc_mask;
      overflow = num r.state.overflow;
      tallies = r.tallies;
    }
