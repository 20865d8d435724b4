-- A new receiver: document 01, "kiss.rs, receiver", with the tallies of document 02, E12.
-- Assumes nothing.
use Rattle.std.specs.Prelude.{false, ℕ}
use Rattle.laws.specs.Pick.{pick}
use Rattle.refusals.specs.Limits.{mask_ok}
use Rattle.refusals.specs.Outcome.{Outcome, refused, answer}
use Rattle.receiver.specs.declared.Joiner.{Joiner}
use Rattle.receiver.specs.declared.Tallies.{Tallies}
use Rattle.receiver.specs.declared.Reassembler.{Reassembler}

-- nothing held, no fragments, no overflow
abbrev pub fresh_joiner : ℕ → Joiner
fresh_joiner mask = record { held = 0; nfrag = 0; count = 0; crc_mask = mask; overflow = false }

-- "a fresh receiver starts them at 0"
abbrev pub no_tallies : Tallies
no_tallies =
    record { offered = 0; more = 0; done = 0; wrong_length = 0; no_fragment = 0; overflow = 0; limit = 0; check = 0 }

-- both
abbrev pub fresh_of : ℕ → Reassembler
fresh_of mask = record { state = fresh_joiner mask; tallies = no_tallies }

-- "A new receiver 9."
unfoldable pub new_of : ℕ → Outcome Reassembler
new_of mask = pick (mask_ok mask) (answer (fresh_of mask)) (refused 9)
