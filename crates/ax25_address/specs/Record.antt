-- What `parse` answers of a frame: the source's `Record`, without the addresses, which are read again where they are needed.
-- Assumes nothing.
use Rattle.std.specs.Prelude.{Bool, ℕ, suc, length}
use Rattle.std.specs.Prelude.{Option, None, Some}
use Rattle.std.specs.Option.{option_map}
use Rattle.ax25_address.specs.Kind.{type_number}
use Rattle.ax25_address.specs.Parse.{Parsed, is_ap, type_of, alias_of}
use Rattle.ax25_address.specs.declared.record.Record.{Record}

-- how many digipeaters, whether the destination starts with AP, control, PID, the alias's number, and the type's
pub record Seen : Type 0 where
  pub digis : ℕ
  pub ap : Bool
  pub ctrl : ℕ
  pub pid : ℕ
  pub alias : ℕ
  pub typ : ℕ

abbrev pub seen : ℕ → Parsed → Seen
seen command r =
    record { digis = length r.digis; ap = is_ap r; ctrl = r.control; pid = r.pid; alias = alias_of r.digis; typ = type_of command r }

unfoldable pub seen_of : ℕ → Option Parsed → Option Seen
seen_of command None = None
seen_of command (Some r) = Some (seen command r)

-- the number of an alias that is counted from 0; 0 where there is none
abbrev pub alias_number : Option ℕ → ℕ
alias_number None = 0
alias_number (Some i) = suc i

abbrev pub record_of : Record → Seen
record_of r = record { digis = r.digis; ap = r.ap; ctrl = r.ctrl; pid = r.pid; alias = alias_number r.alias; typ = type_number r.aprs_type }

abbrev pub found_of : Option Record → Option Seen
found_of = option_map record_of
