-- `crc::table::entry` meets its contract: the table is the rows.
-- Assumes nothing.
use mathlib.Core.Path.{◌≡◌, refl}
use mathlib.Core.List.{List}
use Prim.Native.Nat.{ℕ, ◌+◌, ◌*◌, ◌/◌, ◌%◌, ◌<◌}
use native.Mathlib.Omega.{arith}
use lib.Bits.{bit_xor}
use lib.ListN.{get_or}
use Rattle.laws.specs.Pick.{pick}
use Rattle.crc.specs.Crc.{crc_bit, crc_steps}
use Rattle.crc.specs.Rows.{rows, rows_from, four_on, tops}
use Rattle.crc.proofs.LinearLaws.{nibbles}
use Rattle.crc.proofs.TableLaws.{row}
use Rattle.crc.proofs.table.entry.Goals as goal

-- the two halves of a byte
halves : (table : List ℕ) (k b : ℕ) → table ≡ rows → k < 8 → b < 256
    → bit_xor (get_or table (k * 32 + 16 + b / 16) 0) (get_or table (k * 32 + b % 16) 0) ≡ crc_steps ((k + 1) * 8) (b * 256)
halves table k b e h l =
    rw (
      nibbles k b l,
      e,
      row (k * 2 + 1) (b / 16) (k * 32 + 16 + b / 16) (omega arith) (omega arith) (omega arith),
      row (k * 2) (b % 16) (k * 32 + b % 16) (omega arith) (omega arith) (omega arith),
    )

pub returns : goal.returns
unfolding rows rows_from four_on tops crc_steps crc_bit pick
returns c = halves _ c.args.k c.args.b refl c.requires.0 c.requires.1
