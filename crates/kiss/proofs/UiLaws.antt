-- UI in the summary: control is 000P0011.
-- Assumes nothing.
use mathlib.Core.Path.{◌≡◌, refl}
use mathlib.Core.Bool.{Bool, true}
use Prim.Native.Nat.{ℕ, ◌+◌, ◌*◌, ◌/◌, ◌%◌, ◌<◌}
use lib.Dec.{eqb}
use Rattle.laws.proofs.Cases.{alike, alike_eq}
use Rattle.laws.proofs.TextLaws.{below, at_each}
use Rattle.kiss.specs.Codec.{ui_control}

ui_test : ℕ → Bool
ui_test c = alike (ui_control c) (eqb (c / 32 * 32 + c % 16) 0x03)

all_tested : below ui_test 256 ≡ true
unfolding below ui_test alike
all_tested = refl

-- of all bytes control is UI exactly where it is 03 once its bit 10 is taken out, which is P
pub ui_polled : (c : ℕ) → c < 256 → ui_control c ≡ eqb (c / 32 * 32 + c % 16) 0x03
unfolding ui_test
ui_polled c h = alike_eq (ui_control c) (eqb (c / 32 * 32 + c % 16) 0x03) (at_each ui_test 256 all_tested c h)
