-- `ax25_token::names::two_at` meets its contract.
-- Assumes nothing.
use mathlib.Core.Path.{◌≡◌, refl, ap, ◌∙◌}
use mathlib.Core.Bool.{Bool, true, false}
use Prim.Native.Nat.{ℕ, ◌≤◌}
use Rattle.std.proofs.Common.{rules, tests}
use lib.Dec.{eqb, ltb}
use lib.ListN.{length, get_or}
use mir.Val.{bool_byte}
use Rattle.laws.specs.Bits.{num}
use Rattle.ax25_token.proofs.NameLaws.{two_past}
use Rattle.ax25_token.proofs.names.two_at.Goals as goal
use Rattle.ax25_token.proofs.names.two_at.Goals.{then-k-c, else-k-c}

byte_is : (b : Bool) → bool_byte b ≡ num b
unfolding num
byte_is true = refl
byte_is false = refl

not_below : (k n : ℕ) → n ≤ k → ltb k n ≡ false
not_below k n h = search (rules, tests)

pub returns : goal.returns
returns c =
    let a = c.args in
    elim c.if-k-c.branch [
      | then-k-c w ↦ c.from.ensures ∙ ap bool_byte w.from-is ∙ byte_is (eqb (get_or a.c.now a.k 0) 50)
      | else-k-c w ↦ c.from.ensures ∙ ap bool_byte (w.from-is ∙ not_below a.k (length a.c.now) w.if-k-c.false) ∙ two_past a.c.now a.k w.if-k-c.false
    ]
