-- `ax25::encode::put_type` meets its contract.
-- Assumes nothing.
use mathlib.Core.Path.{◌≡◌, ◌∙◌}
use mathlib.Core.Bool.{Bool, true, false}
use mathlib.Core.List.{List}
use Prim.Native.Nat.{ℕ}
use Rattle.laws.specs.Bits.{bits_of}
use Rattle.laws.specs.Pick.{pick}
use Rattle.laws.specs.Wrote.{Wrote}
use Rattle.ax25.specs.Encode.{type_width}
use borrow.Author.Rules.{rules}
use Rattle.ax25.proofs.encode.put_type.Goals.{then-ap, else-ap}
use Rattle.ax25.proofs.encode.put_type.Goals as goal

-- three bits, or one
three : (p : Bool) {v u : ℕ} {b c : List Bool} {at q : ℕ} → p ≡ true → v ≡ u → Wrote b at (bits_of 3 v) c q → Wrote b at (bits_of (type_width p) u) c q
unfolding pick
three p e f w = rw (e, ← f) w

one : (p : Bool) {v u : ℕ} {b c : List Bool} {at q : ℕ} → p ≡ false → v ≡ u → Wrote b at (bits_of 1 v) c q → Wrote b at (bits_of (type_width p) u) c q
unfolding pick
one p e f w = rw (e, ← f) w

pub returns : goal.returns
returns c =
    let code = c.from-2.ensures ∙ c.from.ensures in
    elim c.if-ap.branch [
      | then-ap w ↦ three c.args.ap w.if-ap.true code (rw w.push-is at c.push.ensures.wrote)
      | else-ap w ↦ one c.args.ap w.if-ap.false code (rw w.push-is at c.push.ensures.wrote)
    ]
