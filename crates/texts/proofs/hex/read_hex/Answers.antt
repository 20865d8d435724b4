-- `texts::hex::read_hex` meets its contract.
-- Assumes nothing.
use mathlib.Core.Path.{◌≡◌, refl, sym, ◌∙◌}
use Prim.Native.Nat.{ℕ, ◌*◌, ◌/◌, ◌%◌}
use native.Mathlib.Omega.{arith}
use Rattle.texts.specs.Hex.{left_by}
use Rattle.texts.proofs.HexLaws.{read_other, read_odd, read_long, read_all}
use Rattle.texts.proofs.hex.read_hex.Goals as goal

even_halves : (n : ℕ) → (n % 2 ≡ 1 → ⊥) → n ≡ n / 2 * 2
even_halves n h = omega (arith, h)

pub returns-then-not-is_hex : goal.returns-then-not-is_hex
unfolding left_by
returns-then-not-is_hex c = (read_other _ _ (sym c.is_hex.ensures ∙ c.if-not-is_hex.true), refl)

pub returns-then-text-eq1 : goal.returns-then-text-eq1
unfolding left_by
returns-then-text-eq1 c = (read_odd _ _ (sym c.is_hex.ensures ∙ c.if-not-is_hex.false) c.if-text-eq1.true, refl)

pub returns-then-out-n : goal.returns-then-out-n
unfolding left_by
returns-then-out-n c = (read_long _ _ (sym c.is_hex.ensures ∙ c.if-not-is_hex.false) c.if-text-eq1.false c.if-out-n.true, refl)

pub returns : goal.returns
unfolding left_by
returns c =
    (read_all _ _ (sym c.is_hex.ensures ∙ c.if-not-is_hex.false) c.if-text-eq1.false c.if-out-n.false, c.pairs.ensures.stored)
