-- `ax25_address::call_bytes::put_base` meets its contract. The first i letters are written.
-- Assumes nothing.
use borrow.Author.Rules.{rules}
use mathlib.Core.Path.{ap}
use mathlib.Core.List.{[], ◌∷◌}
use native.Mathlib.Omega.{arith}
use native.Mathlib.Numerals.{add-one}
use Prim.Native.Nat.{ℕ}
use lib.Seq.{take_all, take-suc}
use Rattle.laws.proofs.WroteLaws.{wrote_then, wrote_as}
use Rattle.ax25_address.proofs.CallField.{field_letters, length_letters}
use Rattle.ax25_address.proofs.call_bytes.put_base.Goals as goal

pub loop-i-preserved : goal.loop-i-preserved
loop-i-preserved c =
    let byte = c.byte-next in
    let a = c.args in
    let i = c.loop-i.i in
    let f = field_letters a.l a.b.now in (
      search rules,
      omega (arith, byte.ensures.next_is),
      search rules,
      rw (add-one, take-suc f i 0 (omega (arith, length_letters a.l a.b.now)))
          (wrote_then c.loop-i.invariant.3 (wrote_as (ap (λ (x : ℕ). x ∷ []) c.letter_byte.ensures) byte.ensures)),
    )

pub returns : goal.returns
returns c =
    let a = c.args in
    let f = field_letters a.l a.b.now in record { wrote = rw (take_all c.loop-i.i f (omega (arith, length_letters a.l a.b.now))) at c.loop-i.invariant.3; upper_bound = omega arith }
