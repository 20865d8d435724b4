-- `receiver::fragment_length` meets its contract. The field is gone through from its end: after i there is no 14.
-- Assumes nothing.
use mathlib.Core.Path.{◌≡◌, sym, ap, ◌∙◌}
use mathlib.Core.List.{List, [], ◌∷◌, ◌++◌}
use Prim.Native.Nat.{ℕ, suc, ◌+◌, ◌-◌, ◌<◌}
use native.Mathlib.Omega.{arith}
use borrow.Author.Tests.{eq-eqb, ne_eqb}
use lib.ListN.{length, take, get_or}
use lib.Dec.{eqb}
use lib.Seq.{take-suc, length-take-le}
use Rattle.laws.specs.Pick.{pick}
use Rattle.frame.specs.Frame.{terminator}
use Rattle.laws.proofs.Cases.{pick_true, pick_false}
use Rattle.receiver.specs.Push.{last_from}
use Rattle.receiver.proofs.PushLaws.{length_full, length_last}
use Rattle.receiver.proofs.fragment_length.Goals as goal

-- one element more at the end
at_end : (i b x : ℕ) (xs : List ℕ) → last_from i b (xs ++ x ∷ []) ≡ pick (eqb x terminator) (i + length xs) (last_from i b xs)
unfolding last_from
at_end i b x [] =
    let e : i + 0 ≡ i = omega arith in
    rw e
at_end i b x (y ∷ ys) =
    let e : i + 1 + length ys ≡ i + suc (length ys) = omega arith in
    rw e at (at_end (i + 1) (pick (eqb y terminator) i b) x ys)

module _ (j t : ℕ) (l : List ℕ) (e : t ≡ suc j) (h : j < length l) where
  step : last_from 0 0 (take t l) ≡ pick (eqb (get_or l j 0) terminator) j (last_from 0 0 (take j l))
  step =
      let n : 0 + length (take j l) ≡ j = omega (arith, length-take-le j l (omega arith)) in
      ap (λ (k : ℕ). last_from 0 0 (take k l)) e
      ∙ ap (last_from 0 0) (take-suc l j 0 h)
      ∙ at_end 0 0 (get_or l j 0) (take j l)
      ∙ ap (λ (k : ℕ). pick (eqb (get_or l j 0) terminator) k (last_from 0 0 (take j l))) n

  hit : get_or l j 0 ≡ terminator → last_from 0 0 (take t l) ≡ j
  hit q = step ∙ pick_true _ _ (eq-eqb _ _ q)

  miss : (get_or l j 0 ≡ terminator → ⊥) → last_from 0 0 (take t l) ≡ last_from 0 0 (take j l)
  miss q = step ∙ pick_false _ _ (ne_eqb _ _ q)

none : (i : ℕ) (l : List ℕ) → i ≡ 0 → last_from 0 0 (take i l) ≡ 0
unfolding last_from
none i l e = rw e

pub returns-then-f-field-eq1 : goal.returns-then-f-field-eq1
returns-then-f-field-eq1 c = sym (length_full _ _ c.if-f-field-eq1.true)

pub returns-then-f-i-eq-TERMINATOR : goal.returns-then-f-i-eq-TERMINATOR
returns-then-f-i-eq-TERMINATOR c =
    let a = c.args in
    let i = c.loop-i.i in
    sym (length_last _ _ c.if-f-field-eq1.false ∙ sym c.loop-i.invariant ∙ hit (i - 1) i a.f.now (omega arith) (omega arith) c.if-f-i-eq-TERMINATOR.true)

pub loop-i-preserved : goal.loop-i-preserved
loop-i-preserved c =
    let a = c.args in
    let i = c.loop-i.i in
    sym (miss (i - 1) i a.f.now (omega arith) (omega arith) c.if-f-i-eq-TERMINATOR.false) ∙ c.loop-i.invariant

pub returns : goal.returns
returns c =
    let a = c.args in
    sym (length_last _ _ c.if-f-field-eq1.false ∙ sym c.loop-i.invariant ∙ none c.loop-i.i a.f.now (omega arith))
