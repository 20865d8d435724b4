-- `ax25_token::letters` meets its contract. What finishes the reading from here finishes the whole.
-- Assumes nothing.
use native.Mathlib.Omega.{arith}
use mathlib.Core.Path.{◌≡◌, refl, sym, ap, ◌∙◌}
use Prim.Native.Nat.{ℕ, ◌+◌, ◌-◌, ◌≤◌, ◌<◌}
use lib.ListN.{length, length-set}
use Rattle.std.proofs.Common.{Some}
use Rattle.ax25_token.specs.Call.{pushed}
use Rattle.ax25_token.proofs.CallLaws.{taken_at}
use Rattle.ax25_token.proofs.LetterWays.{all, short, blank, more, ends, skips}
use Rattle.ax25_token.proofs.letters.Goals as goal
use Rattle.ax25_token.proofs.letters.Goals.{then-v-lt37, else-v-lt37+else-strict}

some_left : {n i : ℕ} → i < n → n - i ≡ 0 → ⊥
some_left h e = omega arith

none_left : {n i : ℕ} → n ≤ i → n - i ≡ 0
none_left h = omega arith

-- all is left at first; what is left after one step more
whole : (n : ℕ) → n - 0 ≡ n
whole n = omega arith

less : (n i : ℕ) → n - i - 1 ≡ n - (i + 1)
less n i = omega arith

pub returns-in_err-v : goal.returns-in_err-v
returns-in_err-v c =
    rw (← c.c.view_is) (c.loop.invariant.2 _ (short _ _ _ _ _ (some_left c.loop-test.true) (sym c.take_at.ensures ∙ c.in_err-v.was) _ c.from_residual.ensures))

pub returns-then-v-eq0 : goal.returns-then-v-eq0
returns-then-v-eq0 c =
    let v = c.in_ok-v.v in
    let q = c.in_ok-v.q in
    let told : taken_at _ _ 6 ≡ Some (v, q) = sym c.take_at.ensures ∙ c.in_ok-v.was in
    rw (← c.c.view_is) (c.loop.invariant.2 _ (blank _ _ _ _ _ (some_left c.loop-test.true) v q told c.if-v-eq0.true _ (all _ _ _ _ _ refl)))

pub returns-then-strict : goal.returns-then-strict
returns-then-strict c =
    let v = c.in_ok-v.v in
    let q = c.in_ok-v.q in
    let told : taken_at _ _ 6 ≡ Some (v, q) = sym c.take_at.ensures ∙ c.in_ok-v.was in
    rw (← c.c.view_is) (c.loop.invariant.2 _ (ends _ _ _ _ _ (some_left c.loop-test.true) v q told c.if-strict.true c.if-v-lt37.false _ refl))

pub loop-preserved : goal.loop-preserved
loop-preserved c =
    let v = c.in_ok-v.v in
    let q = c.in_ok-v.q in
    let told : taken_at _ _ 6 ≡ Some (v, q) = sym c.take_at.ensures ∙ c.in_ok-v.was in
    elim c.if-v-lt37.branch [
      | then-v-lt37 w ↦
          (let d = ap (pushed (record { bytes = c.loop.bytes; len = c.loop.len })) w.letter.ensures in
          (omega (arith, w.len-is), omega (arith, ap length w.bytes-is, length-set c.loop.bytes c.loop.len w.letter.result), λ r i. c.loop.invariant.2 r (more _ _ _ _ _ (some_left c.loop-test.true) v q told c.if-v-eq0.false w.if-v-lt37.true _ d r (rw (← less c.args.n c.loop.counter, w.bytes-is, w.len-is) at i))))
      | else-v-lt37+else-strict w ↦
          (omega (arith, w.len-is), omega (arith, ap length w.bytes-is), λ r i. c.loop.invariant.2 r (skips _ _ _ _ _ (some_left c.loop-test.true) v q told w.if-strict.false w.if-v-lt37.false r (rw (← less c.args.n c.loop.counter, w.bytes-is, w.len-is) at i)))
    ]

pub returns : goal.returns
returns c = rw (← c.c.view_is) (c.loop.invariant.2 _ (all _ _ _ _ _ (none_left c.loop-test.false)))
