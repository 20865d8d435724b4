-- `ax25_token::encode::number_at` meets its contract.
-- Assumes nothing.
use mathlib.Core.Path.{◌≡◌, refl, sym, ap, ◌∙◌}
use mathlib.Core.List.{List, [], ◌∷◌}
use Prim.Native.Nat.{ℕ, zero, suc, ◌+◌, ◌-◌, ◌≤◌, min}
use native.Mathlib.Omega.{arith}
use lib.ListN.{length, take, drop, length-drop}
use lib.Seq.{take_all}
use Rattle.bits.specs.Val.{val_of, val_from}
use Rattle.laws.proofs.Cases.{by_le}
use Rattle.ax25_token.specs.Token.{number_at}
use Rattle.ax25_token.proofs.encode.number_at.Goals as goal

val_none : 0 ≡ val_of []
unfolding val_of val_from
val_none = refl

none_part : (n : ℕ) (s : List ℕ) → min (length s) n ≡ 0 → take n s ≡ []
none_part zero s h = refl
none_part (suc n) [] h = refl
none_part (suc n) (x ∷ s) h = absurd (omega arith)

past : (c : List ℕ) (a n : ℕ) → min (length c) (a + n) ≤ a → 0 ≡ number_at c a n
unfolding number_at
past c a n h = val_none ∙ ap val_of (sym (none_part n (drop a c) (omega (arith, h, length-drop a c))))

part : (c : List ℕ) (a n : ℕ) → take (min (length c) (a + n) - a) (drop a c) ≡ take n (drop a c)
part c a n =
    by_le (length c) (a + n)
    (λ h. take_all (min (length c) (a + n) - a) (drop a c) (omega (arith, length-drop a c)) ∙ sym (take_all n (drop a c) (omega (arith, h, length-drop a c))))
    (λ h. let e : min (length c) (a + n) - a ≡ n = omega arith in ap (λ (k : ℕ). take k (drop a c)) e)

pub returns-then-a-end : goal.returns-then-a-end
unfolding number_at
returns-then-a-end c =
    let a = c.args in
    c.vb_val.ensures ∙ ap val_of (ap (λ (e : ℕ). take (e - a.a) (drop a.a a.c.now)) c.min-end.ensures ∙ part a.c.now a.a a.n)

pub returns-else-a-end : goal.returns-else-a-end
returns-else-a-end c =
    let a = c.args in
    past a.c.now a.a a.n (omega (arith, c.min-end.ensures, c.if-a-end.false))
