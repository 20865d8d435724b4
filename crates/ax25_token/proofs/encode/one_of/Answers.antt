-- `ax25_token::encode::one_of` meets its contract.
-- Assumes nothing.
use mathlib.Core.Path.{◌≡◌, refl, sym, ◌∙◌}
use mathlib.Core.Bool.{Bool, true, false, ◌||◌}
use mathlib.Core.List.{List, [], ◌∷◌}
use Prim.Native.Nat.{ℕ}
use Rattle.laws.specs.Text.{same, is_one_of}
use Rattle.ax25_token.proofs.encode.one_of.Goals as goal
use Rattle.ax25_token.proofs.encode.one_of.Goals.{then-same, else-same, then-same-2, else-same-2, Joined-same-2}

four : (a b d e : Bool) → (((a || b) || d) || e) ≡ (a || (b || (d || (e || false))))
four true b d e = refl
four false true d e = refl
four false false true e = refl
four false false false true = refl
four false false false false = refl

or_yes : (a b : Bool) → a ≡ true → true ≡ (a || b)
or_yes a b e = rw e

or_no : (a b : Bool) → a ≡ false → b ≡ (a || b)
or_no a b e = rw e

one_is : (c v w x y : List ℕ) → (((same c v || same c w) || same c x) || same c y) ≡ is_one_of c (v ∷ w ∷ x ∷ y ∷ [])
unfolding is_one_of
one_is c v w x y = four (same c v) (same c w) (same c x) (same c y)

module _ (c : Joined-same-2) where
  abbrev t : List ℕ
  t = c.args.c.now

  -- the first two, and the first three
  two_is : c.if-same.value ≡ (same t c.args.v.now || same t c.args.w.now)
  two_is =
      elim c.if-same.branch [
        | then-same b ↦ (let e = or_yes (same t c.args.v.now) (same t c.args.w.now) (sym c.same.ensures ∙ b.if-same.true) in cc)
        | else-same b ↦ (let e = or_no (same t c.args.v.now) (same t c.args.w.now) (sym c.same.ensures ∙ b.if-same.false) in cc)
      ]

  three_is : c.if-same-2.value ≡ ((same t c.args.v.now || same t c.args.w.now) || same t c.args.x.now)
  three_is =
      elim c.if-same-2.branch [
        | then-same-2 b ↦ (let e = or_yes (same t c.args.v.now || same t c.args.w.now) (same t c.args.x.now) (sym two_is ∙ b.if-same-2.true) in cc)
        | else-same-2 b ↦ (let e = or_no (same t c.args.v.now || same t c.args.w.now) (same t c.args.x.now) (sym two_is ∙ b.if-same-2.false) in cc)
      ]

pub returns-then-same-3 : goal.returns-then-same-3
returns-then-same-3 c =
    let a = c.args in
    c.if-same-3.true
    ∙ or_yes _ (same a.c.now a.y.now) (sym (three_is (goal.at.returns-then-same-3 c).Joined-same-2) ∙ c.if-same-3.true)
    ∙ one_is a.c.now a.v.now a.w.now a.x.now a.y.now

pub returns-else-same-3 : goal.returns-else-same-3
returns-else-same-3 c =
    let a = c.args in
    c.same-else-same-3.ensures
    ∙ or_no _ (same a.c.now a.y.now) (sym (three_is (goal.at.returns-else-same-3 c).Joined-same-2) ∙ c.if-same-3.false)
    ∙ one_is a.c.now a.v.now a.w.now a.x.now a.y.now
