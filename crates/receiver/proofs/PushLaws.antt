-- The cases of `push_of`, one law for each.
-- Assumes nothing.
use mathlib.Core.Path.{◌≡◌}
use mathlib.Core.Bool.{true, false}
use mathlib.Core.List.{List}
use Prim.Native.Nat.{ℕ, ◌+◌, ◌%◌, ◌<◌}
use native.Mathlib.Omega.{arith}
use lib.ListN.{length, get_or, take}
use borrow.Author.Tests.{lt-ltb, eq-eqb, ne_eqb}
use Rattle.laws.specs.Pick.{pick}
use Rattle.refusals.specs.Limits.{field_ok}
use Rattle.receiver.specs.Join.{answered, turned_away, refusal_of, join_of}
use Rattle.receiver.specs.Push.{last_from, fragment_length, push_of}
use Rattle.receiver.specs.declared.Joiner.{Joiner}
use Rattle.receiver.specs.declared.Cause.TheVariants.{WrongLength}
use Rattle.receiver.specs.declared.Push.TheVariants.{Dropped}

pub length_full : (f : List ℕ) (field : ℕ) → get_or f field 0 % 2 ≡ 1 → fragment_length f field ≡ field
unfolding fragment_length pick
length_full f field e = simp (eq-eqb _ _ e)

pub length_last : (f : List ℕ) (field : ℕ) → (get_or f field 0 % 2 ≡ 1 → ⊥) → fragment_length f field ≡ last_from 0 0 (take field f)
unfolding fragment_length pick
length_last f field e = simp (ne_eqb _ _ e)

module _ (r : Joiner) (s f : List ℕ) (field : ℕ) where
  pub push_refused : (refusal_of r (length s) ≡ 0 → ⊥) → push_of r s f field ≡ turned_away (refusal_of r (length s)) r s
  unfolding push_of pick
  push_refused h =
      let p : 0 < refusal_of r (length s) = omega (arith, h) in
      rw (lt-ltb 0 (refusal_of r (length s)) p)

  module _ (e : refusal_of r (length s) ≡ 0) where
    pub push_field : field_ok field ≡ false → push_of r s f field ≡ turned_away 8 r s
    unfolding push_of pick
    push_field o = simp (e, o)

    pub push_length : field_ok field ≡ true → (length f ≡ field + 3 → ⊥) → push_of r s f field ≡ answered (Dropped WrongLength) r s
    unfolding push_of pick
    push_length o l = simp (e, o, ne_eqb _ _ l)

    pub push_on : field_ok field ≡ true → length f ≡ field + 3 → push_of r s f field ≡ join_of r s f (fragment_length f field)
    unfolding push_of pick
    push_on o l = simp (e, o, eq-eqb _ _ l)
