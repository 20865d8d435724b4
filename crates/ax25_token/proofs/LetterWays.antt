-- The ways through `letters`, one law for each.
-- Assumes nothing.
use Rattle.std.proofs.Common.{None, Some, Option}
use mathlib.Core.Path.{◌≡◌, refl, ap, ◌∙◌}
use mathlib.Core.Bool.{Bool, true, false}
use mathlib.Core.List.{List, [], ◌∷◌}
use Prim.Native.Nat.{ℕ, ◌+◌, ◌-◌, ◌≤◌, ◌<◌}
use native.Mathlib.Omega.{arith}
use lib.ListN.{drop, get_or}
use Rattle.bits.proofs.TakenLaws.{told_bits, told_short}
use Rattle.ax25_token.specs.declared.Call.{Call}
use Rattle.ax25_token.specs.Call.{pushed, appended}
use Rattle.ax25_token.specs.Tables.{call_alphabet}
use Rattle.ax25_token.specs.Token.{read_letters}
use Rattle.ax25_token.proofs.Cases.{letters_all, letters_short, letters_blank, letters_more, letters_strict, letters_skip}
use Rattle.ax25_token.proofs.CallLaws.{taken_at, Onto, behind_after, onto_stop, onto_nothing, longer}

module _ (b : List Bool) (at n : ℕ) (strict : Bool) (c : Call) where
  abbrev Letters : Option (Call × ℕ) → Type 0
  Letters r = Onto b c n (read_letters strict n (drop at b)) r

  pub all : n ≡ 0 → Letters (Some (c, at))
  all e = onto_stop b c n at _ (letters_all strict n (drop at b) e)

  module _ (any : n ≡ 0 → ⊥) where
    pub short : taken_at b at 6 ≡ None → (r : Option (Call × ℕ)) → r ≡ None → Letters r
    short e r q = onto_nothing b c n _ r (letters_short strict n (drop at b) any (told_short b at 6 e)) q

    module _ (v p : ℕ) (e : taken_at b at 6 ≡ Some (v, p)) where
      pub blank : v ≡ 0 → (r : Option (Call × ℕ)) → Onto b c 0 (read_letters strict 0 (drop p b)) r → Letters r
      blank h r i =
          (i.0 ∙ rw (letters_blank strict n (drop at b) any v (drop p b) (told_bits b at 6 v p e) h, letters_all strict 0 (drop p b) refl), longer r i.1 (omega arith))

      pub more : (v ≡ 0 → ⊥) → v < 37 → (d : Call) → d ≡ pushed c (get_or call_alphabet v 0)
          → (r : Option (Call × ℕ)) → Onto b d (n - 1) (read_letters strict (n - 1) (drop p b)) r → Letters r
      unfolding appended
      more h k d q r i =
          let x = get_or call_alphabet v 0 in
          let len : d.len ≡ c.len + 1 = ap (λ (f : Call). f.len) q in (
            i.0
                ∙ rw (q, letters_more strict n (drop at b) any v (drop p b) (told_bits b at 6 v p e) h k, behind_after c (x ∷ []) (read_letters strict (n - 1) (drop p b))),
            longer r i.1 (omega (arith, any)),
          )

      pub ends : strict ≡ true → 37 ≤ v → (r : Option (Call × ℕ)) → r ≡ None → Letters r
      ends s k r q = onto_nothing b c n _ r (letters_strict strict n (drop at b) any v (drop p b) (told_bits b at 6 v p e) s k) q

      pub skips : strict ≡ false → 37 ≤ v → (r : Option (Call × ℕ)) → Onto b c (n - 1) (read_letters strict (n - 1) (drop p b)) r → Letters r
      skips s k r i =
          (i.0 ∙ rw (letters_skip strict n (drop at b) any v (drop p b) (told_bits b at 6 v p e) s k), longer r i.1 (omega (arith, any)))
