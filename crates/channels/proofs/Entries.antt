-- The book's entries: what is known, and how many there are, without those under a name.
-- Assumes nothing.
use mathlib.Core.Path.{◌≡◌, refl, sym, ap, ◌∙◌}
use mathlib.Core.Bool.{Bool, false}
use mathlib.Core.List.{List, [], ◌∷◌}
use Rattle.std.proofs.Common.{None, Some}
use Rattle.std.proofs.lemmas.Option.{none-some}
use Prim.Native.Nat.{ℕ, ◌+◌, ◌≤◌}
use native.Mathlib.Omega.{arith}
use lib.ListN.{length}
use Rattle.laws.specs.Bits.{num}
use Rattle.laws.specs.Pick.{pick}
use Rattle.laws.specs.Text.{same}
use Rattle.laws.proofs.Cases.{by_test, pick_true, pick_false}
use Rattle.laws.proofs.TextLaws.{same_eq}
use Rattle.channels.specs.Book.{History, Entry, past_under, without}
use Rattle.channels.proofs.Counts.{count}

abbrev pub named : List ℕ → Entry → Bool
named n e = same n e.name

module _ (n : List ℕ) where
  pub known_gone : (es : List Entry) → past_under n (without n es) ≡ None
  unfolding past_under without pick
  known_gone [] = refl
  known_gone (e ∷ es) = by_test (same n e.name) (λ t. rw t (known_gone es)) (λ t. rw t (rw t (known_gone es)))

  pub known_other : (x : List ℕ) → same x n ≡ false → (es : List Entry) → past_under x (without n es) ≡ past_under x es
  unfolding past_under without pick
  known_other x o [] = refl
  known_other x o (e ∷ es) =
      by_test (same n e.name)
      (λ t. let q : same x e.name ≡ false = ap (same x) (sym (same_eq n e.name t)) ∙ o in rw (t, q) (known_other x o es))
      (λ t. rw (t, known_other x o es))

  pub length_without : (es : List Entry) → length (without n es) + count (named n) es ≡ length es
  unfolding without count pick num
  length_without [] = refl
  length_without (e ∷ es) =
      by_test (same n e.name)
      (λ t. rw t (omega (arith, length_without es)))
      (λ t. rw t (omega (arith, length_without es)))

  pub count_gone : (es : List Entry) → count (named n) (without n es) ≡ 0
  unfolding without count pick num
  count_gone [] = refl
  count_gone (e ∷ es) = by_test (same n e.name) (λ t. rw t (count_gone es)) (λ t. rw t (rw t (omega (arith, count_gone es))))

  pub count_other : (x : List ℕ) (es : List Entry) → count (named x) (without n es) ≤ count (named x) es
  unfolding without count pick num
  count_other x [] = omega arith
  count_other x (e ∷ es) =
      by_test (same n e.name)
      (λ t. rw t (omega (arith, count_other x es)))
      (λ t. rw t (omega (arith, count_other x es)))

  pub none_known : (es : List Entry) → past_under n es ≡ None → count (named n) es ≡ 0
  unfolding past_under count num
  none_known [] q = refl
  none_known (e ∷ es) q =
      by_test (same n e.name)
      (λ t. absurd (none-some e.past (sym (sym (pick_true (Some e.past) (past_under n es) t) ∙ q))))
      (λ t. omega (arith, ap num t, none_known es (sym (pick_false (Some e.past) (past_under n es) t) ∙ q)))

  pub some_known : (es : List Entry) (h : History) → past_under n es ≡ Some h → 1 ≤ count (named n) es
  unfolding past_under count num
  some_known [] h q = absurd (none-some h q)
  some_known (e ∷ es) h q =
      by_test (same n e.name)
      (λ t. omega (arith, ap num t))
      (λ t. omega (arith, some_known es h (sym (pick_false (Some e.past) (past_under n es) t) ∙ q)))

  pub without_unknown : (es : List Entry) → past_under n es ≡ None → without n es ≡ es
  unfolding past_under without
  without_unknown [] q = refl
  without_unknown (e ∷ es) q =
      by_test (same n e.name)
      (λ t. absurd (none-some e.past (sym (sym (pick_true (Some e.past) (past_under n es) t) ∙ q))))
      (λ t. pick_false (without n es) (e ∷ without n es) t
      ∙ ap (λ (l : List Entry). e ∷ l) (without_unknown es (sym (pick_false (Some e.past) (past_under n es) t) ∙ q)))
