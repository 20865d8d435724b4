-- The cases of an answer with a lent output, where a first run, over no output or over an array, has measured.
-- Assumes nothing.
use mathlib.Core.Path.{◌≡◌, refl, sym, ap, ◌∙◌}
use mathlib.Core.List.{List, [], ◌++◌}
use Prim.Native.Nat.{ℕ, ◌+◌, ◌-◌, ◌≤◌, ◌<◌}
use native.Mathlib.Nat.{zero-add}
use native.Mathlib.Omega.{arith}
use lib.ListN.{length, take, length-append}
use lib.Seq.{sets, length-sets, take-append-le}
use borrow.Author.Tests.{lt-ltb, le-ltb}
use Rattle.laws.specs.Pick.{pick}
use Rattle.laws.specs.Wrote.{Wrote}
use Rattle.laws.proofs.Cases.{by_le}
use Rattle.laws.proofs.ListLaws.{sets_nil, take_sets}
use Rattle.refusals.specs.Outcome.{Outcome, refused, answer}
use Rattle.refusals.proofs.OutcomeLaws.{answer_not, same_answer_lem, same_refusal}
use Rattle.kiss.specs.Told.{into_with}

module _ {A B : Type 0} (bytes : A → List ℕ) (value : A → B) (out : List ℕ) where
  pub tell_refused : {o : Outcome A} (n : ℕ) → o ≡ refused n → (refused n, out) ≡ into_with bytes value o out
  unfolding into_with
  tell_refused n e = rw e

  module _ (a : A) where
    short : length out < length (bytes a) → (refused 6, out) ≡ into_with bytes value (answer a) out
    unfolding into_with pick
    short h = sym (rw (lt-ltb (length out) (length (bytes a)) h))

    fits : length (bytes a) ≤ length out → (answer (length (bytes a), value a), sets out 0 (bytes a)) ≡ into_with bytes value (answer a) out
    unfolding into_with pick
    fits h = sym (rw (le-ltb (length out) (length (bytes a)) h))

    -- a first run over s leaves x and answers n
    module _ {o : Outcome A} {s x : List ℕ} {n : ℕ} (e : o ≡ answer a) (w : Wrote s 0 (bytes a) x n) where
      size : n ≡ length (bytes a)
      size = w.next_is ∙ zero-add (length (bytes a))

      pub first_short : length out < n → (refused 6, out) ≡ into_with bytes value o out
      first_short h = rw e (short (rw size at h))

      pub first_fits : {t : List ℕ} {r : ℕ} → n ≤ length out → Wrote out 0 (bytes a) t r → (answer (n, value a), t) ≡ into_with bytes value o out
      first_fits h v = rw (e, v.stored, size) (fits (rw size at h))

    -- the measuring run leaves x, which is nothing, and answers n
    module _ {o : Outcome A} {x : List ℕ} {n : ℕ} (e : o ≡ answer a) (w : Wrote [] 0 (bytes a) x n) where
      measured : x ++ out ≡ out
      measured = ap (λ (l : List ℕ). l ++ out) (w.stored ∙ sets_nil 0 (bytes a))

      pub tell_short : length (x ++ out) < n → (refused 6, x ++ out) ≡ into_with bytes value o out
      tell_short h = rw measured (first_short e w (rw measured at h))

      pub tell_fits : {t : List ℕ} {r : ℕ} → n ≤ length (x ++ out) → Wrote (x ++ out) 0 (bytes a) t r → (answer (n, value a), t) ≡ into_with bytes value o out
      tell_fits h v = first_fits e w (rw measured at h) (rw measured at v)

-- ---- from an array to the output

-- what fits into the part of an array that was lent, which is x afterwards, lies within the array
pub lies_within : (x rest : List ℕ) {n room : ℕ} → length x ≡ room → n ≤ room → n ≤ length (x ++ rest)
lies_within x rest e h = omega (arith, length-append x rest)

-- bytes b that were written to s, which has room for all n of them, and copied from there: as if they were written to the output
module _ {s x b : List ℕ} {m : ℕ} (w : Wrote s 0 b x m) (n : ℕ) (e : m ≡ n) (k : n ≤ length s) where
  front_of : (rest : List ℕ) → take (n - 0) (x ++ rest) ≡ b
  front_of rest =
      let whole : n - 0 ≡ 0 + length b = omega (arith, w.next_is) in
      let fits_in : 0 + length b ≤ length s = omega (arith, w.next_is) in
      ap (λ (j : ℕ). take j (x ++ rest)) whole
      ∙ take-append-le (0 + length b) x rest (omega (arith, ap length w.stored, length-sets s 0 b))
      ∙ ap (take (0 + length b)) w.stored
      ∙ take_sets s 0 b fits_in

  pub copied_out : (out rest : List ℕ) {t : List ℕ} → t ≡ sets out 0 (take (n - 0) (x ++ rest)) → Wrote out 0 b t m
  copied_out out rest c = record { stored = c ∙ ap (sets out 0) (front_of rest); next_is = w.next_is }

-- ---- what an answer says

-- the answer n with a value beside it, and the lent output t afterwards: what it stands for
pub record Handed {A B : Type 0} (bytes : A → List ℕ) (value : A → B) (o : Outcome A) (room : ℕ) (t : List ℕ) (n : ℕ) (b : B) : Type 0 where
  pub it : A
  pub is : o ≡ answer it
  pub fits_in : length (bytes it) ≤ room
  pub beside : b ≡ value it
  pub front : take n t ≡ bytes it

module _ {A B : Type 0} (bytes : A → List ℕ) (value : A → B) (out t : List ℕ) where
  pub told_answer : (o : Outcome A) (n : ℕ) (b : B) → (answer (n, b), t) ≡ into_with bytes value o out → Handed bytes value o (length out) t n b
  told_answer (refused m) n b e = absurd (answer_not (ap (λ p. p.0) (e ∙ sym (tell_refused bytes value out m refl))))
  told_answer (answer a) n b e =
      by_le (length (bytes a)) (length out)
      (λ h.
      let q = e ∙ sym (fits bytes value out a h) in
      let both = same_answer_lem (ap (λ p. p.0) q) in
      let size : n ≡ length (bytes a) = ap (λ p. p.0) both in
      record {
        it = a;
        is = refl;
        fits_in = h;
        beside = ap (λ p. p.1) both;
        front = ap (take n) (ap (λ p. p.1) q) ∙ ap (λ (k : ℕ). take k (sets out 0 (bytes a))) (size ∙ sym (zero-add (length (bytes a)))) ∙ take_sets out 0 (bytes a) (omega arith);
      })
      (λ h. absurd (answer_not (ap (λ p. p.0) (e ∙ sym (short bytes value out a h)))))

  -- a refusal is the call's own, or 6 where the output is too short
  pub told_refused : {P : Type 0} (o : Outcome A) (n : ℕ) → (refused n, t) ≡ into_with bytes value o out
      → (o ≡ refused n → P) → ((a : A) → o ≡ answer a → length out < length (bytes a) → n ≡ 6 → P) → P
  told_refused (refused m) n e f g = f (sym (ap refused (same_refusal (ap (λ p. p.0) (e ∙ sym (tell_refused bytes value out m refl))))))
  told_refused (answer a) n e f g =
      by_le (length (bytes a)) (length out)
      (λ h. absurd (answer_not (sym (ap (λ p. p.0) (e ∙ sym (fits bytes value out a h))))))
      (λ h. g a refl h (same_refusal (ap (λ p. p.0) (e ∙ sym (short bytes value out a h)))))
