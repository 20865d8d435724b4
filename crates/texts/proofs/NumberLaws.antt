-- Decimal numbers, digit by digit.
-- Assumes nothing.
use mathlib.Core.Path.{◌≡◌, refl, ap, sym, ◌∙◌}
use mathlib.Core.Bool.{true, false, ◌&&◌}
use mathlib.Core.List.{List, [], ◌∷◌, ◌++◌}
use Rattle.std.proofs.Common.{Option, None, Some}
use Rattle.std.specs.Option.{SomeIff}
use Rattle.std.proofs.lemmas.Option.{none-some, same_Some}
use Prim.Native.Nat.{ℕ, zero, suc, ◌+◌, ◌-◌, ◌*◌, ◌/◌, ◌%◌, ◌^◌, ◌≤◌, ◌<◌}
use native.Mathlib.Numerals.{add-one}
use native.Mathlib.Omega.{arith}
use lib.ListN.{length, get_or, drop, length-append, drop_of_length-le}
use lib.Seq.{drop-cons}
use lib.Dec.{ltb}
use borrow.Author.Tests.{lt-ltb, le-ltb}
use Rattle.laws.specs.Pick.{pick}
use Rattle.laws.specs.Text.{is_digit}
use Rattle.laws.proofs.Cases.{by_test, by_le}
use Rattle.texts.specs.Number.{numeral_from, numeral_of, with_digit, number_from, decimal_of}

-- ---- the digits of a number

module _ (k n : ℕ) where
  numeral_one : n < 10 → numeral_from (suc k) n ≡ (48 + n) ∷ []
  unfolding numeral_from pick
  numeral_one h = rw (lt-ltb n 10 h)

  numeral_more : 10 ≤ n → numeral_from (suc k) n ≡ numeral_from k (n / 10) ++ ((48 + n % 10) ∷ [])
  unfolding numeral_from pick
  numeral_more h = rw (le-ltb n 10 h)

-- more digits than a number takes change nothing
steady : (k n : ℕ) → n < 10 ^ suc k → numeral_from (suc k) n ≡ numeral_from (suc (suc k)) n
steady zero n h = numeral_one zero n h ∙ sym (numeral_one 1 n h)
steady (suc k) n h =
    by_le 10 n
    (λ p.
    let few : n / 10 < 10 ^ suc k = omega arith in
    numeral_more (suc k) n p ∙ ap (λ (t : List ℕ). t ++ ((48 + n % 10) ∷ [])) (steady k (n / 10) few) ∙ sym (numeral_more (suc (suc k)) n p))
    (λ p. numeral_one (suc k) n p ∙ sym (numeral_one (suc (suc k)) n p))

module _ (n : ℕ) where
  pub numeral_digit : n < 10 → numeral_of n ≡ (48 + n) ∷ []
  unfolding numeral_of
  numeral_digit h = numeral_one 19 n h

  pub numeral_behind : 10 ≤ n → n < 2 ^ 64 → numeral_of n ≡ numeral_of (n / 10) ++ ((48 + n % 10) ∷ [])
  unfolding numeral_of
  numeral_behind h k =
      let few : n / 10 < 10 ^ 19 = omega arith in
      numeral_more 19 n h ∙ ap (λ (t : List ℕ). t ++ ((48 + n % 10) ∷ [])) (steady 18 (n / 10) few)

length_from : (k n : ℕ) → length (numeral_from k n) ≤ k
length_from zero n = unfold numeral_from in omega arith
length_from (suc k) n =
    by_le 10 n
    (λ p. rw (numeral_more k n p, length-append (numeral_from k (n / 10)) ((48 + n % 10) ∷ [])) (omega (arith, length_from k (n / 10))))
    (λ p. rw (numeral_one k n p) (omega arith))

pub numeral_length : (n : ℕ) → length (numeral_of n) ≤ 20
unfolding numeral_of
numeral_length n = length_from 20 n

-- ---- a digit more

module _ (v c : ℕ) where
  pub number_other : is_digit c ≡ false → None ≡ number_from v (c ∷ [])
  unfolding number_from pick
  number_other e = rw e

  module _ (digit : is_digit c ≡ true) where
    pub number_wide : 2 ^ 64 ≤ v * 10 + (c - 48) → None ≡ number_from v (c ∷ [])
    unfolding number_from with_digit pick
    number_wide w = rw (digit, le-ltb (v * 10 + (c - 48)) (2 ^ 64) w)

    -- what `checked_add` answers
    pub number_added : (r : Option ℕ) (w d : ℕ) → w ≡ v * 10 → d ≡ c - 48 → SomeIff r (w + d < 2 ^ 64) (w + d) → r ≡ number_from v (c ∷ [])
    unfolding number_from with_digit pick
    number_added None w d e f h =
        by_le (2 ^ 64) (w + d)
        (λ k. number_wide (omega arith))
        (λ k. absurd (h k))
    number_added (Some x) w d e f h =
        let z : x ≡ v * 10 + (c - 48) = omega (arith, h.1) in
        rw (digit, lt-ltb (v * 10 + (c - 48)) (2 ^ 64) (omega (arith, h.0)), z)

  -- what a digit says of the rest
  pub number_stop : (s : List ℕ) → None ≡ number_from v (c ∷ []) → number_from v (c ∷ s) ≡ None
  unfolding number_from pick
  number_stop s e =
      by_test (is_digit c && ltb (with_digit v c) (2 ^ 64))
      (λ t. absurd (none-some (with_digit v c) (rw t at e)))
      (λ t. rw t)

  pub number_step : (s : List ℕ) (w : ℕ) → Some w ≡ number_from v (c ∷ []) → number_from v (c ∷ s) ≡ number_from w s
  unfolding number_from pick
  number_step s w e =
      by_test (is_digit c && ltb (with_digit v c) (2 ^ 64))
      (λ t. rw (t, same_Some w (with_digit v c) (rw t at e)))
      (λ t. absurd (none-some w (sym (rw t at e))))

pub decimal_none : (s : List ℕ) → length s ≡ 0 → None ≡ decimal_of s
unfolding decimal_of
decimal_none [] h = refl
decimal_none (c ∷ s) h = absurd (omega arith)

pub decimal_some : (s : List ℕ) → (length s ≡ 0 → ⊥) → number_from 0 s ≡ decimal_of s
unfolding decimal_of
decimal_some [] h = absurd (h refl)
decimal_some (c ∷ s) h = refl

module _ (s : List ℕ) (v i : ℕ) where
  pub number_end : length s ≤ i → number_from v (drop i s) ≡ Some v
  unfolding number_from
  number_end h = rw (drop_of_length-le s h)

  pub number_none : i < length s → None ≡ number_from v (get_or s i 0 ∷ []) → number_from v (drop i s) ≡ None
  number_none h e = rw (drop-cons s i 0 h) (number_stop v (get_or s i 0) (drop (suc i) s) e)

  pub number_next : i < length s → (w : ℕ) → Some w ≡ number_from v (get_or s i 0 ∷ []) → number_from w (drop (i + 1) s) ≡ number_from v (drop i s)
  number_next h w e = rw (drop-cons s i 0 h, add-one i) (sym (number_step v (get_or s i 0) (drop (suc i) s) w e))
