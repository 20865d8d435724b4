-- How many fragments a message takes.
-- Assumes nothing.
use mathlib.Core.Path.{◌≡◌, refl, ap}
use Prim.Native.Nat.{ℕ, zero, suc, ◌+◌, ◌-◌, ◌*◌, ◌/◌, ◌≤◌, ◌<◌}
use native.Mathlib.Nat.{div-add-mod', mod-lt, mul-le-mul_right, add-div_right, div-eq_of_lt}
use native.Mathlib.Omega.{arith}
use borrow.Author.Tests.{le-leb, lt-leb}
use Rattle.laws.specs.Pick.{pick}
use Rattle.laws.proofs.Cases.{by_le}
use Rattle.sender.specs.Send.{ceiling, count_of}

-- ---- a quotient rounded up

pub ceiling_covers : (a b : ℕ) → 0 < b → a ≤ ceiling a b * b
unfolding ceiling
ceiling_covers a b h = omega (arith, div-add-mod' (a + (b - 1)) b, mod-lt (a + (b - 1)) h)

pub ceiling_least : (a b : ℕ) → 0 < b → ceiling a b * b < a + b
unfolding ceiling
ceiling_least a b h = omega (arith, div-add-mod' (a + (b - 1)) b)

-- of nothing, and of one more
pub ceiling_none : (b : ℕ) → 0 < b → ceiling 0 b ≡ 0
unfolding ceiling
ceiling_none b h = div-eq_of_lt (omega arith)

pub ceiling_suc : (a m : ℕ) → ceiling (suc a) (suc m) ≡ suc (ceiling (a - m) (suc m))
unfolding ceiling
ceiling_suc a m =
    let e : suc a + (suc m - 1) ≡ a + suc m = omega arith in
    rw (e, add-div_right a {k = suc m} (omega arith)) (by_le m a (λ h. enough h) (λ h. few h))
  where
    enough : m ≤ a → a / suc m + 1 ≡ suc ((a - m + (suc m - 1)) / suc m)
    enough h = let e : a - m + (suc m - 1) ≡ a = omega arith in rw e (omega arith)

    few : a < m → a / suc m + 1 ≡ suc ((a - m + (suc m - 1)) / suc m)
    few h =
        let p : a / suc m ≡ 0 = div-eq_of_lt (omega arith) in
        let q : (a - m + (suc m - 1)) / suc m ≡ 0 = div-eq_of_lt (omega arith) in
        omega arith

-- ---- the count

module _ (n field : ℕ) where
  pub count_one : n ≤ field → count_of n field ≡ 1
  unfolding count_of pick
  count_one h = rw (le-leb n field h)

  pub count_many : field < n → count_of n field ≡ 1 + ceiling (n + 1 - field) (field - 1)
  unfolding count_of pick
  count_many h = rw (lt-leb n field h)

  pub count_pos : 1 ≤ count_of n field
  count_pos = by_le n field (λ h. omega (arith, count_one h)) (λ h. omega (arith, count_many h))

  -- a longer message takes two fragments or more
  pub count_two : 3 ≤ field → field < n → 2 ≤ count_of n field
  count_two l h = two (ceiling (n + 1 - field) (field - 1)) refl
    where
      covers : n + 1 - field ≤ ceiling (n + 1 - field) (field - 1) * (field - 1)
      covers = ceiling_covers (n + 1 - field) (field - 1) (omega arith)

      two : (q : ℕ) → ceiling (n + 1 - field) (field - 1) ≡ q → 2 ≤ count_of n field
      two zero e =
          let g : ceiling (n + 1 - field) (field - 1) * (field - 1) ≡ 0 * (field - 1) = ap (λ (q : ℕ). q * (field - 1)) e in
          absurd (omega (arith, g, covers))
      two (suc q) e = omega (arith, count_many h, e)

  -- and only a longer one does
  pub count_several : 1 < count_of n field → field < n
  count_several h = by_le n field (λ l. absurd (omega (arith, count_one l))) (λ l. l)

  -- fragment k starts within the message
  pub starts_within : (k : ℕ) → 3 ≤ field → field < n → k < count_of n field → k * (field - 1) < n
  starts_within k l h c =
      let e : k ≤ ceiling (n + 1 - field) (field - 1) = omega (arith, count_many h) in
      let g : k * (field - 1) ≤ ceiling (n + 1 - field) (field - 1) * (field - 1) = mul-le-mul_right (field - 1) e in
      omega (arith, g, ceiling_least (n + 1 - field) (field - 1) (omega arith))

-- a message of so many bytes takes at most one more than q fragments
pub count_within : (n field q : ℕ) → 3 ≤ field → n + 1 ≤ field + q * (field - 1) → count_of n field ≤ suc q
count_within n field q low fits =
    by_le n field
    (λ s. omega (arith, count_one n field s))
    (λ s. omega (arith, count_many n field s, quotient (ceiling_least (n + 1 - field) (field - 1) (omega (arith, low)))))
  where
    quotient : ceiling (n + 1 - field) (field - 1) * (field - 1) < n + 1 - field + (field - 1) → ceiling (n + 1 - field) (field - 1) ≤ q
    quotient h =
        by_le (ceiling (n + 1 - field) (field - 1)) q
        (λ l. l)
        (λ l. absurd (omega (arith, h, fits, low, mul-le-mul_right (field - 1) l)))

-- a message of one byte less than two fields takes three
pub count_three : (n field : ℕ) → 3 ≤ field → n + 1 ≡ 2 * field → count_of n field ≡ 3
count_three n field low size =
    let long : field < n = omega arith in
    omega (arith, more, count_many n field long, count_within n field 2 low (omega arith))
  where
    q : ℕ
    q = ceiling (n + 1 - field) (field - 1)

    more : 2 ≤ q
    more =
        by_le 2 q
        (λ h. h)
        (λ h. let l : q ≤ 1 = omega arith in
        absurd (omega (arith, mul-le-mul_right (field - 1) l, ceiling_covers (n + 1 - field) (field - 1) (omega arith))))
