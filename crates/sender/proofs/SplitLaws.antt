-- The list of all fragments: it has the count's length, fragment k is its element k, no fragment is longer than the field, and
-- together they carry the message. Nothing is assumed of the mask.
-- Assumes nothing.
use mathlib.Core.Path.{◌≡◌, refl, sym, ap, ap₂, ◌∙◌}
use mathlib.Core.List.{List, [], ◌∷◌, ◌++◌}
use Prim.Native.Nat.{ℕ, zero, suc, ◌+◌, ◌-◌, ◌*◌, ◌≤◌, ◌<◌}
use native.Mathlib.Nat.{zero-add, suc-add}
use native.Mathlib.Omega.{arith}
use lib.ListN.{length, get_or, take, drop, length-take, length-drop, take-append-drop}
use lib.Seq.{drop-nil, drop-drop}
use Rattle.laws.specs.Pick.{pick}
use Rattle.laws.proofs.Cases.{by_le}
use borrow.Author.Tests.{le-leb, lt-leb}
use Rattle.sender.specs.Send.{ceiling, count_of, check_of, lead_of, fragment_of, pieces_from, led, split_of}
use Rattle.sender.proofs.CountLaws.{ceiling_none, ceiling_suc, count_one, count_many, count_two}
use Rattle.sender.proofs.SendLaws.{lead_more, lead_last, fragment_single, fragment_first, fragment_suc}

-- ---- what fragments carry

-- fragments one after the other, each without its first byte
unfoldable pub tails : List (List ℕ) → List ℕ
tails [] = []
tails (f ∷ fs) = drop 1 f ++ tails fs

-- the last fragment
unfoldable pub last_of : List (List ℕ) → List ℕ
last_of [] = []
last_of (f ∷ []) = f
last_of (f ∷ g ∷ fs) = last_of (g ∷ fs)

-- the first byte of the last fragment; then of one fragment alone all after its first byte, of several all after the first two
-- bytes of the first and after the first byte of the others
unfoldable pub carried_by : List (List ℕ) → List ℕ
carried_by [] = []
carried_by (f ∷ []) = get_or f 0 0 ∷ drop 1 f
carried_by (f ∷ g ∷ fs) = get_or (last_of (g ∷ fs)) 0 0 ∷ (drop 2 f ++ tails (g ∷ fs))

carried_none : (field mask : ℕ) → carried_by (split_of [] field mask) ≡ []
unfolding carried_by split_of
carried_none field mask = refl

carried_one : (b : ℕ) (bs : List ℕ) → carried_by ((b ∷ bs) ∷ []) ≡ b ∷ bs
unfolding carried_by
carried_one b bs = refl

-- ---- pieces

-- lists one after the other
joined : List (List ℕ) → List ℕ
joined [] = []
joined (p ∷ ps) = p ++ joined ps

module _ (m : ℕ) where
  pieces_count : (k : ℕ) (xs : List ℕ) → length (pieces_from (suc m) k xs) ≡ ceiling (length xs - k) (suc m)
  unfolding pieces_from
  pieces_count k [] = let e : 0 - k ≡ 0 = omega arith in rw e (sym (ceiling_none (suc m) (omega arith)))
  pieces_count zero (x ∷ xs) =
      let e : suc m - 1 ≡ m = omega arith in
      let z : suc (length xs) - 0 ≡ suc (length xs) = omega arith in
      rw (z, e, pieces_count m xs) (sym (ceiling_suc (length xs) m))
  pieces_count (suc k) (x ∷ xs) =
      let e : suc (length xs) - suc k ≡ length xs - k = omega arith in
      rw e (pieces_count k xs)

  pieces_at : (k j : ℕ) (xs : List ℕ) → get_or (pieces_from (suc m) k xs) j [] ≡ take (suc m) (drop (k + j * suc m) xs)
  unfolding pieces_from
  pieces_at k j [] = rw (drop-nil {A = ℕ} (k + j * suc m))
  pieces_at zero zero (x ∷ xs) = let z : 0 + 0 * suc m ≡ 0 = omega arith in rw z
  pieces_at zero (suc j) (x ∷ xs) =
      let e : suc m - 1 ≡ m = omega arith in
      let z : 0 + suc j * suc m ≡ suc (m + j * suc m) = omega arith in
      rw (e, z) (pieces_at m j xs)
  pieces_at (suc k) j (x ∷ xs) = rw suc-add (pieces_at k j xs)

  pieces_join : (k : ℕ) (xs : List ℕ) → joined (pieces_from (suc m) k xs) ≡ drop k xs
  unfolding pieces_from joined
  pieces_join k [] = sym (drop-nil k)
  pieces_join zero (x ∷ xs) =
      let e : suc m - 1 ≡ m = omega arith in
      rw (e, pieces_join m xs, take-append-drop m xs)
  pieces_join (suc k) (x ∷ xs) = pieces_join k xs

-- ---- the first byte before each piece

module _ (first : ℕ) where
  led_count : (ps : List (List ℕ)) → length (led first ps) ≡ length ps
  unfolding led
  led_count [] = refl
  led_count (p ∷ []) = refl
  led_count (p ∷ q ∷ ps) = ap suc (led_count (q ∷ ps))

  -- element k has the first byte of fragment k, and piece k after it
  led_at : (k : ℕ) (ps : List (List ℕ)) → k < length ps → get_or (led first ps) k [] ≡ lead_of first k (length ps) ∷ get_or ps k []
  unfolding led
  led_at k [] h = absurd (omega arith)
  led_at zero (p ∷ []) h = rw (lead_last first 0 1 (omega arith))
  led_at (suc k) (p ∷ []) h = absurd (omega arith)
  led_at zero (p ∷ q ∷ ps) h = rw (lead_more first 0 (suc (suc (length ps))) (omega arith))
  led_at (suc k) (p ∷ q ∷ ps) h = led_at k (q ∷ ps) (omega arith) ∙ ap (λ (b : ℕ). b ∷ get_or (q ∷ ps) k []) (shifted k (suc (length ps)))
    where
      shifted : (k n : ℕ) → lead_of first k n ≡ lead_of first (suc k) (suc n)
      shifted k n =
          by_le n (suc k)
          (λ l. lead_last first k n l ∙ sym (lead_last first (suc k) (suc n) (omega arith)))
          (λ l. lead_more first k n l ∙ sym (lead_more first (suc k) (suc n) (omega arith)))

  led_tails : (ps : List (List ℕ)) → tails (led first ps) ≡ joined ps
  unfolding led tails joined
  led_tails [] = refl
  led_tails (p ∷ []) = refl
  led_tails (p ∷ q ∷ ps) = ap (λ (l : List ℕ). p ++ l) (led_tails (q ∷ ps))

  led_last : (p : List ℕ) (ps : List (List ℕ)) → get_or (last_of (led first (p ∷ ps))) 0 0 ≡ first
  unfolding led last_of
  led_last p [] = refl
  led_last p (q ∷ []) = refl
  led_last p (q ∷ r ∷ ps) = led_last q (r ∷ ps)

  -- several fragments carry the first byte and the pieces, without the check byte
  led_carry : (check : ℕ) (p q : List ℕ) (ps : List (List ℕ)) → carried_by (led first ((check ∷ p) ∷ q ∷ ps)) ≡ first ∷ (p ++ joined (q ∷ ps))
  unfolding led carried_by
  led_carry check p q ps = carry (led first (q ∷ ps)) (led_last q ps) (led_tails (q ∷ ps)) (led_count (q ∷ ps))
    where
      carry : (fs : List (List ℕ)) → get_or (last_of fs) 0 0 ≡ first → tails fs ≡ joined (q ∷ ps) → length fs ≡ suc (length ps)
          → carried_by (((first + 0x80) ∷ check ∷ p) ∷ fs) ≡ first ∷ (p ++ joined (q ∷ ps))
      carry [] l t n = absurd (omega arith)
      carry (f ∷ fs) l t n = ap₂ (λ (b : ℕ) (r : List ℕ). b ∷ (p ++ r)) l t

-- ---- a message of one byte or more, as one fragment and as several

module _ (first : ℕ) (rest : List ℕ) (field mask : ℕ) where
  abbrev check : ℕ
  check = check_of (first ∷ rest) mask (count_of (suc (length rest)) field)

  -- what the later fragments carry
  abbrev later : List (List ℕ)
  later = pieces_from (field - 1) 0 (drop (field - 2) rest)

  split_one : suc (length rest) ≤ field → split_of (first ∷ rest) field mask ≡ (first ∷ rest) ∷ []
  unfolding split_of led pick
  split_one h = rw (le-leb (suc (length rest)) field h)

  split_more : field < suc (length rest)
      → split_of (first ∷ rest) field mask ≡ led first ((check ∷ take (field - 2) rest) ∷ later)
  unfolding split_of pick
  split_more h = rw (lt-leb (suc (length rest)) field h)

  module _ (low : 3 ≤ field) (long : field < suc (length rest)) where
    width : field - 1 ≡ suc (field - 2)
    width = omega arith

    later_count : suc (length later) ≡ count_of (suc (length rest)) field
    later_count =
        let z : length (drop (field - 2) rest) - 0 ≡ suc (length rest) + 1 - field = omega (arith, length-drop (field - 2) rest) in
        rw (count_many (suc (length rest)) field long, width, pieces_count (field - 2) 0 (drop (field - 2) rest), z) (omega arith)

    later_at : (j : ℕ) → get_or later j [] ≡ take (field - 1) (drop (field - 2 + j * (field - 1)) rest)
    later_at j =
        rw (
          width,
          pieces_at (field - 2) 0 j (drop (field - 2) rest),
          drop-drop (0 + j * suc (field - 2)) (field - 2) rest,
          zero-add,
        )

    later_join : joined later ≡ drop (field - 2) rest
    later_join = rw (width, pieces_join (field - 2) 0 (drop (field - 2) rest))

    later_fragment : (k : ℕ)
        → lead_of first k (suc (length later)) ∷ get_or ((check ∷ take (field - 2) rest) ∷ later) k [] ≡ fragment_of (first ∷ rest) field mask k
    later_fragment zero = rw later_count (sym (fragment_first (first ∷ rest) field mask long))
    later_fragment (suc j) = rw (later_count, later_at j) (sym (fragment_suc (first ∷ rest) field mask j))

    later_carried : (ps : List (List ℕ)) → joined ps ≡ drop (field - 2) rest → suc (length ps) ≡ count_of (suc (length rest)) field
        → carried_by (led first ((check ∷ take (field - 2) rest) ∷ ps)) ≡ first ∷ rest
    later_carried [] e n = absurd (omega (arith, count_two (suc (length rest)) field low long))
    later_carried (q ∷ ps) e n = rw (led_carry first check (take (field - 2) rest) q ps, e, take-append-drop (field - 2) rest)

-- ---- the list of all fragments

pub split_count : (message : List ℕ) (field mask : ℕ) → 0 < length message → 3 ≤ field
    → length (split_of message field mask) ≡ count_of (length message) field
split_count [] field mask some low = absurd (omega arith)
split_count (first ∷ rest) field mask some low =
    by_le (suc (length rest)) field
    (λ h. rw (split_one first rest field mask h) (sym (count_one (suc (length rest)) field h)))
    (λ h. rw (split_more first rest field mask h, led_count first) (later_count first rest field mask low h))

pub split_at : (message : List ℕ) (field mask : ℕ) → 0 < length message → 3 ≤ field → (k : ℕ) → k < count_of (length message) field
    → get_or (split_of message field mask) k [] ≡ fragment_of message field mask k
split_at [] field mask some low k below = absurd (omega arith)
split_at (first ∷ rest) field mask some low k below =
    by_le (suc (length rest)) field
    (λ h. single k h below)
    (λ h. rw (split_more first rest field mask h)
    (led_at first k ((check first rest field mask ∷ take (field - 2) rest) ∷ later first rest field mask)
    (omega (arith, later_count first rest field mask low h))
    ∙ later_fragment first rest field mask low h k))
  where
    single : (k : ℕ) → suc (length rest) ≤ field → k < count_of (suc (length rest)) field
        → get_or (split_of (first ∷ rest) field mask) k [] ≡ fragment_of (first ∷ rest) field mask k
    single zero h l = rw (split_one first rest field mask h) (sym (fragment_single (first ∷ rest) field mask h))
    single (suc k) h l = absurd (omega (arith, count_one (suc (length rest)) field h))

pub split_carries : (message : List ℕ) (field mask : ℕ) → 3 ≤ field → carried_by (split_of message field mask) ≡ message
split_carries [] field mask low = carried_none field mask
split_carries (first ∷ rest) field mask low =
    by_le (suc (length rest)) field
    (λ h. rw (split_one first rest field mask h) (carried_one first rest))
    (λ h. rw (split_more first rest field mask h)
    (later_carried first rest field mask low h (later first rest field mask) (later_join first rest field mask low h)
    (later_count first rest field mask low h)))

-- no fragment is empty, where the message is not
pub fragment_some : (message : List ℕ) (field mask : ℕ) → 0 < length message → (k : ℕ) → 0 < length (fragment_of message field mask k)
fragment_some message field mask some zero =
    by_le (length message) field
    (λ l. omega (arith, some, ap length (fragment_single message field mask l)))
    (λ l. omega (arith, ap length (fragment_first message field mask l)))
fragment_some message field mask some (suc k) = omega (arith, ap length (fragment_suc message field mask k))

pub fragment_fits : (message : List ℕ) (field mask : ℕ) → 3 ≤ field → (k : ℕ) → length (fragment_of message field mask k) ≤ field
fragment_fits message field mask low zero =
    by_le (length message) field
    (λ h. rw (fragment_single message field mask h) h)
    (λ h. rw (fragment_first message field mask h) (omega (arith, length-take (field - 2) (drop 1 message))))
fragment_fits message field mask low (suc k) =
    rw (fragment_suc message field mask k)
    (omega (arith, length-take (field - 1) (drop (field - 2 + k * (field - 1)) (drop 1 message))))
