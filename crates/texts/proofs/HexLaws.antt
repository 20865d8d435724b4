-- Digits and their values, and texts of them from the front.
-- Assumes nothing.
use mathlib.Core.Path.{◌≡◌, refl, ap, sym, ◌∙◌}
use mathlib.Core.Bool.{true, false, ◌&&◌}
use mathlib.Core.List.{List, [], ◌∷◌, ◌++◌, append_assoc, append-nil, flat_map}
use Prim.Native.Nat.{ℕ, zero, suc, ◌+◌, ◌-◌, ◌*◌, ◌/◌, ◌%◌, ◌≤◌, ◌<◌}
use native.Mathlib.Nat.{not-suc-le-zero, le_of_suc-le-suc, suc-mul}
use native.Mathlib.Numerals.{add-one}
use native.Mathlib.Omega.{arith}
use lib.ListN.{length, get_or, take, length-append}
use lib.Seq.{sets, take-suc}
use lib.Dec.{eqb, ltb, leb}
use borrow.Author.Tests.{leb-true, lt-ltb, le-ltb, ltb-true, ltb-false, eq-eqb, ne_eqb}
use Rattle.laws.specs.Pick.{pick}
use Rattle.laws.proofs.Cases.{by_test, pick_true, pick_false, and_left, and_right}
use Rattle.laws.proofs.ListLaws.{take_sets}
use Rattle.laws.proofs.TrimLaws.{between_below, between_yes, between_above}
use Rattle.std.proofs.Common.{Result, Ok, Err}
use Rattle.std.specs.List.{list_all}
use Rattle.std.proofs.Common.{rules}
use Rattle.std.specs.Char.{is_ascii_hexdigit}
use Rattle.std.specs.Option.{IfSome}
use Rattle.laws.specs.Text.{between}
use Rattle.std.specs.Result.{result_ok}
use Rattle.texts.specs.Hex.{hex_value, is_hex, bytes_of, read_of, left_by}
use Rattle.texts.specs.declared.hex.HexError.{HexError}
use Rattle.texts.specs.declared.hex.HexError.TheVariants.{NoDigit, Odd, TooLong}

-- ---- texts that are made byte by byte

module _ (f : ℕ → List ℕ) where
  flat_append : (s t : List ℕ) → flat_map f (s ++ t) ≡ flat_map f s ++ flat_map f t
  unfolding flat_map
  flat_append [] t = refl
  flat_append (x ∷ s) t = rw (flat_append s t, append_assoc)

  -- one byte more
  pub flat_more : (s : List ℕ) (i : ℕ) → i < length s → flat_map f (take (i + 1) s) ≡ flat_map f (take i s) ++ f (get_or s i 0)
  unfolding flat_map
  flat_more s i h = rw (add-one i, take-suc s i 0 h, flat_append (take i s) (get_or s i 0 ∷ []), append-nil)

  -- a bound on each byte's text bounds the whole
  pub flat_length : (k : ℕ) → ((x : ℕ) → length (f x) ≤ k) → (s : List ℕ) → length (flat_map f s) ≤ length s * k
  unfolding flat_map
  flat_length k h [] = omega arith
  flat_length k h (x ∷ s) =
      let e : length (f x ++ flat_map f s) ≡ length (f x) + length (flat_map f s) = length-append (f x) (flat_map f s) in
      let r : length (flat_map f s) ≤ length s * k = flat_length k h s in
      let m : suc (length s) * k ≡ length s * k + k = suc-mul (length s) k in
      omega (arith, e, r, h x, m)

-- ---- the value of a digit

module _ (c : ℕ) where
  pub value_low : c < 48 → hex_value c ≡ 16
  unfolding hex_value pick
  value_low h = rw (between_below 48 57 c h, between_below 65 70 c (omega arith), between_below 97 102 c (omega arith))

  pub value_digit : 48 ≤ c → c ≤ 57 → hex_value c ≡ c - 48
  unfolding hex_value pick
  value_digit h k = rw (between_yes 48 57 c h k)

  pub value_middle : 57 < c → c < 65 → hex_value c ≡ 16
  unfolding hex_value pick
  value_middle h k = rw (between_above 48 57 c (omega arith) h, between_below 65 70 c k, between_below 97 102 c (omega arith))

  pub value_capital : 65 ≤ c → c ≤ 70 → hex_value c ≡ c - 55
  unfolding hex_value pick
  value_capital h k = rw (between_above 48 57 c (omega arith) (omega arith), between_yes 65 70 c h k)

  pub value_upper : 70 < c → c < 97 → hex_value c ≡ 16
  unfolding hex_value pick
  value_upper h k = rw (between_above 48 57 c (omega arith) (omega arith), between_above 65 70 c (omega arith) h, between_below 97 102 c k)

  pub value_small : 97 ≤ c → c ≤ 102 → hex_value c ≡ c - 87
  unfolding hex_value pick
  value_small h k =
      rw (between_above 48 57 c (omega arith) (omega arith), between_above 65 70 c (omega arith) (omega arith), between_yes 97 102 c h k)

  pub value_high : 102 < c → hex_value c ≡ 16
  unfolding hex_value pick
  value_high h =
      rw (between_above 48 57 c (omega arith) (omega arith), between_above 65 70 c (omega arith) (omega arith), between_above 97 102 c (omega arith) h)

-- ---- a text of digits

hexdigit_is : (c : ℕ) → is_ascii_hexdigit c ≡ ltb (hex_value c) 16
unfolding hex_value pick between
hexdigit_is c =
    by_test (leb 48 c && leb c 57)
    (λ t. rw (t, lt-ltb (c - 48) 16 (omega (arith, leb-true c 57 (and_right (leb 48 c) (leb c 57) t)))))
    (λ t. by_test (leb 65 c && leb c 70)
    (λ u. rw (t, u, lt-ltb (c - 55) 16 (omega (arith, leb-true c 70 (and_right (leb 65 c) (leb c 70) u)))))
    (λ u. by_test (leb 97 c && leb c 102)
    (λ v. rw (t, u, v, lt-ltb (c - 87) 16 (omega (arith, leb-true c 102 (and_right (leb 97 c) (leb c 102) v)))))
    (λ v. rw (t, u, v))))

pub hex_all : (s : List ℕ) → list_all is_ascii_hexdigit s ≡ is_hex s
unfolding is_hex
hex_all [] = refl
hex_all (c ∷ s) = rw (hexdigit_is c, hex_all s)

-- each of its bytes has a value below 16
pub hex_digit : (s : List ℕ) → is_hex s ≡ true → (i : ℕ) → i < length s → hex_value (get_or s i 0) < 16
unfolding is_hex
hex_digit [] e i h = absurd (not-suc-le-zero h)
hex_digit (c ∷ s) e zero h = ltb-true (hex_value c) 16 (and_left (ltb (hex_value c) 16) (is_hex s) e)
hex_digit (c ∷ s) e (suc i) h = hex_digit s (and_right (ltb (hex_value c) 16) (is_hex s) e) i (le_of_suc-le-suc h)

-- one byte more of pairs
pub bytes_more : (s : List ℕ) (i : ℕ) → i * 2 + 1 < length s
    → bytes_of (take (i * 2 + 2) s) ≡ bytes_of (take (i * 2) s) ++ ((hex_value (get_or s (i * 2) 0) * 16 + hex_value (get_or s (i * 2 + 1) 0)) ∷ [])
unfolding bytes_of
bytes_more [] i h = absurd (not-suc-le-zero h)
bytes_more (x ∷ []) i h = absurd (omega arith)
bytes_more (x ∷ y ∷ s) zero h = refl
bytes_more (x ∷ y ∷ s) (suc i) h =
    let a : suc i * 2 ≡ suc (suc (i * 2)) = omega arith in
    let b : suc i * 2 + 1 ≡ suc (suc (i * 2 + 1)) = omega arith in
    let d : suc i * 2 + 2 ≡ suc (suc (i * 2 + 2)) = omega arith in
    let k : i * 2 + 1 < length s = omega arith in
    rw (d, b, a, bytes_more s i k)

-- ---- what is read

module _ (room : ℕ) (s : List ℕ) where
  pub read_other : is_hex s ≡ false → Err NoDigit ≡ read_of room s
  unfolding read_of
  read_other e = sym (pick_false _ _ e)

  module _ (hex : is_hex s ≡ true) where
    pub read_odd : length s % 2 ≡ 1 → Err Odd ≡ read_of room s
    unfolding read_of
    read_odd h = sym (pick_true _ _ hex ∙ pick_true _ _ (eq-eqb (length s % 2) 1 h))

    module _ (even : length s % 2 ≡ 1 → ⊥) where
      pub read_long : room < length s / 2 → Err TooLong ≡ read_of room s
      unfolding read_of
      read_long h = sym (pick_true _ _ hex ∙ (pick_false _ _ (ne_eqb (length s % 2) 1 even) ∙ pick_true _ _ (lt-ltb room (length s / 2) h)))

      pub read_all : length s / 2 ≤ room → Ok (length s / 2) ≡ read_of room s
      unfolding read_of
      read_all h = sym (pick_true _ _ hex ∙ (pick_false _ _ (ne_eqb (length s % 2) 1 even) ∙ pick_false _ _ (le-ltb room (length s / 2) h)))

-- ---- how many bytes there are

bytes_length : (s : List ℕ) → length (bytes_of s) ≡ length s / 2
unfolding bytes_of
bytes_length [] = refl
bytes_length (h ∷ []) = refl
bytes_length (h ∷ l ∷ s) =
    let e : length (h ∷ l ∷ s) / 2 ≡ suc (length s / 2) = omega arith in
    rw (e, bytes_length s)

-- what was read stands in front: so many bytes, for which there was room
pub read_back : (room : ℕ) (s : List ℕ) (n : ℕ) → Ok n ≡ read_of room s → (n ≡ length (bytes_of s)) × (length (bytes_of s) ≤ room)
unfolding read_of
read_back room s n e =
    by_test (is_hex s)
    (λ t. by_test (eqb (length s % 2) 1)
    (λ u. cc (pick_true _ _ t, pick_true _ _ u))
    (λ u. by_test (ltb room (length s / 2))
    (λ v. cc (pick_true _ _ t, pick_false _ _ u, pick_true _ _ v))
    (λ v.
    let k : n ≡ length s / 2 = grind (arith, e ∙ pick_true _ _ t ∙ pick_false _ _ u ∙ pick_false _ _ v) in
    (omega (arith, k, bytes_length s), omega (arith, bytes_length s, ltb-false room (length s / 2) v)))))
    (λ t. cc (pick_false _ _ t))

-- no more are read than there is room for
pub read_few : (room : ℕ) (s : List ℕ) (r : Result ℕ HexError) → r ≡ read_of room s → IfSome (result_ok r) (λ n. n ≤ room)
read_few room s (Ok n) e = let k = read_back room s n e in omega (arith, k.0, k.1)
read_few room s (Err x) e = search rules

pub read_front : (room : ℕ) (s out t : List ℕ) (r : Result ℕ HexError) (n : ℕ) → r ≡ read_of room s → t ≡ left_by r s out → r ≡ Ok n → length out ≡ room → take n t ≡ bytes_of s
unfolding left_by
read_front room s out t r n e l told size =
    let k = read_back room s n (sym told ∙ e) in
    let z : 0 + length (bytes_of s) ≡ n = omega arith in
    ap (take n) (l ∙ ap (λ (q : Result ℕ HexError). left_by q s out) told)
    ∙ ap (λ (m : ℕ). take m (sets out 0 (bytes_of s))) (sym z)
    ∙ take_sets out 0 (bytes_of s) (omega (arith, k.1, size))
