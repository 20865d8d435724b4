-- The digipeaters of a frame, counted one by one.
-- Assumes nothing.
use mathlib.Core.Path.{◌≡◌, refl, sym, ap, ap₂, ◌∙◌}
use mathlib.Core.Bool.{true, false}
use mathlib.Core.List.{List, [], ◌∷◌}
use Rattle.std.proofs.Common.{Option, None, Some}
use Rattle.std.proofs.lemmas.Option.{none-some, same_Some}
use Prim.Native.Nat.{ℕ, suc, ◌+◌, ◌-◌, ◌*◌, ◌%◌, ◌≤◌, ◌<◌}
use native.Mathlib.Nat.{add-zero, add-mul, mul-le-mul_right}
use native.Mathlib.Omega.{arith}
use lib.ListN.{length, get_or, take, drop, length-drop, length-map}
use lib.Seq.{get_or-take, get_or-drop, drop-drop}
use borrow.Author.Tests.{le-leb, lt-leb, eq-eqb, ne_eqb}
use Rattle.laws.specs.Bits.{odd}
use Rattle.laws.specs.Pick.{pick}
use Rattle.laws.proofs.Cases.{by_le}
use Rattle.ax25_address.specs.Digis.{counted, digis_from}
use Rattle.ax25_address.specs.Address.{addr_call}
use Rattle.ax25_address.specs.Parse.{split_off, digi_fields, parse_of, count_of}
use Rattle.ax25_address.proofs.SizeLaws.{digis_size}

-- ---- the front of a list

module _ {A : Type 0} (n : ℕ) (d : List A) where
  pub split_yes : n ≤ length d → split_off n d ≡ Some (take n d, drop n d)
  unfolding split_off pick
  split_yes h = rw (le-leb n (length d) h)

  pub split_no : length d < n → split_off n d ≡ None
  unfolding split_off pick
  split_no h = rw (lt-leb n (length d) h)

-- ---- one field

module _ (l k b : ℕ) (d : List ℕ) where
  fields_last : odd b ≡ true → digi_fields l (suc k) b d ≡ Some ([], d)
  unfolding digi_fields pick
  fields_last e = rw e

  fields_short : odd b ≡ false → length d < l + 1 → digi_fields l (suc k) b d ≡ None
  unfolding digi_fields pick
  fields_short e h = rw (e, split_no (l + 1) d h)

counted_next : (n : ℕ) (f : List ℕ) (o : Option (List (List ℕ) × List ℕ)) (x : Option (List (List ℕ) × List ℕ))
    → (o ≡ None → x ≡ None) → ((p : List (List ℕ) × List ℕ) → o ≡ Some p → x ≡ Some (f ∷ p.0, p.1)) → counted n x ≡ counted (n + 1) o
unfolding counted
counted_next n f None x g h = rw (g refl)
counted_next n f (Some p) x g h =
    let e : n + suc (length p.0) ≡ n + 1 + length p.0 = omega arith in
    rw (h p refl) (ap (λ (m : ℕ). Some m) e)

fields_next : (l k b n : ℕ) (d : List ℕ) → odd b ≡ false → l + 1 ≤ length d → counted n (digi_fields l (suc k) b d) ≡ counted (n + 1) (digi_fields l k (get_or d l 0) (drop (l + 1) d))
unfolding digi_fields pick
fields_next l k b n d e h =
    let s : get_or (take (l + 1) d) l 0 ≡ get_or d l 0 = get_or-take (l + 1) d l 0 (omega arith) in
    rw (e, split_yes (l + 1) d h, s)
    (counted_next n (take (l + 1) d) (digi_fields l k (get_or d l 0) (drop (l + 1) d)) _ (λ q. rw q) (λ p q. rw q))

-- ---- the fields after n digipeaters

-- where they start
abbrev pub end_of : ℕ → ℕ → ℕ
end_of l n = (n + 2) * (l + 1)

pub end_size : (n l : ℕ) → n ≤ 8 → l ≤ 7 → end_of l n ≤ 80
end_size n l h k =
    let m : n + 2 ≤ 10 = omega arith in
    let p : (n + 2) * (l + 1) ≤ 10 * (l + 1) = mul-le-mul_right (l + 1) m in
    omega (arith, p)

pub end_next : (l n : ℕ) → end_of l (n + 1) ≡ end_of l n + (l + 1)
end_next l n = omega arith

pub end_above : (l n : ℕ) → 2 * (l + 1) ≤ end_of l n
end_above l n = omega (arith, add-mul n 2 (l + 1))

module _ (l n : ℕ) (d : List ℕ) where
  -- the SSID byte before them
  abbrev before : ℕ
  before = get_or d (end_of l n - 1) 0

  pub digis_eight : 8 ≤ n → digis_from l n d ≡ Some n
  unfolding digis_from digi_fields counted
  digis_eight h =
      let e : 8 - n ≡ 0 = omega arith in
      rw (e, add-zero n)

  module _ (h : n < 8) where
    one_of_them : 8 - n ≡ suc (7 - n)
    one_of_them = omega arith

    pub digis_last : before % 2 ≡ 1 → digis_from l n d ≡ Some n
    unfolding digis_from counted odd
    digis_last e = rw (one_of_them, fields_last l (7 - n) before (drop (end_of l n) d) (eq-eqb (before % 2) 1 e), add-zero n)

    pub digis_short : (before % 2 ≡ 1 → ⊥) → length d < end_of l n + (l + 1) → digis_from l n d ≡ None
    unfolding digis_from counted odd
    digis_short e k =
        rw (one_of_them, fields_short l (7 - n) before (drop (end_of l n) d) (ne_eqb (before % 2) 1 e) (omega (arith, length-drop (end_of l n) d)))

    pub digis_next : (before % 2 ≡ 1 → ⊥) → end_of l n + (l + 1) ≤ length d → digis_from l n d ≡ digis_from l (n + 1) d
    unfolding digis_from odd
    digis_next e k =
        let rest = drop (end_of l n) d in
        let few : 7 - n ≡ 8 - (n + 1) = omega arith in
        let at : end_of l n + l ≡ end_of l (n + 1) - 1 = omega (arith, end_next l n) in
        let on : end_of l n + (l + 1) ≡ end_of l (n + 1) = omega (arith, end_next l n) in
        ap (λ (m : ℕ). counted n (digi_fields l m before rest)) one_of_them
        ∙ fields_next l (7 - n) before n rest (ne_eqb (before % 2) 1 e) (omega (arith, length-drop (end_of l n) d))
        ∙ ap (λ (m : ℕ). counted (n + 1) (digi_fields l m (get_or rest l 0) (drop (l + 1) rest))) few
        ∙ ap₂ (λ (b : ℕ) (s : List ℕ). counted (n + 1) (digi_fields l (8 - (n + 1)) b s))
        (get_or-drop (end_of l n) d l 0 ∙ ap (λ (i : ℕ). get_or d i 0) at)
        (drop-drop (l + 1) (end_of l n) d ∙ ap (λ (i : ℕ). drop i d) on)

-- ---- `parse`, by what the count says

-- what is counted
counted_none : (n : ℕ) (o : Option (List (List ℕ) × List ℕ)) → counted n o ≡ None → o ≡ None
unfolding counted
counted_none n None e = refl
counted_none n (Some p) e = absurd (none-some (n + length p.0) (sym e))

counted_some : {P : Type 0} (m : ℕ) (o : Option (List (List ℕ) × List ℕ)) → counted 0 o ≡ Some m
    → ((p : List (List ℕ) × List ℕ) → o ≡ Some p → length p.0 ≡ m → P) → P
unfolding counted
counted_some m None e k = absurd (none-some m e)
counted_some m (Some p) e k =
    let q : 0 + length p.0 ≡ m = same_Some (0 + length p.0) m e in
    k p refl (omega (arith, q))

module _ (l : ℕ) (d : List ℕ) where
  parse_no : length d < end_of l 0 → parse_of l d ≡ None
  unfolding parse_of
  parse_no h =
      by_le (l + 1) (length d)
      (λ k. rw (split_yes (l + 1) d k, split_no (l + 1) (drop (l + 1) d) (omega (arith, length-drop (l + 1) d))))
      (λ k. rw (split_no (l + 1) d k))

  -- destination or source is cut off
  pub count_no : length d < end_of l 0 → None ≡ count_of (parse_of l d)
  unfolding count_of
  count_no h = rw (parse_no h)

  module _ (h : end_of l 0 ≤ length d) where
    abbrev fields : Option (List (List ℕ) × List ℕ)
    fields = digi_fields l 8 (get_or d (end_of l 0 - 1) 0) (drop (end_of l 0) d)

    first_split : split_off (l + 1) d ≡ Some (take (l + 1) d, drop (l + 1) d)
    first_split = split_yes (l + 1) d (omega arith)

    second_split : split_off (l + 1) (drop (l + 1) d) ≡ Some (take (l + 1) (drop (l + 1) d), drop (l + 1) (drop (l + 1) d))
    second_split = split_yes (l + 1) (drop (l + 1) d) (omega (arith, length-drop (l + 1) d))

    same_fields : digi_fields l 8 (get_or (take (l + 1) (drop (l + 1) d)) l 0) (drop (l + 1) (drop (l + 1) d)) ≡ fields
    same_fields =
        let at : l + 1 + l ≡ end_of l 0 - 1 = omega arith in
        let on : l + 1 + (l + 1) ≡ end_of l 0 = omega arith in
        ap₂ (λ (b : ℕ) (s : List ℕ). digi_fields l 8 b s)
        (get_or-take (l + 1) (drop (l + 1) d) l 0 (omega arith) ∙ get_or-drop (l + 1) d l 0 ∙ ap (λ (i : ℕ). get_or d i 0) at)
        (drop-drop (l + 1) (l + 1) d ∙ ap (λ (i : ℕ). drop i d) on)

    parse_none : fields ≡ None → parse_of l d ≡ None
    unfolding parse_of
    parse_none e = rw (first_split, second_split, same_fields, e)

    module _ (p : List (List ℕ) × List ℕ) (e : fields ≡ Some p) where
      parse_end : length p.1 < 2 → parse_of l d ≡ None
      unfolding parse_of
      parse_end k = rw (first_split, second_split, same_fields, e, split_no 2 p.1 k)

      parse_some : 2 ≤ length p.1 → count_of (parse_of l d) ≡ Some (length p.0)
      unfolding parse_of count_of
      parse_some k = rw (first_split, second_split, same_fields, e, split_yes 2 p.1 k, length-map p.0 (addr_call l))

      parse_length : length d ≡ end_of l (length p.0) + length p.1
      parse_length =
          omega (arith, (digis_size l 8 (get_or d (end_of l 0 - 1) 0) (drop (end_of l 0) d) p e).1, length-drop (end_of l 0) d, add-mul (length p.0) 2 (l + 1))

    -- a field is cut off
    pub count_cut : digis_from l 0 d ≡ None → None ≡ count_of (parse_of l d)
    unfolding digis_from count_of
    count_cut e = rw (parse_none (counted_none 0 fields e))

    module _ (n : ℕ) (e : digis_from l 0 d ≡ Some n) where
      pub count_few : n ≤ 8
      unfolding digis_from
      count_few =
          counted_some n fields e
          (λ p q s. omega (arith, s, (digis_size l 8 (get_or d (end_of l 0 - 1) 0) (drop (end_of l 0) d) p q).0))

      -- control or PID is missing
      pub count_end : length d < end_of l n + 2 → None ≡ count_of (parse_of l d)
      unfolding digis_from count_of
      count_end k =
          counted_some n fields e
          (λ p q s.
          let z : end_of l (length p.0) ≡ end_of l n = ap (end_of l) s in
          rw (parse_end p q (omega (arith, z, parse_length p q))))

      pub count_is : end_of l n + 2 ≤ length d → Some n ≡ count_of (parse_of l d)
      unfolding digis_from
      count_is k =
          counted_some n fields e
          (λ p q s.
          let z : end_of l (length p.0) ≡ end_of l n = ap (end_of l) s in
          sym (parse_some p q (omega (arith, z, parse_length p q)) ∙ ap (λ (m : ℕ). Some m) s))
