-- The ways through the tables of names: which row takes a call, and the bits of a call by the row that takes it.
-- Assumes nothing.
use mathlib.Core.Path.{◌≡◌, refl, sym, ap, subst, ◌∙◌}
use mathlib.Core.Bool.{Bool, true, false, ◌&&◌, ◌||◌, not, false≢true}
use mathlib.Core.List.{List, [], ◌∷◌, ◌++◌, map, append_assoc}
use Rattle.std.proofs.Common.{Option, None, Some}
use Prim.Native.Nat.{ℕ, ◌-◌, ◌≤◌, ◌<◌}
use native.Mathlib.Omega.{arith}
use lib.ListN.{length, take, drop, get_or, length-drop, get_or-eq_default}
use lib.Dec.{eqb, ltb, leb}
use lib.Seq.{take_all, drop-append_seam}
use borrow.Author.Tests.{leb-true, not-true, le-leb, lt-leb}
use Rattle.laws.specs.Bits.{num, bits_of}
use Rattle.laws.specs.Pick.{pick}
use Rattle.laws.specs.Text.{ascii, same, is_one_of, starts, later, position}
use Rattle.laws.proofs.Cases.{by_test, by_le, and_left, and_right}
use Rattle.laws.proofs.TextLaws.{same_eq, eq_same, ne_same, starts_eq, starts_append, starts_short}
use Rattle.ax25_token.specs.Put.{wide_ends, paired_bits, row_bits, SmallRow, coded_bits, counted_bits, SmallCount, in_range, unnamed_bits, unpaired_bits}
use Rattle.ax25_token.specs.Tables.{long, sym_of, Numbered, wide_tokens, wide_row, pair_rows, pair_texts, fixed_rows, numbered_rows}
use Rattle.ax25_token.specs.Token.{hyphened, number_at, pair_bits, pairs_bits, fixed_bits, takes, numbered_bits, plain_ap, ap_bits, spelled_bits, or_else, token_bits}
use Rattle.ax25_token.proofs.Cases.{numbered_here, numbered_next}

-- ---- texts that start with a name

pub starts_room : (n c : List ℕ) → starts n c ≡ true → length n ≤ length c
starts_room n c e = by_le (length n) (length c) (λ h. h) (λ h. absurd (false≢true (sym (starts_short n c h) ∙ e)))

module _ (n c : List ℕ) where
  same_behind : (t : List ℕ) → starts n c ≡ true → same c (n ++ t) ≡ same (drop (length n) c) t
  same_behind t e =
      by_test (same (drop (length n) c) t)
      (λ q. eq_same c (n ++ t) (starts_eq n c e ∙ ap (λ (u : List ℕ). n ++ u) (same_eq (drop (length n) c) t q)) ∙ sym q)
      (λ q. ne_same c (n ++ t) (λ z. false≢true (sym q ∙ eq_same (drop (length n) c) t (ap (drop (length n)) z ∙ drop-append_seam n t))) ∙ sym q)

  same_other : (t : List ℕ) → starts n c ≡ false → same c (n ++ t) ≡ false
  same_other t e = ne_same c (n ++ t) (λ z. false≢true (sym e ∙ ap (starts n) z ∙ starts_append n t))

  one_behind : (ts : List (List ℕ)) → starts n c ≡ true → is_one_of c (map (λ (t : List ℕ). n ++ t) ts) ≡ is_one_of (drop (length n) c) ts
  unfolding is_one_of
  one_behind [] e = refl
  one_behind (t ∷ ts) e = rw (same_behind t e, one_behind ts e)

  one_other : (ts : List (List ℕ)) → starts n c ≡ false → is_one_of c (map (λ (t : List ℕ). n ++ t) ts) ≡ false
  unfolding is_one_of
  one_other [] e = refl
  one_other (t ∷ ts) e = rw (same_other t e, one_other ts e)

  -- what stands after the name, as a part of the call
  rest : take (length c - length n) (drop (length n) c) ≡ drop (length n) c
  rest = take_all (length c - length n) (drop (length n) c) (omega (arith, length-drop (length n) c))

  one_part : (ts : List (List ℕ)) → starts n c ≡ true
      → is_one_of (take (length c - length n) (drop (length n) c)) ts ≡ is_one_of c (map (λ (t : List ℕ). n ++ t) ts)
  one_part ts e = ap (λ (u : List ℕ). is_one_of u ts) rest ∙ sym (one_behind ts e)

  pub pair_behind : starts n c ≡ true
      → is_one_of (take (length c - length n) (drop (length n) c)) (ascii "1-1" ∷ ascii "1" ∷ ascii "2" ∷ ascii "2-1" ∷ []) ≡ is_one_of c (pair_texts n)
  unfolding pair_texts
  pair_behind e = one_part (ascii "1-1" ∷ ascii "1" ∷ ascii "2" ∷ ascii "2-1" ∷ []) e

  pub pair_other : starts n c ≡ false → is_one_of c (pair_texts n) ≡ false
  unfolding pair_texts
  pair_other e = one_other (ascii "1-1" ∷ ascii "1" ∷ ascii "2" ∷ ascii "2-1" ∷ []) e

module _ (c : List ℕ) where
  pub wide_behind : starts (ascii "WIDE") c ≡ true → is_one_of (take (length c - 4) (drop 4 c)) wide_ends ≡ is_one_of c wide_tokens
  unfolding wide_tokens wide_ends
  wide_behind e = one_part (ascii "WIDE") c wide_ends e

  pub wide_other : starts (ascii "WIDE") c ≡ false → is_one_of c wide_tokens ≡ false
  unfolding wide_tokens wide_ends
  wide_other e = one_other (ascii "WIDE") c wide_ends e

-- the first four of the texts after WIDE, and the last four
module _ (t : List ℕ) where
  abbrev low : Bool
  low = is_one_of t (ascii "1-1" ∷ ascii "1" ∷ ascii "1-2" ∷ ascii "1-3" ∷ [])

  abbrev high : Bool
  high = is_one_of t (ascii "2" ∷ ascii "2-1" ∷ ascii "2-2" ∷ ascii "2-3" ∷ [])

  or_of : (a b d e x : Bool) → ((a || (b || (d || (e || false)))) || x) ≡ (a || (b || (d || (e || x))))
  or_of true b d e x = refl
  or_of false true d e x = refl
  or_of false false true e x = refl
  or_of false false false true x = refl
  or_of false false false false x = refl

  ends_are : (low || high) ≡ is_one_of t wide_ends
  unfolding is_one_of wide_ends
  ends_are = or_of (same t (ascii "1-1")) (same t (ascii "1")) (same t (ascii "1-2")) (same t (ascii "1-3")) high

  pub ends_low : low ≡ true → is_one_of t wide_ends ≡ true
  ends_low e = sym ends_are ∙ ap (λ (x : Bool). x || high) e

  pub ends_high : low ≡ false → high ≡ is_one_of t wide_ends
  ends_high e = sym (ap (λ (x : Bool). x || high) e) ∙ ends_are

-- ---- the rows of PAIRS

module _ (c : List ℕ) where
  -- what `pair_of` tells
  abbrev Rows : Option (ℕ × ℕ × ℕ) → Type 0
  Rows r = (row_bits r c ≡ pick (is_one_of c wide_tokens) (Some (pair_bits wide_row c)) (pairs_bits pair_rows c)) × SmallRow r

  pub row_wide : is_one_of c wide_tokens ≡ true → Rows (Some (37, 4, 2))
  unfolding row_bits paired_bits pair_bits wide_row pick sym_of long position later
  row_wide e = (rw e, (omega arith, omega arith))

  module _ (a : is_one_of c wide_tokens ≡ false) where
    pub row_pnw : is_one_of c (pair_texts (ascii "PNW")) ≡ true → Rows (Some (38, 3, 1))
    unfolding row_bits paired_bits pair_bits pairs_bits pair_rows pick sym_of long position later
    row_pnw e = (rw (a, e), (omega arith, omega arith))

    module _ (b : is_one_of c (pair_texts (ascii "PNW")) ≡ false) where
      pub row_mw : is_one_of c (pair_texts (ascii "MW")) ≡ true → Rows (Some (39, 2, 1))
      unfolding row_bits paired_bits pair_bits pairs_bits pair_rows pick sym_of long position later
      row_mw e = (rw (a, b, e), (omega arith, omega arith))

      module _ (d : is_one_of c (pair_texts (ascii "MW")) ≡ false) where
        pub row_or : is_one_of c (pair_texts (ascii "OR")) ≡ true → Rows (Some (40, 2, 1))
        unfolding row_bits paired_bits pair_bits pairs_bits pair_rows pick sym_of long position later
        row_or e = (rw (a, b, d, e), (omega arith, omega arith))

        module _ (f : is_one_of c (pair_texts (ascii "OR")) ≡ false) where
          pub row_wa : is_one_of c (pair_texts (ascii "WA")) ≡ true → Rows (Some (41, 2, 1))
          unfolding row_bits paired_bits pair_bits pairs_bits pair_rows pick sym_of long position later
          row_wa e = (rw (a, b, d, f, e), (omega arith, omega arith))

          pub row_none : is_one_of c (pair_texts (ascii "WA")) ≡ false → Rows None
          unfolding row_bits pairs_bits pair_rows pick
          row_none e = (rw (a, b, d, f, e), tt)

pub small_row : (r : Option (ℕ × ℕ × ℕ)) (i k w : ℕ) → SmallRow r → r ≡ Some (i, k, w) → (k ≤ 4) × (w ≤ 2)
small_row r i k w s e = subst SmallRow e s

-- ---- the rows of FIXED

module _ (c : List ℕ) where
  pub fixed_all : same c (ascii "ALL") ≡ true → coded_bits (Some 42) ≡ fixed_bits fixed_rows c
  unfolding coded_bits fixed_bits fixed_rows pick sym_of long position later
  fixed_all e = rw e

  module _ (a : same c (ascii "ALL") ≡ false) where
    pub fixed_cq : same c (ascii "CQ") ≡ true → coded_bits (Some 43) ≡ fixed_bits fixed_rows c
    unfolding coded_bits fixed_bits fixed_rows pick sym_of long position later
    fixed_cq e = rw (a, e)

    pub fixed_later : same c (ascii "CQ") ≡ false → fixed_bits (drop 2 fixed_rows) c ≡ fixed_bits fixed_rows c
    unfolding fixed_bits fixed_rows pick
    fixed_later e = rw (a, e)

  abbrev Later : Option ℕ → Type 0
  Later r = coded_bits r ≡ fixed_bits (drop 2 fixed_rows) c

  pub fixed_bpq : same c (ascii "APBPQ1") ≡ true → Later (Some 47)
  unfolding coded_bits fixed_bits fixed_rows pick sym_of long position later
  fixed_bpq e = rw e

  module _ (a : same c (ascii "APBPQ1") ≡ false) where
    pub fixed_jyc : same c (ascii "APJYC1") ≡ true → Later (Some 48)
    unfolding coded_bits fixed_bits fixed_rows pick sym_of long position later
    fixed_jyc e = rw (a, e)

    module _ (b : same c (ascii "APJYC1") ≡ false) where
      pub fixed_opy : same c (ascii "APOPYT") ≡ true → Later (Some 49)
      unfolding coded_bits fixed_bits fixed_rows pick sym_of long position later
      fixed_opy e = rw (a, b, e)

      module _ (d : same c (ascii "APOPYT") ≡ false) where
        pub fixed_u25 : same c (ascii "APU25N") ≡ true → Later (Some 50)
        unfolding coded_bits fixed_bits fixed_rows pick sym_of long position later
        fixed_u25 e = rw (a, b, d, e)

        module _ (f : same c (ascii "APU25N") ≡ false) where
          pub fixed_vara : same c (ascii "APVARA") ≡ true → Later (Some 51)
          unfolding coded_bits fixed_bits fixed_rows pick sym_of long position later
          fixed_vara e = rw (a, b, d, f, e)

          pub fixed_none : same c (ascii "APVARA") ≡ false → Later None
          unfolding coded_bits fixed_bits fixed_rows pick
          fixed_none e = rw (a, b, d, f, e)

-- ---- the rows of NUMBERED

module _ (n : List ℕ) (lo hi v : ℕ) (c : List ℕ) where
  pub range_other : starts n c ≡ false → in_range n lo hi v c ≡ false
  unfolding in_range
  range_other e = rw e

  pub range_low : starts n c ≡ true → v < lo → in_range n lo hi v c ≡ false
  unfolding in_range
  range_low e h = rw (e, lt-leb lo v h)

  pub range_high : starts n c ≡ true → lo ≤ v → in_range n lo hi v c ≡ ltb v hi
  unfolding in_range
  range_high e h = rw (e, le-leb lo v h)

  pub range_least : in_range n lo hi v c ≡ true → lo ≤ v
  unfolding in_range
  range_least e = leb-true lo v (and_left (leb lo v) (ltb v hi) (and_right (starts n c) (leb lo v && ltb v hi) e))

no_rows : (c : List ℕ) → numbered_bits [] c ≡ None
unfolding numbered_bits
no_rows c = refl

module _ (c : List ℕ) (v : ℕ) (h : hyphened c ≡ false) (e : v ≡ number_at c 4 2) where
  range_takes : (n : Numbered) → in_range n.name n.low n.high v c ≡ takes n c
  unfolding in_range takes
  range_takes n = rw (h, e)

  count_next : (n : Numbered) (ns : List Numbered) → in_range n.name n.low n.high v c ≡ false → numbered_bits (n ∷ ns) c ≡ numbered_bits ns c
  count_next n ns f = numbered_next c n ns (sym (range_takes n) ∙ f)

  count_here : (n : Numbered) (ns : List Numbered) → in_range n.name n.low n.high v c ≡ true
      → counted_bits (Some ((sym_of n.sym), (v - n.low), n.width)) ≡ numbered_bits (n ∷ ns) c
  unfolding counted_bits
  count_here n ns f =
      sym (numbered_here c n ns (sym (range_takes n) ∙ f)
      ∙ ap (λ (x : ℕ). Some (bits_of 6 (sym_of n.sym) ++ bits_of n.width (x - n.low))) (sym e))

  -- what `numbered_of` tells
  abbrev Counts : Option (ℕ × ℕ × ℕ) → Type 0
  Counts r = (counted_bits r ≡ numbered_bits numbered_rows c) × SmallCount r

  pub count_apin : in_range (ascii "APIN") 20 36 v c ≡ true → Counts (Some (44, (v - 20), 4))
  unfolding numbered_rows sym_of long position later pick
  count_apin f = (count_here _ _ f, omega arith)

  module _ (a : in_range (ascii "APIN") 20 36 v c ≡ false) where
    pub count_apww : in_range (ascii "APWW") 11 19 v c ≡ true → Counts (Some (45, (v - 11), 3))
    unfolding numbered_rows sym_of long position later pick
    count_apww f = (count_here _ _ f ∙ sym (count_next _ _ a), omega arith)

    module _ (b : in_range (ascii "APWW") 11 19 v c ≡ false) where
      pub count_apdr : in_range (ascii "APDR") 16 48 v c ≡ true → Counts (Some (46, (v - 16), 5))
      unfolding numbered_rows sym_of long position later pick
      count_apdr f = (count_here _ _ f ∙ sym (count_next _ _ a ∙ count_next _ _ b), omega arith)

      pub count_none : in_range (ascii "APDR") 16 48 v c ≡ false → Counts None
      unfolding numbered_rows counted_bits
      count_none f = (sym (count_next _ _ a ∙ count_next _ _ b ∙ count_next _ _ f ∙ no_rows c), tt)

pub small_count : (r : Option (ℕ × ℕ × ℕ)) (i v w : ℕ) → SmallCount r → r ≡ Some (i, v, w) → w ≤ 5
small_count r i v w s e = subst SmallCount e s

-- ---- a digit

module _ (c : List ℕ) (k : ℕ) where
  pub two_past : length c ≤ k → 0 ≡ num (eqb (get_or c k 0) 50)
  unfolding num
  two_past h = rw (get_or-eq_default c 0 h)

-- ---- calls that start with AP and have no hyphen

pub plain_unhyphened : (c : List ℕ) → plain_ap c ≡ true → hyphened c ≡ false
unfolding plain_ap
plain_unhyphened c e = not-true (hyphened c) (and_right (starts (ascii "AP") c) (not (hyphened c)) e)

starts_both : (w n c : List ℕ) → starts w n ≡ true → starts n c ≡ true → starts w c ≡ true
starts_both w n c e f =
    let x = drop (length n) c in
    let y = drop (length w) n in
    let z : c ≡ w ++ (y ++ x) = starts_eq n c f ∙ ap (λ (m : List ℕ). m ++ x) (starts_eq w n e) ∙ append_assoc w y x in
    ap (starts w) z ∙ starts_append w (y ++ x)

-- every name starts with AP
ap_names : List Numbered → Bool
ap_names [] = true
ap_names (n ∷ ns) = starts (ascii "AP") n.name && ap_names ns

takes_plain : (n : Numbered) (c : List ℕ) → starts (ascii "AP") n.name ≡ true → takes n c ≡ true → plain_ap c ≡ true
unfolding takes plain_ap
takes_plain n c e f =
    let range = leb n.low (number_at c 4 2) && ltb (number_at c 4 2) n.high in
    let named = and_left (starts n.name c) (not (hyphened c) && range) f in
    let bare = and_left (not (hyphened c)) range (and_right (starts n.name c) (not (hyphened c) && range) f) in
    rw (starts_both (ascii "AP") n.name c e named, bare)

numbered_none : (ns : List Numbered) (c : List ℕ) → ap_names ns ≡ true → plain_ap c ≡ false → numbered_bits ns c ≡ None
unfolding numbered_bits ap_names pick
numbered_none [] c e f = refl
numbered_none (n ∷ ns) c e f =
    by_test (takes n c)
    (λ t. absurd (false≢true (sym f ∙ takes_plain n c (and_left (starts (ascii "AP") n.name) (ap_names ns) e) t)))
    (λ t. rw t (numbered_none ns c (and_right (starts (ascii "AP") n.name) (ap_names ns) e) f))

all_ap : ap_names numbered_rows ≡ true
unfolding ap_names numbered_rows starts
all_ap = refl

-- ---- the bits of a call, in the order of the tables

or_none : (o x : Option (List Bool)) → o ≡ None → or_else o x ≡ x
unfolding or_else
or_none o x e = rw e

or_some : (o x : Option (List Bool)) (b : List Bool) → o ≡ Some b → or_else o x ≡ Some b
unfolding or_else
or_some o x b e = rw e

module _ (l : ℕ) (c : List ℕ) where
  module _ (r : Option (ℕ × ℕ × ℕ)) (e : counted_bits r ≡ numbered_bits numbered_rows c) where
    pub plain_uncounted : r ≡ None → or_else (numbered_bits numbered_rows c) (ap_bits l c) ≡ ap_bits l c
    unfolding counted_bits
    plain_uncounted q = or_none (numbered_bits numbered_rows c) (ap_bits l c) (sym e ∙ ap counted_bits q)

    pub plain_counted : (i v w : ℕ) → r ≡ Some (i, v, w) → or_else (numbered_bits numbered_rows c) (ap_bits l c) ≡ Some (bits_of 6 i ++ bits_of w v)
    unfolding counted_bits
    plain_counted i v w q = or_some (numbered_bits numbered_rows c) (ap_bits l c) (bits_of 6 i ++ bits_of w v) (sym e ∙ ap counted_bits q)

  pub unnamed_plain : plain_ap c ≡ true → unnamed_bits l c ≡ or_else (numbered_bits numbered_rows c) (ap_bits l c)
  unfolding unnamed_bits pick
  unnamed_plain e = rw e

  pub unnamed_other : plain_ap c ≡ false → unnamed_bits l c ≡ spelled_bits l c
  unfolding unnamed_bits pick
  unnamed_other e = rw e (or_none (numbered_bits numbered_rows c) (spelled_bits l c) (numbered_none numbered_rows c all_ap e))

  module _ (r : Option ℕ) (e : coded_bits r ≡ fixed_bits fixed_rows c) where
    pub unpaired_unnamed : r ≡ None → unpaired_bits l c ≡ unnamed_bits l c
    unfolding unpaired_bits coded_bits
    unpaired_unnamed q = or_none (fixed_bits fixed_rows c) (unnamed_bits l c) (sym e ∙ ap coded_bits q)

    pub unpaired_fixed : (i : ℕ) → r ≡ Some i → unpaired_bits l c ≡ Some (bits_of 6 i)
    unfolding unpaired_bits coded_bits
    unpaired_fixed i q = or_some (fixed_bits fixed_rows c) (unnamed_bits l c) (bits_of 6 i) (sym e ∙ ap coded_bits q)

  by_rows : token_bits l c ≡ or_else (pick (is_one_of c wide_tokens) (Some (pair_bits wide_row c)) (pairs_bits pair_rows c)) (unpaired_bits l c)
  unfolding token_bits unpaired_bits unnamed_bits or_else pick
  by_rows = by_test (is_one_of c wide_tokens) (λ e. rw e) (λ e. rw e)

  module _ (r : Option (ℕ × ℕ × ℕ)) (e : row_bits r c ≡ pick (is_one_of c wide_tokens) (Some (pair_bits wide_row c)) (pairs_bits pair_rows c)) where
    pub token_unpaired : r ≡ None → token_bits l c ≡ unpaired_bits l c
    unfolding row_bits
    token_unpaired q = by_rows ∙ or_none _ (unpaired_bits l c) (sym e ∙ ap (λ (x : Option (ℕ × ℕ × ℕ)). row_bits x c) q)

    pub token_paired : (i k w : ℕ) → r ≡ Some (i, k, w) → token_bits l c ≡ Some (paired_bits i k w c)
    unfolding row_bits
    token_paired i k w q = by_rows ∙ or_some _ (unpaired_bits l c) (paired_bits i k w c) (sym e ∙ ap (λ (x : Option (ℕ × ℕ × ℕ)). row_bits x c) q)
