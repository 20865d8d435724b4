-- The ways through the readers of a frame's type, head and body.
-- Assumes nothing.
use mathlib.Core.Path.{◌≡◌, refl, sym, ap, ap₂, subst, ◌∙◌}
use mathlib.Core.Bool.{Bool, true, false}
use mathlib.Core.List.{List, [], ◌∷◌, ◌++◌, append_assoc}
use Rattle.std.proofs.Common.{Option, None, Some}
use Rattle.std.proofs.lemmas.Option.{none-some, same_Some}
use Prim.Native.Nat.{ℕ, zero, suc, ◌+◌, ◌*◌, ◌%◌, ◌≤◌, ◌<◌, zero-le}
use native.Mathlib.Omega.{arith}
use lib.Dec.{eqb}
use lib.ListN.{length, take, drop, get_or, length-append}
use borrow.Author.Tests.{ne_eqb, le-leb, lt-leb}
use Rattle.laws.specs.Bits.{odd}
use Rattle.laws.specs.Pick.{pick}
use Rattle.laws.specs.Text.{ascii, starts}
use Rattle.laws.specs.Wrote.{Wrote}
use Rattle.laws.proofs.Cases.{by_test, by_option, from_some, pick_true, pick_false}
use Rattle.laws.proofs.WroteLaws.{wrote_then, wrote_as}
use Rattle.bits.specs.Read.{take_bits, taken}
use Rattle.bits.proofs.TakenLaws.{told_short, told_bits, told_within}
use Rattle.ax25_token.specs.Token.{read_token}
use Rattle.ax25_address.specs.Kind.{type_number}
use Rattle.ax25_address.specs.Parse.{split_off, aliases, alias_calls}
use Rattle.ax25_address.specs.declared.classify.AprsType.{AprsType}
use Rattle.ax25_address.specs.declared.classify.AprsType.TheVariants as kind
use Rattle.ax25.specs.Decode.{Head, known, is_empty, name_at, addresses, read_alias, read_aliased, read_digis, read_head}
use Rattle.ax25.specs.Encode.{type_width}
use Rattle.ax25_decode.specs.Put.{Took, field_of, ap_in, read_ends, ends_bytes, digi_bytes, type_is, read_type, Types, HeadRead}
use Rattle.ax25.proofs.PlainLaws.{odd_yes}
use Rattle.ax25_decode.proofs.ReaderLaws.{field_size, tokens_count, alias_count}

-- ---- the type

-- a type that there is, and a code that is none
pub type_here : (t : AprsType) (v at : ℕ) → v ≡ type_number t → type_is (Some (t, at)) ≡ pick (known v) (Some (v, at)) None
unfolding type_is pick
type_here kind.Text v at e = rw e
type_here kind.Binary v at e = rw e
type_here kind.Position v at e = rw e
type_here kind.TimestampedPosition v at e = rw e
type_here kind.Message v at e = rw e
type_here kind.ThirdParty v at e = rw e

above : (v k : ℕ) → k ≤ v → (v ≡ k → ⊥) → suc k ≤ v
above v k h n = omega (arith, h, n)

pub type_none : (v at : ℕ) → (v ≡ 0 → ⊥) → (v ≡ 1 → ⊥) → (v ≡ 2 → ⊥) → (v ≡ 3 → ⊥) → (v ≡ 4 → ⊥) → (v ≡ 6 → ⊥) → type_is None ≡ pick (known v) (Some (v, at)) None
unfolding type_is pick
type_none v at a b c d e f =
    let past : 4 < v = above v 4 (above v 3 (above v 2 (above v 1 (above v 0 zero-le a) b) c) d) e in
    rw (lt-leb v 4 past, ne_eqb v 6 f)

typed_by : (b : List Bool) (v p : ℕ) (x : Bool) (r : Option (AprsType × ℕ)) → type_is r ≡ pick x (Some (v, p)) None → p ≤ length b → Types b (pick x (Some (v, drop p b)) None) r
unfolding type_is pick
typed_by b v p true (Some (t, q)) e h =
    let s = same_Some (type_number t, q) (v, p) e in
    let place_is : p ≡ q = sym (ap (λ (x : ℕ × ℕ). x.1) s) in
    (ap₂ (λ (x y : ℕ). Some (x, drop y b)) (sym (ap (λ (x : ℕ × ℕ). x.0) s)) place_is, subst (λ (x : ℕ). x ≤ length b) place_is h)
typed_by b v p true None e h = absurd (none-some (v, p) e)
typed_by b v p false (Some (t, q)) e h = absurd (none-some (type_number t, q) (sym e))
typed_by b v p false None e h = refl

module _ (x : Bool) (b : List Bool) (at n : ℕ) (w : n ≡ type_width x) where
  pub type_short : taken (at + n) (take_bits n (drop at b)) ≡ None → read_type x (drop at b) ≡ None
  unfolding read_type
  type_short u = rw (← w, told_short b at n u)

  pub type_read : 0 < n → (v p : ℕ) → taken (at + n) (take_bits n (drop at b)) ≡ Some (v, p) → (r : Option (AprsType × ℕ)) → type_is r ≡ pick (known v) (Some (v, p)) None
      → Types b (read_type x (drop at b)) r
  unfolding read_type
  type_read h v p u r e = rw (← w, told_bits b at n v p u) (typed_by b v p (known v) r e (told_within b at n v p u h))

-- ---- the parts of a head

module _ (mended : Bool) (l : ℕ) (r : List Bool) where
  ends_is : {P : Type 0} (x : List ℕ × List ℕ) (e : List Bool) → read_ends mended l r ≡ Some (x, e)
      → ((m : List Bool) → read_token mended l r ≡ Some (x.0, m) → read_token mended l m ≡ Some (x.1, e) → P) → P
  unfolding read_ends
  ends_is x e u k =
      from_some (read_token mended l r) _ (x, e) u
      (λ p ep f. from_some (read_token mended l p.1) _ (x, e) f
      (λ q eq g.
      let s = same_Some ((p.0, q.0), q.1) (x, e) g in
      k p.1
      (ep ∙ ap (λ (z : (List ℕ × List ℕ) × List Bool). Some (z.0.0, p.1)) s)
      (eq ∙ ap (λ (z : (List ℕ × List ℕ) × List Bool). Some (z.0.1, z.1)) s)))

  ends_not : {P : Type 0} → read_ends mended l r ≡ None → (read_token mended l r ≡ None → P) → ((p : List ℕ × List Bool) → read_token mended l r ≡ Some p → read_token mended l p.1 ≡ None → P) → P
  unfolding read_ends
  ends_not u f g =
      by_option (read_token mended l r) f
      (λ p e. by_option (read_token mended l p.1) (g p e)
      (λ q k.
      let both : read_ends mended l r ≡ Some ((p.0, q.0), q.1) = rw (e, k) in
      absurd (none-some ((p.0, q.0), q.1) (sym u ∙ both))))

module _ (x : Bool) (r : List Bool) where
  type_not : {P : Type 0} → read_type x r ≡ None → (take_bits (type_width x) r ≡ None → P) → ((t : ℕ × List Bool) → take_bits (type_width x) r ≡ Some t → known t.0 ≡ false → P) → P
  unfolding read_type pick
  type_not u f g =
      by_option (take_bits (type_width x) r) f
      (λ t e. by_test (known t.0)
      (λ k.
      let there : read_type x r ≡ Some (t.0, t.1) = rw (e, k) in
      absurd (none-some (t.0, t.1) (sym u ∙ there)))
      (g t e))

  type_is_lem : {P : Type 0} (v : ℕ) (e : List Bool) → read_type x r ≡ Some (v, e) → (take_bits (type_width x) r ≡ Some (v, e) → known v ≡ true → P) → P
  unfolding read_type pick
  type_is_lem v e u k =
      from_some (take_bits (type_width x) r) _ (v, e) u
      (λ t et f. by_test (known t.0)
      (λ y.
      let s = same_Some (t.0, t.1) (v, e) (rw y at f) in
      k (et ∙ ap Some s) (sym (ap (λ (z : ℕ × List Bool). known z.0) s) ∙ y))
      (λ y. absurd (none-some (v, e) (rw y at f))))

alias_all : (n : ℕ) (r : List Bool) (p : List (List ℕ) × List Bool) → read_alias n r ≡ Some p → length p.0 ≡ n
unfolding read_alias
alias_all n r p u =
    from_some (take_bits 3 r) _ p u
    (λ t et f. from_some (name_at t.0 aliases) _ p f
    (λ a ea g. rw (← same_Some (alias_calls a 1 n, t.1) p g) (alias_count a 1 n)))

aliased_all : (mended : Bool) (l n : ℕ) (r : List Bool) (p : List (List ℕ) × List Bool) → read_aliased mended l n r ≡ Some p → length p.0 ≡ n
unfolding read_aliased pick
aliased_all mended l n [] p u = absurd (none-some p u)
aliased_all mended l n (true ∷ r) p u = alias_all n r p u
aliased_all mended l n (false ∷ r) p u = tokens_count mended l n r p u

-- as many digipeaters as were asked for
digis_count : (mended : Bool) (l : ℕ) (x : Bool) (n : ℕ) (r : List Bool) (p : List (List ℕ) × List Bool) → read_digis mended l x n r ≡ Some p → length p.0 ≡ n
unfolding read_digis pick
digis_count mended l x zero r p u = rw (← same_Some ([], r) p u)
digis_count mended l true (suc n) r p u = aliased_all mended l (suc n) r p u
digis_count mended l false (suc n) r p u = tokens_count mended l (suc n) r p u

no_digis : (v : List (List ℕ)) (n : ℕ) → length v ≡ n → eqb n 0 ≡ is_empty v
no_digis [] n e = rw (← e)
no_digis (c ∷ v) n e = ne_eqb n 0 (omega (arith, e))

-- ---- the head

module _ (mended : Bool) (l n : ℕ) (b : List Bool) where
  pub head_short : length b < n → read_head mended l n b ≡ None
  unfolding read_head split_off pick
  head_short h = rw (lt-leb n (length b) h)

  module _ (h : n ≤ length b) where
    split_is : split_off n b ≡ Some (take n b, drop n b)
    unfolding split_off pick
    split_is = rw (le-leb n (length b) h)

    pub head_ends : read_ends mended l (drop n b) ≡ None → read_head mended l n b ≡ None
    unfolding read_head
    head_ends u = ends_not mended l (drop n b) u (λ e. rw (split_is, e)) (λ p e k. rw (split_is, e, k))

    module _ (x : List ℕ × List ℕ) (r : List Bool) (ex : read_ends mended l (drop n b) ≡ Some (x, r)) (y : Bool) (ey : y ≡ ap_in (read_token mended l (drop n b))) where
      starts_is : y ≡ starts (ascii "AP") x.0
      unfolding ap_in
      starts_is = ends_is mended l (drop n b) x r ex (λ m e k. ey ∙ rw e)

      pub head_digis : read_digis mended l y n r ≡ None → read_head mended l n b ≡ None
      unfolding read_head
      head_digis u = ends_is mended l (drop n b) x r ex (λ m e k. rw (split_is, e, k, ← starts_is, u))

      module _ (v : List (List ℕ)) (q : List Bool) (ev : read_digis mended l y n r ≡ Some (v, q)) where
        pub head_type : read_type y q ≡ None → read_head mended l n b ≡ None
        unfolding read_head pick
        head_type u =
            ends_is mended l (drop n b) x r ex
            (λ m e k. type_not y q u
            (λ f. rw (split_is, e, k, ← starts_is, ev, f))
            (λ t f g. rw (split_is, e, k, ← starts_is, ev, f, g)))

        abbrev head_is : ℕ → Head
        head_is t = record { dest = x.0; src = x.1; digis = v; heard = take n b; typ = t }

        head_is_lem : (t : ℕ) (z : List Bool) → read_type y q ≡ Some (t, z) → read_head mended l n b ≡ Some (head_is t, z)
        unfolding read_head pick
        head_is_lem t z u =
            ends_is mended l (drop n b) x r ex
            (λ m e k. type_is_lem y q t z u
            (λ f g. rw (split_is, e, k, ← starts_is, ev, f, g)))

        bytes_are : ends_bytes l (eqb n 0) x ++ digi_bytes l b n 0 v ≡ addresses l (x.0 ∷ x.1 ∷ v) (false ∷ false ∷ take n b)
        unfolding ends_bytes digi_bytes addresses field_of
        bytes_are =
            rw (no_digis v n (digis_count mended l y n r (v, q) ev))
            (append_assoc (field_of l false false x.0) (field_of l false (is_empty v) x.1) (addresses l v (take n b)))

        pub head_some : (typ : AprsType) (p : ℕ) → read_type y q ≡ Some (type_number typ, drop p b) → p ≤ length b → n ≤ 8 → (out mid e : List ℕ) (i j : ℕ)
            → Wrote out 0 (ends_bytes l (eqb n 0) x) mid i → Wrote mid i (digi_bytes l b n 0 v) e j → HeadRead l b (read_head mended l n b) out e p j typ
        head_some typ p u k m out mid e i j w g =
            record {
              head = head_is (type_number typ);
              is = head_is_lem (type_number typ) (drop p b) u;
              reaches = k;
              few = omega (arith, m, digis_count mended l y n r (v, q) ev);
              kind = refl;
              wrote = wrote_as bytes_are (wrote_then w g);
            }

-- ---- the sizes of address fields

addresses_cons : (l : ℕ) (c : List ℕ) (cs : List (List ℕ)) (hs : List Bool)
    → addresses l (c ∷ cs) hs ≡ field_of l (get_or hs 0 false) (is_empty cs) c ++ addresses l cs (drop 1 hs)
unfolding addresses field_of
addresses_cons l c cs hs = refl

addresses_none : (l : ℕ) (hs : List Bool) → length (addresses l [] hs) ≡ 0
unfolding addresses
addresses_none l hs = refl

pub addresses_size : (l : ℕ) → l ≤ 7 → (cs : List (List ℕ)) (hs : List Bool) → length (addresses l cs hs) ≤ length cs * 8
addresses_size l h [] hs = omega (arith, addresses_none l hs)
addresses_size l h (c ∷ cs) hs =
    let size = ap length (addresses_cons l c cs hs) ∙ length-append (field_of l (get_or hs 0 false) (is_empty cs) c) (addresses l cs (drop 1 hs)) in
    omega (arith, h, size, field_size l (get_or hs 0 false) (is_empty cs) c, addresses_size l h cs (drop 1 hs))

pub ends_place : (l : ℕ) (last : Bool) {b : List Bool} {o : Option ((List ℕ × List ℕ) × List Bool)} {out : List ℕ} {e : List ℕ} {p q : ℕ}
    → Took (ends_bytes l last) b o out 0 e p q → q ≡ (l + 1) + (l + 1)
unfolding ends_bytes
ends_place l last t =
    omega (arith, t.wrote.next_is, length-append (field_of l false false t.value.0) (field_of l false last t.value.1), field_size l false false t.value.0, field_size l false last t.value.1)

-- ---- answers

module _ (b : List Bool) (o : Option (ℕ × List Bool)) (r : Option (AprsType × ℕ)) (h : Types b o r) where
  pub typed : (t : AprsType) (p : ℕ) → r ≡ Some (t, p) → (o ≡ Some (type_number t, drop p b)) × (p ≤ length b)
  typed t p u = subst (λ (x : Option (AprsType × ℕ)). Types b o x) u h

  pub untyped : r ≡ None → o ≡ None
  untyped u = subst (λ (x : Option (AprsType × ℕ)). Types b o x) u h

-- ---- the header

odd_not : (n : ℕ) → (n % 2 ≡ 1 → ⊥) → odd n ≡ false
unfolding odd
odd_not n h = ne_eqb (n % 2) 1 h

module _ {X : Type 0} (n : ℕ) (x y : X) where
  pub by_odd : n % 2 ≡ 1 → x ≡ pick (odd n) x y
  by_odd e = sym (pick_true x y (odd_yes n e))

  pub by_even : (n % 2 ≡ 1 → ⊥) → y ≡ pick (odd n) x y
  by_even h = sym (pick_false x y (odd_not n h))
