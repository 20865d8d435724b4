-- The ways through the readers of a frame's addresses.
-- Assumes nothing.
use mathlib.Core.Path.{◌≡◌, refl, sym, ap, ap₂, subst, ◌∙◌}
use mathlib.Core.Bool.{Bool, true, false}
use mathlib.Core.List.{List, [], ◌∷◌, ◌++◌}
use Rattle.std.proofs.Common.{Option, None, Some}
use Rattle.std.proofs.lemmas.Option.{none-some, same_Some}
use Prim.Native.Nat.{ℕ, zero, suc, ◌+◌, ◌-◌, ◌≤◌, ◌<◌}
use native.Mathlib.Nat.{not-suc-le-zero, le_of_suc-le-suc}
use native.Mathlib.Omega.{arith}
use lib.Bits.{bit_or}
use lib.Dec.{eqb}
use lib.ListN.{length, take, drop, get_or, set, length-append, length-set}
use lib.Seq.{take-nil, drop-drop, get_or-take, get_or-drop}
use borrow.Author.Tests.{ne_eqb}
use Rattle.laws.specs.Bits.{num, value_of}
use Rattle.laws.specs.Pick.{pick}
use Rattle.laws.specs.Text.{ascii, starts}
use Rattle.laws.specs.Wrote.{Wrote}
use Rattle.laws.proofs.Cases.{from_some}
use Rattle.laws.proofs.WroteLaws.{wrote_none, wrote_then, wrote_as}
use Rattle.bits.specs.Read.{take_bits}
use Rattle.bits.proofs.ReadLaws.{take_yes, take_no}
use Rattle.ax25_token.specs.Call.{text_of, call_of, texts}
use Rattle.ax25_token.specs.Token.{base_of, read_token}
use Rattle.ax25_token.specs.declared.Call.{Call}
use Rattle.ax25_token.proofs.CallLaws.{token_next, token_nothing}
use Rattle.ax25_address.specs.Address.{call_bytes}
use Rattle.ax25_address.specs.Parse.{aliases, alias_calls}
use Rattle.ax25_address.proofs.CallField.{field_letters, length_letters}
use Rattle.ax25.specs.Decode.{is_empty, marked, addresses, name_at, read_tokens, read_alias, read_aliased, read_digis}
use Rattle.ax25_decode.specs.Put.{Took, ReadsTo, field_of, ap_in, read_ends, ends_bytes, digi_bytes}

-- ---- answers

module _ {X : Type 0} (f : X → List ℕ) (b : List Bool) (o : Option (X × List Bool)) (out : List ℕ) (to : ℕ) (e : List ℕ) (r : Option (ℕ × ℕ)) (h : ReadsTo f b o out to e r) where
  pub took : (p q : ℕ) → r ≡ Some (p, q) → Took f b o out to e p q
  took p q u = subst (λ (x : Option (ℕ × ℕ)). ReadsTo f b o out to e x) u h

  pub untaken : r ≡ None → o ≡ None
  untaken u = subst (λ (x : Option (ℕ × ℕ)). ReadsTo f b o out to e x) u h

-- a reading that is the same
pub reads_as_lem : {X : Type 0} (f : X → List ℕ) (b : List Bool) {o u : Option (X × List Bool)} → o ≡ u → (out : List ℕ) (to : ℕ) (e : List ℕ) (r : Option (ℕ × ℕ))
    → ReadsTo f b o out to e r → ReadsTo f b u out to e r
reads_as_lem f b q out to e r h = subst (λ x. ReadsTo f b x out to e r) q h

-- ---- one address

-- the marks by their two bits
pub marks : (h last : Bool) {x y : ℕ} → pick h 0x80 0 ≡ x → pick last 0x01 0 ≡ y → x + y ≡ pick h 0x80 0 + pick last 0x01 0
marks h last e f = ap₂ (λ (a b : ℕ). a + b) (sym e) (sym f)

one_more : (f : List ℕ) (x n : ℕ) → length f ≡ n → length (f ++ (x ∷ [])) ≡ n + 1
one_more f x n e = length-append f (x ∷ []) ∙ ap (λ (k : ℕ). k + 1) e

length_field : (l : ℕ) (c : List ℕ) → length (call_bytes l c) ≡ l + 1
unfolding call_bytes
length_field l c = one_more (field_letters l (base_of c)) _ l (length_letters l (base_of c))

pub field_size : (l : ℕ) (h last : Bool) (c : List ℕ) → length (field_of l h last c) ≡ l + 1
unfolding field_of marked
field_size l h last c = length-set (call_bytes l c) l (bit_or (get_or (call_bytes l c) l 0) (pick h 0x80 0 + pick last 0x01 0)) ∙ length_field l c

-- the next place is l + 1 on
pub bytes_next : (l : ℕ) (c : List ℕ) (m : ℕ) {out e : List ℕ} {to q : ℕ} → Wrote out to (set (call_bytes l c) l (bit_or (get_or (call_bytes l c) l 0) m)) e q → q ≡ to + (l + 1)
bytes_next l c m {out} {e} {to} {q} w =
    let size : length (set (call_bytes l c) l (bit_or (get_or (call_bytes l c) l 0) m)) ≡ l + 1 = length-set (call_bytes l c) l (bit_or (get_or (call_bytes l c) l 0) m) ∙ length_field l c in
    w.next_is ∙ ap (λ (n : ℕ). to + n) size

module _ (l : ℕ) (h last : Bool) where
  pub place_next : {b : List Bool} {o : Option (List ℕ × List Bool)} {out : List ℕ} {to : ℕ} {e : List ℕ} {p q : ℕ}
      → Took (field_of l h last) b o out to e p q → q ≡ to + (l + 1)
  unfolding field_of marked
  place_next t = bytes_next l t.value (pick h 0x80 0 + pick last 0x01 0) t.wrote

  -- a field with its marks
  pub field_put : (c : List ℕ) (m : ℕ) → m ≡ pick h 0x80 0 + pick last 0x01 0 → {out e : List ℕ} {to q : ℕ}
      → Wrote out to (set (call_bytes l c) l (bit_or (get_or (call_bytes l c) l 0) m)) e q → Wrote out to (field_of l h last c) e q
  unfolding field_of marked
  field_put c m em w = wrote_as (ap (λ (x : ℕ). set (call_bytes l c) l (bit_or (get_or (call_bytes l c) l 0) x)) em) w

  module _ (b : List Bool) (o : Option (List ℕ × List Bool)) (r : Option (Call × ℕ)) (told : texts (call_of b r) ≡ o) where
    pub address_next : (c : Call) (p : ℕ) → r ≡ Some (c, p) → (m : ℕ) → m ≡ pick h 0x80 0 + pick last 0x01 0 → {out e : List ℕ} {to q : ℕ}
        → Wrote out to (set (call_bytes l (text_of c)) l (bit_or (get_or (call_bytes l (text_of c)) l 0) m)) e q
        → Took (field_of l h last) b o out to e p q
    address_next c p u m em w = record { value = text_of c; is = token_next b o r told c p u; wrote = field_put (text_of c) m em w }

-- ---- a call that starts with AP

module _ (b : List Bool) (o : Option (List ℕ × List Bool)) (r : Option (Call × ℕ)) (told : texts (call_of b r) ≡ o) where
  pub ap_none : r ≡ None → false ≡ ap_in o
  unfolding ap_in
  ap_none u = rw (token_nothing b o r told u)

  pub ap_some : (c : Call) (p : ℕ) → r ≡ Some (c, p) → starts (ascii "AP") (text_of c) ≡ ap_in o
  unfolding ap_in
  ap_some c p u = rw (token_next b o r told c p u)

-- ---- destination and source

module _ (mended : Bool) (l : ℕ) (last : Bool) (b : List Bool) (r : List Bool) (out : List ℕ) (to : ℕ) where
  pub ends_none : read_token mended l r ≡ None → read_ends mended l r ≡ None
  unfolding read_ends
  ends_none u = rw u

  pub ends_then : (mid : List ℕ) (p q : ℕ) → Took (field_of l false false) b (read_token mended l r) out to mid p q → (e : List ℕ) (a : Option (ℕ × ℕ))
      → ReadsTo (field_of l false last) b (read_token mended l (drop p b)) mid q e a → ReadsTo (ends_bytes l last) b (read_ends mended l r) out to e a
  unfolding read_ends ends_bytes
  ends_then mid p q t e (Some (u, v)) k = record { value = (t.value, k.value); is = rw (t.is, k.is); wrote = wrote_then t.wrote k.wrote }
  ends_then mid p q t e None k = rw (t.is, k)

-- ---- the bytes of digipeaters

drop_one : {A : Type 0} (m : ℕ) (xs : List A) → drop 1 (take (suc m) xs) ≡ take m (drop 1 xs)
drop_one m [] = sym (take-nil m)
drop_one m (x ∷ xs) = refl

-- the first with its H bit, and the others
digis_cons : (l : ℕ) (b : List Bool) (m k : ℕ) (c : List ℕ) (cs : List (List ℕ))
    → digi_bytes l b (suc m) k (c ∷ cs) ≡ field_of l (get_or b k false) (is_empty cs) c ++ digi_bytes l b m (k + 1) cs
unfolding digi_bytes addresses field_of
digis_cons l b m k c cs =
    let z : k + 0 ≡ k = omega arith in
    let first : get_or (take (suc m) (drop k b)) 0 false ≡ get_or b k false =
    get_or-take (suc m) (drop k b) 0 false (omega arith) ∙ get_or-drop k b 0 false ∙ ap (λ (i : ℕ). get_or b i false) z in
    let others : drop 1 (take (suc m) (drop k b)) ≡ take m (drop (k + 1) b) = drop_one m (drop k b) ∙ ap (take m) (drop-drop 1 k b) in
    ap₂ (λ (x : Bool) (hs : List Bool). marked l x (is_empty cs) (call_bytes l c) ++ addresses l cs hs) first others

-- the last of n + 1 digipeaters has none after it
last_is : (cs : List (List ℕ)) (m : ℕ) → length cs ≡ m → eqb (suc m) 1 ≡ is_empty cs
last_is [] m e = rw (← e)
last_is (c ∷ cs) m e = ne_eqb (suc m) 1 (omega (arith, e))

-- ---- digipeaters by tokens

pub tokens_count : (mended : Bool) (l m : ℕ) (b : List Bool) (p : List (List ℕ) × List Bool) → read_tokens mended l m b ≡ Some p → length p.0 ≡ m
unfolding read_tokens
tokens_count mended l zero b p e = rw (← same_Some ([], b) p e)
tokens_count mended l (suc m) b p e =
    from_some (read_token mended l b) _ p e
    (λ c ec f. from_some (read_tokens mended l m c.1) _ p f
    (λ cs ecs g. rw (← same_Some (c.0 ∷ cs.0, cs.1) p g) (ap suc (tokens_count mended l m c.1 cs ecs))))

tokens_suc : (mended : Bool) (l m k : ℕ) (b r : List Bool) (out mid : List ℕ) (to p q : ℕ) → Took (field_of l (get_or b k false) (eqb (suc m) 1)) b (read_token mended l r) out to mid p q
    → (e : List ℕ) (a : Option (ℕ × ℕ)) → ReadsTo (digi_bytes l b m (k + 1)) b (read_tokens mended l m (drop p b)) mid q e a
    → ReadsTo (digi_bytes l b (suc m) k) b (read_tokens mended l (suc m) r) out to e a
unfolding read_tokens
tokens_suc mended l m k b r out mid to p q t e (Some (u, v)) d =
    let same : field_of l (get_or b k false) (eqb (suc m) 1) t.value ++ digi_bytes l b m (k + 1) d.value ≡ digi_bytes l b (suc m) k (t.value ∷ d.value) =
    ap (λ (x : Bool). field_of l (get_or b k false) x t.value ++ digi_bytes l b m (k + 1) d.value) (last_is d.value m (tokens_count mended l m (drop p b) (d.value, drop u b) d.is))
    ∙ sym (digis_cons l b m k t.value d.value) in
    record { value = t.value ∷ d.value; is = rw (t.is, d.is); wrote = wrote_as same (wrote_then t.wrote d.wrote) }
tokens_suc mended l m k b r out mid to p q t e None d = rw (t.is, d)

tokens_bad : (mended : Bool) (l m : ℕ) (r : List Bool) → read_token mended l r ≡ None → read_tokens mended l (suc m) r ≡ None
unfolding read_tokens
tokens_bad mended l m r u = rw u

module _ (mended : Bool) (l n k : ℕ) (b : List Bool) where
  pub tokens_end : (at : ℕ) (out : List ℕ) (to : ℕ) → n ≡ 0 → Took (digi_bytes l b n k) b (read_tokens mended l n (drop at b)) out to out at to
  unfolding read_tokens digi_bytes addresses
  tokens_end at out to z = record { value = []; is = rw z; wrote = wrote_none }

  module _ (r : List Bool) (h : n ≡ 0 → ⊥) where
    pub tokens_none : read_token mended l r ≡ None → read_tokens mended l n r ≡ None
    tokens_none u =
        let s : suc (n - 1) ≡ n = omega (arith, h) in
        subst (λ (x : ℕ). read_tokens mended l x r ≡ None) s (tokens_bad mended l (n - 1) r u)

    pub tokens_more : (x : Bool) → x ≡ get_or b k false → (out mid : List ℕ) (to p q : ℕ) → Took (field_of l x (eqb n 1)) b (read_token mended l r) out to mid p q
        → (e : List ℕ) (a : Option (ℕ × ℕ)) → ReadsTo (digi_bytes l b (n - 1) (k + 1)) b (read_tokens mended l (n - 1) (drop p b)) mid q e a
        → ReadsTo (digi_bytes l b n k) b (read_tokens mended l n r) out to e a
    tokens_more x ex out mid to p q t e a d =
        let s : suc (n - 1) ≡ n = omega (arith, h) in
        let first : Took (field_of l (get_or b k false) (eqb (suc (n - 1)) 1)) b (read_token mended l r) out to mid p q =
        subst (λ (y : Bool). Took (field_of l y (eqb (suc (n - 1)) 1)) b (read_token mended l r) out to mid p q) ex
        (subst (λ (m : ℕ). Took (field_of l x (eqb m 1)) b (read_token mended l r) out to mid p q) (sym s) t) in
        subst (λ (x : ℕ). ReadsTo (digi_bytes l b x k) b (read_tokens mended l x r) out to e a) s (tokens_suc mended l (n - 1) k b r out mid to p q first e a d)

-- ---- digipeaters by alias

pub alias_count : (a : List ℕ) (k m : ℕ) → length (alias_calls a k m) ≡ m
unfolding alias_calls
alias_count a k zero = refl
alias_count a k (suc m) = ap suc (alias_count a (suc k) m)

alias_suc : (l m k : ℕ) (b : List Bool) (a : List ℕ) (out mid e : List ℕ) (to p q : ℕ)
    → Wrote out to (field_of l (get_or b k false) (eqb (suc m) 1) (a ++ ((48 + (k + 1)) ∷ ascii "-1"))) mid p
    → Wrote mid p (digi_bytes l b m (k + 1) (alias_calls a (k + 1 + 1) m)) e q
    → Wrote out to (digi_bytes l b (suc m) k (alias_calls a (k + 1) (suc m))) e q
unfolding alias_calls
alias_suc l m k b a out mid e to p q w x =
    let c = a ++ ((48 + (k + 1)) ∷ ascii "-1") in
    let same : field_of l (get_or b k false) (eqb (suc m) 1) c ++ digi_bytes l b m (k + 1) (alias_calls a (k + 1 + 1) m) ≡ digi_bytes l b (suc m) k (c ∷ alias_calls a (k + 1 + 1) m) =
    ap (λ (t : Bool). field_of l (get_or b k false) t c ++ digi_bytes l b m (k + 1) (alias_calls a (k + 1 + 1) m)) (last_is (alias_calls a (k + 1 + 1) m) m (alias_count a (k + 1 + 1) m))
    ∙ sym (digis_cons l b m k c (alias_calls a (k + 1 + 1) m)) in
    let one : k + 1 + 1 ≡ suc (k + 1) = omega arith in
    wrote_as (same ∙ ap (λ (j : ℕ). digi_bytes l b (suc m) k (c ∷ alias_calls a j m)) one) (wrote_then w x)

module _ (l n k : ℕ) (b : List Bool) (a : List ℕ) where
  pub alias_end : (j : ℕ) (out : List ℕ) (to : ℕ) → n ≡ 0 → Wrote out to (digi_bytes l b n k (alias_calls a j n)) out to
  unfolding alias_calls digi_bytes addresses
  alias_end j out to z = rw z wrote_none

  pub alias_more : (n ≡ 0 → ⊥) → (c : List ℕ) → c ≡ a ++ ((48 + (k + 1)) ∷ ascii "-1") → (m : ℕ) → m ≡ pick (get_or b k false) 0x80 0 + pick (eqb n 1) 0x01 0
      → (out mid e : List ℕ) (to p q : ℕ) → Wrote out to (set (call_bytes l c) l (bit_or (get_or (call_bytes l c) l 0) m)) mid p
      → Wrote mid p (digi_bytes l b (n - 1) (k + 1) (alias_calls a (k + 1 + 1) (n - 1))) e q
      → Wrote out to (digi_bytes l b n k (alias_calls a (k + 1) n)) e q
  alias_more h c ec m em out mid e to p q w x =
      let s : suc (n - 1) ≡ n = omega (arith, h) in
      let field = field_put l (get_or b k false) (eqb n 1) c m em w in
      let first : Wrote out to (field_of l (get_or b k false) (eqb (suc (n - 1)) 1) (a ++ ((48 + (k + 1)) ∷ ascii "-1"))) mid p =
      wrote_as (ap₂ (λ (x : ℕ) (y : List ℕ). field_of l (get_or b k false) (eqb x 1) y) (sym s) ec) field in
      subst (λ (x : ℕ). Wrote out to (digi_bytes l b x k (alias_calls a (k + 1) x)) e q) s (alias_suc l (n - 1) k b a out mid e to p q first x)

name_at_lem : (i : ℕ) (names : List (List ℕ)) → i < length names → name_at (suc i) names ≡ Some (get_or names i [])
unfolding name_at
name_at_lem i [] h = absurd (not-suc-le-zero h)
name_at_lem zero (a ∷ names) h = refl
name_at_lem (suc i) (a ∷ names) h = name_at_lem i names (le_of_suc-le-suc h)

name_past : (i : ℕ) (names : List (List ℕ)) → length names ≤ i → name_at (suc i) names ≡ None
unfolding name_at
name_past i [] h = refl
name_past zero (a ∷ names) h = absurd (not-suc-le-zero h)
name_past (suc i) (a ∷ names) h = name_past i names (le_of_suc-le-suc h)

name_zero : (names : List (List ℕ)) → name_at 0 names ≡ None
unfolding name_at
name_zero [] = refl
name_zero (a ∷ names) = refl

five_names : length aliases ≡ 5
unfolding aliases
five_names = refl

module _ (l n : ℕ) (r : List Bool) where
  pub alias_short : take_bits 3 r ≡ None → read_alias n r ≡ None
  unfolding read_alias
  alias_short u = rw u

  module _ (i : ℕ) (e : List Bool) (u : take_bits 3 r ≡ Some (i, e)) where
    alias_unnamed : name_at i aliases ≡ None → read_alias n r ≡ None
    unfolding read_alias
    alias_unnamed v = rw (u, v)

    pub alias_zero : i ≡ 0 → read_alias n r ≡ None
    alias_zero z = alias_unnamed (ap (λ (x : ℕ). name_at x aliases) z ∙ name_zero aliases)

    pub alias_past : 5 < i → read_alias n r ≡ None
    alias_past h =
        let s : i ≡ suc (i - 1) = omega (arith, h) in
        alias_unnamed (ap (λ (x : ℕ). name_at x aliases) s ∙ name_past (i - 1) aliases (omega (arith, five_names, h)))

  pub alias_read : (b : List Bool) (i p : ℕ) → take_bits 3 r ≡ Some (i, drop p b) → (i ≡ 0 → ⊥) → i ≤ 5 → (out e : List ℕ) (to q : ℕ)
      → Wrote out to (digi_bytes l b n 0 (alias_calls (get_or aliases (i - 1) []) (0 + 1) n)) e q → Took (digi_bytes l b n 0) b (read_alias n r) out to e p q
  unfolding read_alias
  alias_read b i p u z h out e to q w =
      let s : i ≡ suc (i - 1) = omega (arith, z) in
      let name : name_at i aliases ≡ Some (get_or aliases (i - 1) []) = ap (λ (x : ℕ). name_at x aliases) s ∙ name_at_lem (i - 1) aliases (omega (arith, five_names, h, z)) in
      record { value = alias_calls (get_or aliases (i - 1) []) 1 n; is = rw (u, name); wrote = w }

-- ---- the alias bit

one_bit : (x : Bool) → value_of (x ∷ []) ≡ num x
unfolding value_of num
one_bit true = refl
one_bit false = refl

take_cons : (x : Bool) (r : List Bool) → take_bits 1 (x ∷ r) ≡ Some (num x, r)
take_cons x r = take_yes 1 (x ∷ r) (omega arith) ∙ ap (λ (v : ℕ). Some (v, r)) (one_bit x)

take_one : (x : Bool) (r : List Bool) (v : ℕ) (e : List Bool) → take_bits 1 (x ∷ r) ≡ Some (v, e) → (num x ≡ v) × (r ≡ e)
take_one x r v e u =
    let s = same_Some (num x, r) (v, e) (sym (take_cons x r) ∙ u) in
    (ap (λ (p : ℕ × List Bool). p.0) s, ap (λ (p : ℕ × List Bool). p.1) s)

take_empty : take_bits 1 [] ≡ None
take_empty = take_no 1 [] (omega arith)

pub aliased_short : (mended : Bool) (l n : ℕ) (r : List Bool) → take_bits 1 r ≡ None → read_aliased mended l n r ≡ None
unfolding read_aliased
aliased_short mended l n [] u = refl
aliased_short mended l n (x ∷ r) u = absurd (none-some (num x, r) (sym u ∙ take_cons x r))

pub aliased_yes : (mended : Bool) (l n : ℕ) (r : List Bool) (v : ℕ) (e : List Bool) → take_bits 1 r ≡ Some (v, e) → v ≡ 1 → read_aliased mended l n r ≡ read_alias n e
unfolding read_aliased pick num
aliased_yes mended l n [] v e u h = absurd (none-some (v, e) (sym take_empty ∙ u))
aliased_yes mended l n (true ∷ r) v e u h = ap (read_alias n) (take_one true r v e u).1
aliased_yes mended l n (false ∷ r) v e u h = absurd (zero_one ((take_one false r v e u).0 ∙ h))
  where
    zero_one : ◌≡◌ {A = ℕ} 0 1 → ⊥
    zero_one q = omega (arith, q)

pub aliased_no : (mended : Bool) (l n : ℕ) (r : List Bool) (v : ℕ) (e : List Bool) → take_bits 1 r ≡ Some (v, e) → (v ≡ 1 → ⊥) → read_aliased mended l n r ≡ read_tokens mended l n e
unfolding read_aliased pick num
aliased_no mended l n [] v e u h = absurd (none-some (v, e) (sym take_empty ∙ u))
aliased_no mended l n (true ∷ r) v e u h = absurd (h (sym (take_one true r v e u).0))
aliased_no mended l n (false ∷ r) v e u h = ap (read_tokens mended l n) (take_one false r v e u).1

-- ---- the digipeaters

module _ (mended : Bool) (l : ℕ) (ap? : Bool) (n : ℕ) where
  pub digis_end : (b : List Bool) (at : ℕ) (out : List ℕ) (to : ℕ) → n ≡ 0 → Took (digi_bytes l b n 0) b (read_digis mended l ap? n (drop at b)) out to out at to
  unfolding read_digis digi_bytes addresses
  digis_end b at out to z = record { value = []; is = rw z; wrote = wrote_none }

  module _ (r : List Bool) (h : n ≡ 0 → ⊥) where
    pub digis_aliased : ap? ≡ true → read_digis mended l ap? n r ≡ read_aliased mended l n r
    unfolding read_digis pick
    digis_aliased t =
        let s : n ≡ suc (n - 1) = omega (arith, h) in
        rw (t, s)

    pub digis_tokens : ap? ≡ false → read_digis mended l ap? n r ≡ read_tokens mended l n r
    unfolding read_digis pick
    digis_tokens t =
        let s : n ≡ suc (n - 1) = omega (arith, h) in
        rw (t, s)
