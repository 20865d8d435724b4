-- Laws of calls in 16 bytes, of answers that put a reading after what a call holds, and of tables of calls.
-- Assumes nothing.
use mathlib.Core.Path.{◌≡◌, refl, sym, ap, ap₂, ◌∙◌}
use mathlib.Core.Bool.{Bool, true, ◌&&◌}
use mathlib.Core.List.{List, [], ◌∷◌, ◌++◌, append_assoc, append-nil}
use Rattle.std.proofs.Common.{Option, None, Some}
use Rattle.std.proofs.lemmas.Option.{same_Some, none-some}
use Prim.Native.Nat.{ℕ, ◌+◌, ◌-◌, ◌/◌, ◌%◌, ◌≤◌, ◌<◌}
use native.Mathlib.Numerals.{add-one}
use native.Mathlib.Omega.{arith}
use lib.ListN.{length, take, drop, get_or, length-set}
use lib.Seq.{take-suc-set}
use lib.Dec.{eqb, leb}
use borrow.Author.Tests.{eqb-true, leb-true}
use Rattle.laws.specs.Text.{same}
use Rattle.laws.proofs.Cases.{and_left, and_right}
use Rattle.laws.proofs.TextLaws.{below, at_each, same_eq}
use Rattle.bits.specs.Read.{take_bits, taken}
use Rattle.ax25_token.specs.declared.Call.{Call}
use Rattle.ax25_token.specs.Call.{text_of, empty, pushed, appended, call_of, UpTo, texts, behind_call}
use Rattle.ax25_token.specs.Token.{two_digits, suffix, after}
use Rattle.ax25_token.proofs.Cases.{suffix_none, suffix_some, decimal_one, decimal_two}

-- ---- texts put into a call

pub appended_append : (c : Call) (s t : List ℕ) → appended (appended c s) t ≡ appended c (s ++ t)
unfolding appended
appended_append c [] t = refl
appended_append c (x ∷ s) t = appended_append (pushed c x) s t

pub len_appended : (c : Call) (t : List ℕ) → (appended c t).len ≡ c.len + length t
unfolding appended
len_appended c [] = omega arith
len_appended c (x ∷ t) = omega (arith, len_appended (pushed c x) t)

-- two digits; no number, a number of one digit and of two
pub append_digits : (c d e : Call) (v : ℕ) → d ≡ pushed c (48 + v / 10) → e ≡ pushed d (48 + v % 10) → e ≡ appended c (two_digits v)
unfolding appended two_digits
append_digits c d e v p q = q ∙ ap (λ (f : Call). pushed f (48 + v % 10)) p

module _ (c : Call) (v : ℕ) where
  pub append_none : v ≡ 0 → c ≡ appended c (suffix v)
  unfolding appended
  append_none h = rw (suffix_none v h)

  pub append_one : (v ≡ 0 → ⊥) → v < 10 → (d e : Call) → d ≡ pushed c 45 → e ≡ pushed d (48 + v) → e ≡ appended c (suffix v)
  unfolding appended
  append_one h k d e p q = rw (suffix_some v h, decimal_one v k) (q ∙ ap (λ (f : Call). pushed f (48 + v)) p)

  pub append_two : (v ≡ 0 → ⊥) → 10 ≤ v → (d e : Call) → d ≡ pushed c 45 → e ≡ appended d (two_digits v) → e ≡ appended c (suffix v)
  unfolding appended
  append_two h k d e p q = rw (suffix_some v h, decimal_two v k) (q ∙ ap (λ (f : Call). appended f (two_digits v)) p)

text_grows : (t : List ℕ) (c : Call) → length c.bytes ≡ 16 → c.len + length t ≤ 16 → text_of (appended c t) ≡ text_of c ++ t
unfolding text_of appended
text_grows [] c h k = sym (append-nil (take c.len c.bytes))
text_grows (x ∷ t) c h k =
    let room : c.len < length c.bytes = omega arith in
    text_grows t (pushed c x) (length-set c.bytes c.len x ∙ h) (omega arith)
    ∙ rw (add-one, take-suc-set c.bytes c.len x room, append_assoc (take c.len c.bytes) (x ∷ []) t)

-- a call holds the text that was put into it
pub text_back : (t : List ℕ) → length t ≤ 16 → text_of (appended empty t) ≡ t
unfolding text_of
text_back t h = text_grows t empty refl (omega arith)

-- ---- answers

-- what `take` answers
abbrev pub taken_at : List Bool → ℕ → ℕ → Option (ℕ × ℕ)
taken_at b at n = taken (at + n) (take_bits n (drop at b))

-- an answer is that reading after what a call holds, of at most n bytes more
abbrev pub Onto : List Bool → Call → ℕ → Option (List ℕ × List Bool) → Option (Call × ℕ) → Type 0
Onto b c n o r = (call_of b r ≡ behind_call c o) × UpTo (c.len + n) r

-- at most m letters are at most n
pub longer : {m n : ℕ} (r : Option (Call × ℕ)) → UpTo m r → m ≤ n → UpTo n r
longer None h k = tt
longer (Some d) h k = omega arith

-- a name, and then the reading
pub behind_after : (c : Call) (n : List ℕ) (o : Option (List ℕ × List Bool)) → behind_call c (after n o) ≡ behind_call (appended c n) o
unfolding behind_call after
behind_after c n None = refl
behind_after c n (Some p) = rw (appended_append c n p.0)

-- the call as it is; no call; a text more
pub onto_stop : (b : List Bool) (c : Call) (n p : ℕ) (o : Option (List ℕ × List Bool)) → o ≡ Some ([], drop p b)
    → Onto b c n o (Some (c, p))
unfolding call_of behind_call appended
onto_stop b c n p o e = (rw e, omega arith)

pub onto_nothing : (b : List Bool) (c : Call) (n : ℕ) (o : Option (List ℕ × List Bool)) (r : Option (Call × ℕ)) → o ≡ None → r ≡ None → Onto b c n o r
unfolding call_of behind_call
onto_nothing b c n o None e q = (rw e, tt)
onto_nothing b c n o (Some d) e q = absurd (none-some d (sym q))

pub onto_next : (b : List Bool) (c : Call) (n : ℕ) (o : Option (List ℕ × List Bool)) (t : List ℕ) (p : ℕ) (d : Call)
    → o ≡ Some (t, drop p b) → d ≡ appended c t → d.len ≤ c.len + n → Onto b c n o (Some (d, p))
unfolding call_of behind_call
onto_next b c n o t p d e q l = (rw (e, q), l)

-- what an answer with a next position was read from
pub record Got (b : List Bool) (c : Call) (o : Option (List ℕ × List Bool)) (d : Call) (p : ℕ) : Type 0 where
  pub text : List ℕ
  pub read : o ≡ Some (text, drop p b)
  pub call : d ≡ appended c text

got_by : (b : List Bool) (c : Call) (o : Option (List ℕ × List Bool)) (d : Call) (p : ℕ) → Some (d, drop p b) ≡ behind_call c o → Got b c o d p
unfolding behind_call
got_by b c None d p e = absurd (none-some (d, drop p b) (sym e))
got_by b c (Some q) d p e =
    let f = same_Some (d, drop p b) (appended c q.0, q.1) e in
    record {
      text = q.0;
      read = ap (λ (r : List Bool). Some (q.0, r)) (sym (ap (λ (x : Call × List Bool). x.1) f));
      call = ap (λ (x : Call × List Bool). x.0) f;
    }

pub got_next : (b : List Bool) (c : Call) (n : ℕ) (o : Option (List ℕ × List Bool)) (r : Option (Call × ℕ)) (d : Call) (p : ℕ)
    → Onto b c n o r → r ≡ Some (d, p) → Got b c o d p
unfolding call_of
got_next b c n o r d p i e = got_by b c o d p (rw e at i.0)

pub got_len : (b : List Bool) (c : Call) (n : ℕ) (o : Option (List ℕ × List Bool)) (r : Option (Call × ℕ)) (d : Call) (p : ℕ)
    → Onto b c n o r → r ≡ Some (d, p) → d.len ≤ c.len + n
got_len b c n o r d p i e = rw e at i.1

none_by : (c : Call) (o : Option (List ℕ × List Bool)) → None ≡ behind_call c o → o ≡ None
unfolding behind_call
none_by c None e = refl
none_by c (Some q) e = absurd (none-some (appended c q.0, q.1) e)

pub got_none : (b : List Bool) (c : Call) (n : ℕ) (o : Option (List ℕ × List Bool)) (r : Option (Call × ℕ)) → Onto b c n o r → r ≡ None → o ≡ None
unfolding call_of
got_none b c n o r i e = none_by c o (rw e at i.0)

-- ---- the text of an answer

-- a reading into the empty call, of at most 16 bytes
pub onto_text : (b : List Bool) (n : ℕ) (o : Option (List ℕ × List Bool)) (r : Option (Call × ℕ)) → n ≤ 16 → Onto b empty n o r
    → (texts (call_of b r) ≡ o) × UpTo n r
unfolding call_of texts
onto_text b n o None h i = (sym (none_by empty o i.0), tt)
onto_text b n o (Some (c, p)) h i =
    let g = got_by b empty o c p i.0 in
    let e : c ≡ appended empty g.text = g.call in
    let len : c.len ≡ (appended empty g.text).len = ap (λ (d : Call). d.len) e in
    let few : length g.text ≤ 16 = omega (arith, len, i.1, len_appended empty g.text) in
    (ap (λ (x : List ℕ). Some (x, drop p b)) (ap text_of e ∙ text_back g.text few) ∙ sym g.read, longer (Some (c, p)) i.1 (omega arith))

-- what an answer says of the reading
module _ (b : List Bool) (o : Option (List ℕ × List Bool)) (r : Option (Call × ℕ)) (told : texts (call_of b r) ≡ o) where
  pub token_next : (c : Call) (p : ℕ) → r ≡ Some (c, p) → o ≡ Some (text_of c, drop p b)
  unfolding call_of texts
  token_next c p e = rw (← told, e)

  pub token_nothing : r ≡ None → o ≡ None
  unfolding call_of texts
  token_nothing e = rw (← told, e)

-- `&bytes[0..len]`
pub text_front : (c : Call) → take (c.len - 0) c.bytes ≡ text_of c
unfolding text_of
text_front c =
    let e : c.len - 0 ≡ c.len = omega arith in
    ap (λ (n : ℕ). take n c.bytes) e

-- ---- a table of names and their lengths

-- the k-th row is the k-th call, of at most so many letters
unfoldable pub is_row : (ℕ → Call) → ℕ → List (List ℕ) → List ℕ → ℕ → Bool
is_row call most names lens k =
    same (get_or names k []) (call k).bytes && (eqb (get_or lens k 0) (call k).len && leb (get_or lens k 0) most)

module _ (call : ℕ → Call) (most count : ℕ) (names : List (List ℕ)) (lens : List ℕ) (all : below (is_row call most names lens) count ≡ true) (k : ℕ) (h : k < count) where
  pub row_is : (◌≡◌ {A = Call} (record { bytes = get_or names k []; len = get_or lens k 0 }) (call k)) × (get_or lens k 0 ≤ most)
  unfolding is_row
  row_is =
      let t : is_row call most names lens k ≡ true = at_each (is_row call most names lens) count all k h in
      let s = and_left (same (get_or names k []) (call k).bytes) _ t in
      let n = and_right (same (get_or names k []) (call k).bytes) _ t in
      let bytes = same_eq (get_or names k []) (call k).bytes s in
      let len = eqb-true (get_or lens k 0) (call k).len (and_left (eqb (get_or lens k 0) (call k).len) _ n) in (
        ap₂ (λ (x : List ℕ) (m : ℕ). record { bytes = x; len = m }) bytes len,
        leb-true (get_or lens k 0) most (and_right (eqb (get_or lens k 0) (call k).len) _ n),
      )
