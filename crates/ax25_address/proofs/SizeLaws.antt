-- The sizes of what a frame is parsed into.
-- Assumes nothing.
use mathlib.Core.Path.{◌≡◌, refl, sym, ap, subst, ◌∙◌}
use mathlib.Core.List.{List, [], ◌∷◌, map, map-append}
use Rattle.std.proofs.Common.{Some}
use Rattle.std.proofs.lemmas.Option.{none-some, same_Some}
use Prim.Native.Nat.{ℕ, zero, suc, ◌+◌, ◌*◌, ◌/◌, ◌%◌, ◌≤◌}
use native.Mathlib.Nat.{add-mul}
use native.Mathlib.Omega.{arith}
use lib.ListN.{length, take, drop, get_or, length-map, length-take, length-drop}
use lib.Dec.{leb}
use borrow.Author.Tests.{leb-true}
use Rattle.laws.specs.Bits.{odd}
use Rattle.laws.specs.Pick.{pick}
use Rattle.laws.specs.Text.{upper, trim}
use Rattle.laws.proofs.Cases.{by_test, from_some}
use Rattle.laws.proofs.TrimLaws.{trim_le}
use Rattle.ax25_token.specs.Token.{base_of, suffix}
use Rattle.ax25_token.proofs.CleanLaws.{upper_suffix}
use Rattle.ax25_token.proofs.Hyphen.{base_suffix}
use Rattle.ax25_address.specs.Address.{white, half, addr_call, heard_in}
use Rattle.ax25_address.specs.Parse.{split_off, Parsed, digi_fields, parse_of}

-- ---- the letters of a parsed call

module _ (l : ℕ) (a : List ℕ) where
  abbrev letters : List ℕ
  letters = trim white (map half (take l a))

  letters_le : length letters ≤ l
  letters_le = omega (arith, trim_le white (map half (take l a)), length-map (take l a) half, length-take l a)

  pub addr_base : length (base_of (addr_call l a)) ≤ l
  unfolding addr_call
  addr_base = omega (arith, base_suffix letters (get_or a l 0 / 2 % 16), letters_le)

  pub upper_base : length (base_of (map upper (addr_call l a))) ≤ l
  unfolding addr_call
  upper_base =
      let k = get_or a l 0 / 2 % 16 in
      rw (map-append upper letters (suffix k), upper_suffix k (omega arith))
      (omega (arith, base_suffix (map upper letters) k, length-map letters upper, letters_le))

-- ---- how a frame is split

-- what is told of two address fields, the further ones, and the control bytes with what follows them
abbrev parsed_of : ℕ → List ℕ → List ℕ → List (List ℕ) → List ℕ × List ℕ → Parsed
parsed_of l f g fs w =
    record {
      dest = map upper (addr_call l f);
      src = map upper (addr_call l g);
      digis = map (addr_call l) fs;
      heard = map (heard_in l) fs;
      control = get_or w.0 0 0;
      pid = get_or w.0 1 0;
      info = w.1;
    }

pub parse_by : (P : Parsed → Type 0) (l : ℕ) (d : List ℕ) (r : Parsed) → parse_of l d ≡ Some r
    → ((p q : List ℕ × List ℕ) (v : List (List ℕ) × List ℕ) (w : List ℕ × List ℕ) → split_off (l + 1) d ≡ Some p → split_off (l + 1) p.1 ≡ Some q
    → digi_fields l 8 (get_or q.0 l 0) q.1 ≡ Some v → split_off 2 v.1 ≡ Some w → P (parsed_of l p.0 q.0 v.0 w))
    → P r
unfolding parse_of
parse_by P l d r e k =
    from_some (split_off (l + 1) d) _ r e
    (λ p ep e₁. from_some (split_off (l + 1) p.1) _ r e₁
    (λ q eq e₂. from_some (digi_fields l 8 (get_or q.0 l 0) q.1) _ r e₂
    (λ v ev e₃. from_some (split_off 2 v.1) _ r e₃
    (λ w ew e₄. subst P (same_Some (parsed_of l p.0 q.0 v.0 w) r e₄) (k p q v w ep eq ev ew)))))

-- ---- the lengths of the parts

-- what is split off
pub split_is : {A : Type 0} (n : ℕ) (d : List A) (p : List A × List A) → split_off n d ≡ Some p → (n ≤ length d) × (p.0 ≡ take n d) × (p.1 ≡ drop n d)
unfolding split_off pick
split_is n d p e =
    by_test (leb n (length d))
    (λ t. rw (← same_Some (take n d, drop n d) p (rw t at e)) (leb-true n (length d) t, refl, refl))
    (λ t. absurd (none-some p (rw t at e)))

-- it has its length
split_size : {A : Type 0} (n : ℕ) (d : List A) (p : List A × List A) → split_off n d ≡ Some p → (length p.0 ≡ n) × (length d ≡ n + length p.1)
split_size n d p e =
    let s = split_is n d p e in
    let front : length p.0 ≡ length (take n d) = ap length s.1 in
    let rest : length p.1 ≡ length (drop n d) = ap length s.2 in
    (omega (arith, s.0, front, length-take n d), omega (arith, s.0, rest, length-drop n d))

-- further fields: at most k, of l + 1 bytes each
pub digis_size : (l k b : ℕ) (d : List ℕ) (p : List (List ℕ) × List ℕ) → digi_fields l k b d ≡ Some p
    → (length p.0 ≤ k) × (length d ≡ length p.0 * (l + 1) + length p.1)
unfolding digi_fields pick
digis_size l zero b d p e = rw (← same_Some ([], d) p e) (omega arith, omega arith)
digis_size l (suc k) b d p e =
    by_test (odd b)
    (λ t. rw (← same_Some ([], d) p (rw t at e)) (omega arith, omega arith))
    (λ t. from_some (split_off (l + 1) d) _ p (rw t at e)
    (λ q eq g. from_some (digi_fields l k (get_or q.0 l 0) q.1) _ p g
    (λ r er h.
    let s = split_size (l + 1) d q eq in
    let i = digis_size l k (get_or q.0 l 0) q.1 r er in
    rw (← same_Some (q.0 ∷ r.0, r.1) p h) (omega (arith, i.0), omega (arith, i.1, s.1)))))

-- the calls have at most l letters
abbrev pub AllBase : ℕ → List (List ℕ) → Type 0
AllBase l [] = Unit {0}
AllBase l (c ∷ cs) = (length (base_of c) ≤ l) × AllBase l cs

all_base : (l : ℕ) (fs : List (List ℕ)) → AllBase l (map (addr_call l) fs)
all_base l [] = tt
all_base l (f ∷ fs) = (addr_base l f, all_base l fs)

-- the parts of a frame of so many bytes
pub record Sized (l : ℕ) (r : Parsed) (size : ℕ) : Type 0 where
  pub dest_base : length (base_of r.dest) ≤ l
  pub src_base : length (base_of r.src) ≤ l
  pub digis_base : AllBase l r.digis
  pub few : length r.digis ≤ 8
  pub one_each : length r.heard ≡ length r.digis
  pub total : size ≡ (length r.digis + 2) * (l + 1) + 2 + length r.info

pub parse_size : (l : ℕ) (d : List ℕ) (r : Parsed) → parse_of l d ≡ Some r → Sized l r (length d)
parse_size l d r e =
    parse_by (λ t. Sized l t (length d)) l d r e
    (λ p q v w ep eq ev ew.
    let a = split_size (l + 1) d p ep in
    let b = split_size (l + 1) p.1 q eq in
    let c = digis_size l 8 (get_or q.0 l 0) q.1 v ev in
    let z = split_size 2 v.1 w ew in
    record {
      dest_base = upper_base l p.0;
      src_base = upper_base l q.0;
      digis_base = all_base l v.0;
      few = omega (arith, c.0, length-map v.0 (addr_call l));
      one_each = length-map v.0 _ ∙ sym (length-map v.0 (addr_call l));
      total = rw (length-map v.0 (addr_call l), add-mul (length v.0) 2 (l + 1)) (omega (arith, a.1, b.1, c.1, z.1));
    })
