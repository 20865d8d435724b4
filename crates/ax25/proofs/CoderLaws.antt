-- The ways through the coder of a frame's head.
-- Assumes nothing.
use Rattle.ax25_address.specs.Record.{alias_number}
use Rattle.laws.proofs.Cases.{by_test, pick_true, pick_false}
use Rattle.std.proofs.Common.{Option, is_some}
use mathlib.Core.Path.{◌≡◌, refl, sym, ap, ◌∙◌}
use mathlib.Core.Bool.{Bool, true, false, ◌&&◌}
use mathlib.Core.List.{List, [], ◌∷◌, ◌++◌, map}
use Rattle.std.proofs.Common.{None, Some}
use Prim.Native.Nat.{ℕ, suc, ◌+◌, ◌-◌, ◌*◌, ◌≤◌, ◌<◌}
use native.Mathlib.Omega.{arith}
use lib.ListN.{length, get_or, take, drop}
use lib.Seq.{get_or-take}
use lib.Dec.{ltb, leb}
use borrow.Author.Tests.{lt-ltb, le-ltb}
use Rattle.laws.specs.Bits.{bits_of, Bytes}
use Rattle.laws.specs.Pick.{pick}
use Rattle.laws.specs.Wrote.{Wrote}
use Rattle.laws.specs.Text.{upper}
use Rattle.laws.proofs.ListLaws.{from_place}
use Rattle.laws.proofs.WroteLaws.{wrote_none, wrote_then}
use Rattle.ax25_token.specs.Put.{cased_of, Puts}
use Rattle.ax25_token.specs.Token.{base_of, token_bits}
use Rattle.ax25_token.proofs.PutLaws.{gave, bad, puts, puts_none, map_plain, map_up}
use Rattle.ax25_token.proofs.Sizes.{token_size}
use Rattle.ax25_address.specs.Address.{addr_call, heard_in}
use Rattle.ax25_address.specs.Parse.{Parsed, fields_of, is_ap, alias_of, aliases, alias_from, same_all, alias_calls}
use Rattle.ax25_address.proofs.AliasLaws.{room_next}
use Rattle.ax25_address.proofs.PlaceLaws.{addr_cut}
use Rattle.ax25_address.proofs.SizeLaws.{addr_base, upper_base}
use Rattle.ax25.specs.Encode.{type_width, tokens_bits, digi_bits, head_bits}
pub use Rattle.ax25_token.proofs.PutLaws.{Gave, gave, bad, puts, puts_none}

-- ---- the definitions by case

module _ (l : ℕ) where
  module _ (c : List ℕ) (cs : List (List ℕ)) where
    pub tokens_more : (x y : List Bool) → token_bits l c ≡ Some x → tokens_bits l cs ≡ Some y → tokens_bits l (c ∷ cs) ≡ Some (x ++ y)
    unfolding tokens_bits
    tokens_more x y e f = rw (e, f)

    pub tokens_first : token_bits l c ≡ None → tokens_bits l (c ∷ cs) ≡ None
    unfolding tokens_bits
    tokens_first e = rw e

    pub tokens_rest : (x : List Bool) → token_bits l c ≡ Some x → tokens_bits l cs ≡ None → tokens_bits l (c ∷ cs) ≡ None
    unfolding tokens_bits
    tokens_rest x e f = rw (e, f)

  module _ (v : List ℕ) (vs : List (List ℕ)) where
    pub digis_alias : 0 < alias_of (v ∷ vs) → digi_bits l true (v ∷ vs) ≡ Some (true ∷ bits_of 3 (alias_of (v ∷ vs)))
    unfolding digi_bits pick
    digis_alias h = rw (lt-ltb 0 (alias_of (v ∷ vs)) h)

    pub digis_ap : (x : List Bool) → alias_of (v ∷ vs) ≡ 0 → tokens_bits l (v ∷ vs) ≡ Some x → digi_bits l true (v ∷ vs) ≡ Some (false ∷ x)
    unfolding digi_bits pick
    digis_ap x h e = rw (h, e)

    pub digis_plain : (x : List Bool) → tokens_bits l (v ∷ vs) ≡ Some x → digi_bits l false (v ∷ vs) ≡ Some x
    unfolding digi_bits pick
    digis_plain x e = rw e

    pub digis_bad : (ap : Bool) → (ap && ltb 0 (alias_of (v ∷ vs))) ≡ false → tokens_bits l (v ∷ vs) ≡ None → digi_bits l ap (v ∷ vs) ≡ None
    unfolding digi_bits pick
    digis_bad ap h e = rw (h, e)

  module _ (r : Parsed) (typ : ℕ) where
    pub head_some : (d s v : List Bool) → token_bits l r.dest ≡ Some d → token_bits l r.src ≡ Some s → digi_bits l (is_ap r) r.digis ≡ Some v
        → head_bits l r typ ≡ Some (r.heard ++ (d ++ (s ++ (v ++ bits_of (type_width (is_ap r)) typ))))
    unfolding head_bits
    head_some d s v e f g = rw (e, f, g)

    pub head_dest : token_bits l r.dest ≡ None → head_bits l r typ ≡ None
    unfolding head_bits
    head_dest e = rw e

    pub head_src : (d : List Bool) → token_bits l r.dest ≡ Some d → token_bits l r.src ≡ None → head_bits l r typ ≡ None
    unfolding head_bits
    head_src d e f = rw (e, f)

    pub head_digis : (d s : List Bool) → token_bits l r.dest ≡ Some d → token_bits l r.src ≡ Some s → digi_bits l (is_ap r) r.digis ≡ None → head_bits l r typ ≡ None
    unfolding head_bits
    head_digis d s e f g = rw (e, f, g)

-- ---- n address fields

module _ (l n : ℕ) (d : List ℕ) where
  pub fields_none : n ≡ 0 → fields_of l n d ≡ []
  unfolding fields_of
  fields_none e = rw e

  fields_some : (n ≡ 0 → ⊥) → fields_of l n d ≡ take (l + 1) d ∷ fields_of l (n - 1) (drop (l + 1) d)
  unfolding fields_of
  fields_some h =
      let e : n ≡ suc (n - 1) = omega arith in
      ap (λ (m : ℕ). fields_of l m d) e

  pub heard_some : (n ≡ 0 → ⊥) → map (heard_in l) (fields_of l n d) ≡ leb 0x80 (get_or d l 0) ∷ map (heard_in l) (fields_of l (n - 1) (drop (l + 1) d))
  heard_some h =
      ap (map (heard_in l)) (fields_some h)
      ∙ ap (λ (x : ℕ). leb 0x80 x ∷ map (heard_in l) (fields_of l (n - 1) (drop (l + 1) d))) (get_or-take (l + 1) d l 0 (omega arith))

  pub calls_some : (n ≡ 0 → ⊥) → map (addr_call l) (fields_of l n d) ≡ addr_call l d ∷ map (addr_call l) (fields_of l (n - 1) (drop (l + 1) d))
  calls_some h =
      ap (map (addr_call l)) (fields_some h)
      ∙ ap (λ (c : List ℕ). c ∷ map (addr_call l) (fields_of l (n - 1) (drop (l + 1) d))) (addr_cut l d)

-- room for n fields is room for the first
pub room_first : (l n size : ℕ) → (n ≡ 0 → ⊥) → n * (l + 1) ≤ size → l + 1 ≤ size
room_first l n size h k = (room_next l n size h k).0

-- ---- the coder over n fields, of which d starts at the first

module _ (l n : ℕ) (d : List ℕ) (b : List Bool) (at : ℕ) where
  pub heard_done : n ≡ 0 → Wrote b at (map (heard_in l) (fields_of l n d)) b at
  heard_done e = rw (fields_none l n d e) wrote_none

  pub tokens_done : n ≡ 0 → Puts b at (tokens_bits l (map (addr_call l) (fields_of l n d))) b (Some at)
  unfolding tokens_bits
  tokens_done e = rw (fields_none l n d e) wrote_none

  -- the part after the first field
  abbrev others : List ℕ
  others = take (length d - (l + 1)) (drop (l + 1) d)

  module _ (h : n ≡ 0 → ⊥) (c e : List Bool) where
    pub heard_wrote : {p q : ℕ} → Wrote b at (leb 0x80 (get_or d l 0) ∷ []) c p → Wrote c p (map (heard_in l) (fields_of l (n - 1) others)) e q
        → Wrote b at (map (heard_in l) (fields_of l n d)) e q
    heard_wrote f g = rw (heard_some l n d h) (wrote_then f (rw (from_place d (l + 1)) at g))

    -- the first token is no call
    pub tokens_bad : (t : Option ℕ) → t ≡ None → Puts b at (token_bits l (map (cased_of false) (addr_call l d))) c t
        → Puts b at (tokens_bits l (map (addr_call l) (fields_of l n d))) e None
    tokens_bad t q f =
        let x = bad b at c (token_bits l (map (cased_of false) (addr_call l d))) t q f in
        puts_none b at e (ap (tokens_bits l) (calls_some l n d h) ∙ tokens_first l (addr_call l d) _ (ap (token_bits l) (sym (map_plain (addr_call l d))) ∙ x))

    pub tokens_next : (t : Option ℕ) (p : ℕ) → t ≡ Some p → Puts b at (token_bits l (map (cased_of false) (addr_call l d))) c t
        → (r : Option ℕ) → Puts c p (tokens_bits l (map (addr_call l) (fields_of l (n - 1) others))) e r
        → Puts b at (tokens_bits l (map (addr_call l) (fields_of l n d))) e r
    tokens_next t p q f r g =
        let x = gave b at c (token_bits l (map (cased_of false) (addr_call l d))) t p q f in
        let first : token_bits l (addr_call l d) ≡ Some x.bits = ap (token_bits l) (sym (map_plain (addr_call l d))) ∙ x.is in
        let cs = map (addr_call l) (fields_of l (n - 1) (drop (l + 1) d)) in
        rw (calls_some l n d h) (by (addr_call l d) cs x.bits first x.wrote r (rw (from_place d (l + 1)) at g))
      where
        by : (v : List ℕ) (vs : List (List ℕ)) (x : List Bool) → token_bits l v ≡ Some x → Wrote b at x c p → (r : Option ℕ) → Puts c p (tokens_bits l vs) e r
            → Puts b at (tokens_bits l (v ∷ vs)) e r
        by v vs x k w (Some q) m =
            let y = gave c p e (tokens_bits l vs) (Some q) q refl m in
            puts b at e (x ++ y.bits) q (tokens_more l v vs x y.bits k y.is) (wrote_then w y.wrote)
        by v vs x k w None m = puts_none b at e (tokens_rest l v vs x k (bad c p e (tokens_bits l vs) None refl m))

-- a token takes few bits
module _ (l : ℕ) (two : 2 ≤ l) (high : l ≤ 7) (b : List Bool) (at : ℕ) (c : List Bool) (t : Option ℕ) (p : ℕ) (e : t ≡ Some p) where
  token_room : (v : List ℕ) → length (base_of v) ≤ l → Puts b at (token_bits l v) c t → p ≤ at + 46
  token_room v h f =
      let x = gave b at c (token_bits l v) t p e f in
      omega (arith, x.wrote.next_is, token_size l l two (omega arith) v h x.bits x.is)

  pub address_room : (up : Bool) (d : List ℕ) → Puts b at (token_bits l (map (cased_of up) (addr_call l d))) c t → p ≤ at + 46
  address_room true d f = token_room (map upper (addr_call l d)) (upper_base l d) (rw (map_up (addr_call l d)) at f)
  address_room false d f = token_room (addr_call l d) (addr_base l d) (rw (map_plain (addr_call l d)) at f)

-- ---- the digipeaters

-- the number of an alias takes three bits
alias_from_le : (k : ℕ) (names digis : List (List ℕ)) → alias_from k names digis ≤ k + length names
unfolding alias_from
alias_from_le k [] digis = omega arith
alias_from_le k (a ∷ names) digis =
    let same = same_all digis (alias_calls a 1 (length digis)) in
    by_test same
    (λ h. rw (pick_true k (alias_from (suc k) names digis) h) (omega arith))
    (λ h. rw (pick_false k (alias_from (suc k) names digis) h) (omega (arith, alias_from_le (suc k) names digis)))

pub alias_small : (vs : List (List ℕ)) → alias_of vs ≤ 6
unfolding alias_of aliases
alias_small [] = omega arith
alias_small (v ∷ vs) = alias_from_le 1 aliases (v ∷ vs)

-- the bit that says whether there is one
alias_flag : (o : Option ℕ) → is_some o ≡ ltb 0 (alias_number o)
alias_flag None = refl
alias_flag (Some i) = sym (lt-ltb 0 (suc i) (omega arith))

pub alias_bit : (o : Option ℕ) {b c : List Bool} {at p : ℕ} → Wrote b at (is_some o ∷ []) c p → Wrote b at (ltb 0 (alias_number o) ∷ []) c p
alias_bit o w = rw (← alias_flag o) w

pub digis_none : (l : ℕ) (ap : Bool) (vs : List (List ℕ)) (b : List Bool) (at : ℕ) → length vs ≡ 0 → Puts b at (digi_bits l ap vs) b (Some at)
unfolding digi_bits
digis_none l ap [] b at e = wrote_none
digis_none l ap (v ∷ vs) b at e = absurd (omega arith)

module _ (l : ℕ) (vs : List (List ℕ)) (h : length vs ≡ 0 → ⊥) (ap : Bool) (b : List Bool) (at : ℕ) (e : List Bool) where
  -- the destination does not start with AP
  pub digis_tokens : ap ≡ false → (r : Option ℕ) → Puts b at (tokens_bits l vs) e r → Puts b at (digi_bits l ap vs) e r
  digis_tokens q r f = rw q (by vs h r f)
    where
      by : (vs : List (List ℕ)) → (length vs ≡ 0 → ⊥) → (r : Option ℕ) → Puts b at (tokens_bits l vs) e r → Puts b at (digi_bits l false vs) e r
      by [] k r g = absurd (k refl)
      by (v ∷ vs) k (Some p) g =
          let y = gave b at e (tokens_bits l (v ∷ vs)) (Some p) p refl g in
          puts b at e y.bits p (digis_plain l v vs y.bits y.is) y.wrote
      by (v ∷ vs) k None g = puts_none b at e (digis_bad l v vs false refl (bad b at e (tokens_bits l (v ∷ vs)) None refl g))

  module _ (a p : ℕ) (c : List Bool) (q : ap ≡ true) (alias : a ≡ alias_of vs) (w : Wrote b at (ltb 0 a ∷ []) c p) where
    pub digis_aliased : {n : ℕ} → 0 < a → Wrote c p (bits_of 3 a) e n → Puts b at (digi_bits l ap vs) e (Some n)
    digis_aliased {n} k v = rw q (by vs h (rw alias at k) (rw (lt-ltb 0 a k, alias) at (wrote_then w v)))
      where
        by : (vs : List (List ℕ)) → (length vs ≡ 0 → ⊥) → 0 < alias_of vs → Wrote b at (true ∷ bits_of 3 (alias_of vs)) e n → Puts b at (digi_bits l true vs) e (Some n)
        by [] m k g = absurd (m refl)
        by (v ∷ vs) m k g = puts b at e _ n (digis_alias l v vs k) g

    pub digis_marked : a ≤ 0 → (r : Option ℕ) → Puts c p (tokens_bits l vs) e r → Puts b at (digi_bits l ap vs) e r
    digis_marked k r f =
        let missing : alias_of vs ≡ 0 = omega (arith, k, alias) in
        rw q (by vs h missing (rw (le-ltb 0 a k) at w) r f)
      where
        by : (vs : List (List ℕ)) → (length vs ≡ 0 → ⊥) → alias_of vs ≡ 0 → Wrote b at (false ∷ []) c p → (r : Option ℕ) → Puts c p (tokens_bits l vs) e r → Puts b at (digi_bits l true vs) e r
        by [] m z u r g = absurd (m refl)
        by (v ∷ vs) m z u (Some n) g =
            let y = gave c p e (tokens_bits l (v ∷ vs)) (Some n) n refl g in
            puts b at e (false ∷ y.bits) n (digis_ap l v vs y.bits z y.is) (wrote_then u y.wrote)
        by (v ∷ vs) m z u None g = puts_none b at e (digis_bad l v vs true (ap_none z) (bad c p e (tokens_bits l (v ∷ vs)) None refl g))
          where
            ap_none : alias_of (v ∷ vs) ≡ 0 → (true && ltb 0 (alias_of (v ∷ vs))) ≡ false
            ap_none y = rw y
