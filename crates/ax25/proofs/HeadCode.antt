-- The coder of a frame's head, over the places of its parts.
-- Assumes nothing.
use Rattle.std.proofs.Common.{Option, None}
use mathlib.Core.Path.{◌≡◌, sym, ap, ◌∙◌}
use mathlib.Core.Bool.{Bool, true}
use mathlib.Core.List.{List, map}
use Rattle.std.proofs.Common.{Some}
use Rattle.std.proofs.lemmas.Option.{same_Some}
use Prim.Native.Nat.{ℕ, ◌+◌, ◌-◌, ◌*◌, ◌≤◌}
use native.Mathlib.Nat.{mul-le-mul_right}
use native.Mathlib.Omega.{arith}
use lib.ListN.{length, take, drop, length-map}
use Rattle.laws.specs.Bits.{bits_of}
use Rattle.laws.specs.Text.{upper}
use Rattle.laws.specs.Wrote.{Wrote}
use Rattle.laws.proofs.ListLaws.{from_place}
use Rattle.laws.proofs.WroteLaws.{wrote_then}
use Rattle.ax25_token.specs.Put.{cased_of, Puts}
use Rattle.ax25_token.specs.Token.{token_bits}
use Rattle.ax25_token.proofs.PutLaws.{gave, bad, puts, puts_none, map_up}
use Rattle.ax25_address.specs.Address.{addr_call, heard_in}
use Rattle.ax25_address.specs.Parse.{Parsed, fields_of, parse_of, is_ap, type_of, alias_of}
use Rattle.ax25_address.specs.Record.{Seen}
use Rattle.ax25_address.proofs.AliasLaws.{fields_count}
use Rattle.ax25_address.proofs.RecordLaws.{Known}
use Rattle.ax25_address.proofs.SizeLaws.{parse_size}
use Rattle.ax25.specs.Encode.{type_width, digi_bits, head_bits}
use Rattle.ax25.proofs.CoderLaws.{head_some, head_dest, head_src, head_digis}
use Rattle.ax25.proofs.SizeLaws.{digis_size}

-- ---- the parts of a frame as the code reads them

-- the part of a frame from a place on
abbrev pub from : ℕ → List ℕ → List ℕ
from n d = take (length d - n) (drop n d)

pub record Parts (command l : ℕ) (d : List ℕ) (s : Seen) (p : Parsed) : Type 0 where
  pub dest_is : map (cased_of true) (addr_call l d) ≡ p.dest
  pub src_is : map (cased_of true) (addr_call l (from (l + 1) d)) ≡ p.src
  pub heard_is : map (heard_in l) (fields_of l s.digis (from (2 * (l + 1)) d)) ≡ p.heard
  pub digis_is : map (addr_call l) (fields_of l s.digis (from (2 * (l + 1)) d)) ≡ p.digis
  pub ap_is : s.ap ≡ is_ap p
  pub alias_is : s.alias ≡ alias_of (map (addr_call l) (fields_of l s.digis (from (2 * (l + 1)) d)))
  pub type_is_holds : s.typ ≡ type_of command p

pub parts_of : (command l : ℕ) (d : List ℕ) (s : Seen) (k : Known command l d s) → Parts command l d s k.parts
parts_of command l d s k =
    let z = k.places in
    let digis : map (addr_call l) (fields_of l s.digis (from (2 * (l + 1)) d)) ≡ k.parts.digis =
    ap (λ (u : List ℕ). map (addr_call l) (fields_of l s.digis u)) (from_place d (2 * (l + 1))) ∙ sym z.digis_are in
    record {
      dest_is = map_up (addr_call l d) ∙ sym z.dest_is;
      src_is = map_up (addr_call l (from (l + 1) d)) ∙ ap (λ (u : List ℕ). map upper (addr_call l u)) (from_place d (l + 1)) ∙ sym z.src_is;
      heard_is = ap (λ (u : List ℕ). map (heard_in l) (fields_of l s.digis u)) (from_place d (2 * (l + 1))) ∙ sym z.heard_are;
      digis_is = digis;
      ap_is = ap (λ (t : Seen). t.ap) k.is;
      alias_is = ap (λ (t : Seen). t.alias) k.is ∙ ap alias_of (sym digis);
      type_is_holds = ap (λ (t : Seen). t.typ) k.is;
    }

-- whatever a frame is parsed to, they are its parts
pub parts_are : (command l : ℕ) (d : List ℕ) (s : Seen) (k : Known command l d s) (p : Parsed) → parse_of l d ≡ Some p → Parts command l d s p
parts_are command l d s k p e = rw (same_Some k.parts p (sym k.parsed ∙ e)) at (parts_of command l d s k)

-- ---- how far the digipeaters reach

pub heard_room : (l n : ℕ) (d : List ℕ) (b c : List Bool) (at p : ℕ) → Wrote b at (map (heard_in l) (fields_of l n d)) c p → p ≡ at + n
heard_room l n d b c at p w = omega (arith, w.next_is, length-map (fields_of l n d) (heard_in l), fields_count l n d)

module _ (command l : ℕ) (two : 2 ≤ l) (high : l ≤ 7) (d : List ℕ) (s : Seen) (k : Known command l d s) where
  pub digis_room : (b c : List Bool) (at : ℕ) (t : Option ℕ) (p : ℕ) → t ≡ Some p
      → Puts b at (digi_bits l s.ap (map (addr_call l) (fields_of l s.digis (from (2 * (l + 1)) d)))) c t → p ≤ at + 369
  digis_room b c at t p e f =
      let o = parts_of command l d s k in
      let x = gave b at c (digi_bits l s.ap k.parts.digis) t p e (rw o.digis_is at f) in
      let size = parse_size l d k.parts k.parsed in
      let few : length k.parts.digis * (6 * l + 4) ≤ 8 * (6 * l + 4) = mul-le-mul_right (6 * l + 4) size.few in
      omega (arith, x.wrote.next_is, digis_size l two (omega arith) s.ap k.parts.digis size.digis_base x.bits x.is, few)

-- ---- the head, by what its parts answered

module _ (command l : ℕ) (d : List ℕ) (s : Seen) (p : Parsed) (o : Parts command l d s p) where
  abbrev first : List ℕ
  first = map (cased_of true) (addr_call l d)

  abbrev second : List ℕ
  second = map (cased_of true) (addr_call l (from (l + 1) d))

  abbrev rest : List (List ℕ)
  rest = map (addr_call l) (fields_of l s.digis (from (2 * (l + 1)) d))

  module _ (c e : List Bool) (at : ℕ) (t : Option ℕ) where
    pub bad_dest : t ≡ None → Puts c at (token_bits l first) e t → (b : List Bool) (n : ℕ) (g : List Bool) → Puts b n (head_bits l p (type_of command p)) g None
    bad_dest q f b n g = puts_none b n g (head_dest l p (type_of command p) (ap (token_bits l) (sym o.dest_is) ∙ bad c at e (token_bits l first) t q f))

    module _ (v : ℕ) (q : t ≡ Some v) (f : Puts c at (token_bits l first) e t) (h : List Bool) (u : Option ℕ) (z : Puts e v (token_bits l second) h u) where
      dest : token_bits l p.dest ≡ Some (gave c at e (token_bits l first) t v q f).bits
      dest = ap (token_bits l) (sym o.dest_is) ∙ (gave c at e (token_bits l first) t v q f).is

      pub bad_src : u ≡ None → (b : List Bool) (n : ℕ) (g : List Bool) → Puts b n (head_bits l p (type_of command p)) g None
      bad_src k b n g = puts_none b n g (head_src l p (type_of command p) _ dest (ap (token_bits l) (sym o.src_is) ∙ bad e v h (token_bits l second) u k z))

      module _ (w : ℕ) (k : u ≡ Some w) (i : List Bool) (r : Option ℕ) (y : Puts h w (digi_bits l s.ap rest) i r) where
        src : token_bits l p.src ≡ Some (gave e v h (token_bits l second) u w k z).bits
        src = ap (token_bits l) (sym o.src_is) ∙ (gave e v h (token_bits l second) u w k z).is

        same_digis : digi_bits l (is_ap p) p.digis ≡ digi_bits l s.ap rest
        same_digis = rw (o.ap_is, o.digis_is)

        pub bad_digis : r ≡ None → (b : List Bool) (n : ℕ) (g : List Bool) → Puts b n (head_bits l p (type_of command p)) g None
        bad_digis j b n g = puts_none b n g (head_digis l p (type_of command p) _ _ dest src (same_digis ∙ bad h w i (digi_bits l s.ap rest) r j y))

        pub head_wrote : (x : ℕ) → r ≡ Some x → (b : List Bool) (n : ℕ) → Wrote b n (map (heard_in l) (fields_of l s.digis (from (2 * (l + 1)) d))) c at
            → (g : List Bool) (m : ℕ) → Wrote i x (bits_of (type_width s.ap) s.typ) g m → Puts b n (head_bits l p (type_of command p)) g (Some m)
        head_wrote x j b n heard g m typ =
            let a = gave c at e (token_bits l first) t v q f in
            let a₂ = gave e v h (token_bits l second) u w k z in
            let a₃ = gave h w i (digi_bits l s.ap rest) r x j y in
            puts b n g _ m (head_some l p (type_of command p) a.bits a₂.bits a₃.bits dest src (same_digis ∙ a₃.is))
            (wrote_then (rw o.heard_is at heard) (wrote_then a.wrote (wrote_then a₂.wrote (wrote_then a₃.wrote (rw (o.ap_is, o.type_is_holds) at typ)))))
