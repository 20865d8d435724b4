-- What stands before the body of a plain frame is read back.
-- Assumes nothing.
use mathlib.Core.Path.{◌≡◌, refl, sym, ap}
use mathlib.Core.Bool.{Bool, true, false}
use mathlib.Core.List.{List, [], ◌∷◌, ◌++◌, append_assoc}
use Rattle.std.proofs.Common.{Option, Some}
use Prim.Native.Nat.{ℕ, suc, ◌+◌, ◌%◌, ◌^◌, ◌<◌}
use native.Mathlib.Nat.{mod-eq_of_lt, not-suc-le-zero}
use native.Mathlib.Omega.{arith}
use lib.ListN.{length}
use lib.Dec.{ltb}
use borrow.Author.Tests.{ltb-true}
use Rattle.laws.specs.Bits.{bits_of}
use Rattle.laws.specs.Pick.{pick}
use Rattle.laws.specs.Text.{ascii, starts}
use Rattle.laws.proofs.Cases.{by_test}
use Rattle.bits.proofs.ReadLaws.{take_bits_lem}
use Rattle.ax25_token.specs.Clean.{call_text}
use Rattle.ax25_token.proofs.TokenBack.{token_back}
use Rattle.ax25_address.specs.Parse.{Parsed, aliases, alias_calls, same_all, alias_from, alias_of}
use Rattle.ax25_address.proofs.ParseLaws.{split_off_lem, all_eq}
use Rattle.ax25.specs.Encode.{type_width, tokens_bits, digi_bits, head_bits}
use Rattle.ax25.specs.Decode.{name_at, known, Head, is_empty, read_tokens, read_alias, read_aliased, read_digis, read_head, addresses}
use Rattle.ax25.specs.Plain.{Address, AllClean, address_field}
use Rattle.ax25.proofs.PlainLaws.{address_marked, texts, heards, length_texts, length_heards, empty_texts}

-- ---- aliases

-- a number k + i for the calls of the name i
record Aliased (k : ℕ) (names digis : List (List ℕ)) : Type 0 where
  i : ℕ
  name : List ℕ
  number : alias_from k names digis ≡ k + i
  small : i < length names
  is_named : name_at (suc i) names ≡ Some name
  calls : alias_calls name 1 (length digis) ≡ digis

module _ (k : ℕ) (a : List ℕ) (names digis : List (List ℕ)) where
  here : same_all digis (alias_calls a 1 (length digis)) ≡ true → Aliased k (a ∷ names) digis
  unfolding alias_from name_at pick
  here e =
      record {
        i = 0;
        name = a;
        number = rw e (omega arith);
        small = omega arith;
        is_named = refl;
        calls = sym (all_eq digis (alias_calls a 1 (length digis)) e);
      }

  further : same_all digis (alias_calls a 1 (length digis)) ≡ false → Aliased (suc k) names digis → Aliased k (a ∷ names) digis
  unfolding alias_from name_at pick
  further e r =
      record {
        i = suc r.i;
        name = r.name;
        number = rw (e, r.number) (omega arith);
        small = omega (arith, r.small);
        is_named = r.is_named;
        calls = r.calls;
      }

aliased : (k : ℕ) (names digis : List (List ℕ)) → 0 < alias_from k names digis → Aliased k names digis
unfolding alias_from pick
aliased k [] digis h = absurd (not-suc-le-zero h)
aliased k (a ∷ names) digis h =
    by_test (same_all digis (alias_calls a 1 (length digis))) (here k a names digis) (λ e. further k a names digis e (aliased (suc k) names digis (rw e at h)))

-- ---- tokens and digipeaters

-- some bits for these calls, read back by `read` whatever follows
record Written (written : Option (List Bool)) (read : List Bool → Option (List (List ℕ) × List Bool)) (calls : List (List ℕ)) : Type 0 where
  out : List Bool
  is : written ≡ Some out
  back : (rest : List Bool) → read (out ++ rest) ≡ Some (calls, rest)

tokens_back : (mended : Bool) (v : List Address) → AllClean mended v → Written (tokens_bits 6 (texts v)) (read_tokens mended 6 (length v)) (texts v)
unfolding tokens_bits read_tokens texts
tokens_back mended [] ok = record { out = []; is = refl; back = λ rest. refl }
tokens_back mended (a ∷ v) ok =
    let t = token_back mended a.letters a.ssid ok.0 6 (omega arith) in
    let r = tokens_back mended v ok.1 in
    record {
      out = t.bits ++ r.out;
      is = rw (t.coded, r.is);
      back = λ rest. rw (append_assoc t.bits r.out rest, t.read (r.out ++ rest), r.back rest);
    }

alias_back : (mended : Bool) (c : List ℕ) (cs : List (List ℕ)) → 0 < alias_of (c ∷ cs)
    → Written (Some (true ∷ bits_of 3 (alias_of (c ∷ cs)))) (read_aliased mended 6 (length (c ∷ cs))) (c ∷ cs)
unfolding alias_of read_aliased read_alias aliases pick
alias_back mended c cs h =
    let r = aliased 1 aliases (c ∷ cs) h in
    let k = alias_from 1 aliases (c ∷ cs) in
    let i : k % 2 ^ 3 ≡ suc r.i = omega (arith, r.number, r.small) in
    record {
      out = true ∷ bits_of 3 k;
      is = refl;
      back = λ rest. rw (take_bits_lem 3 k rest, i, r.is_named, r.calls);
    }

digis_back : (mended ap : Bool) (v : List Address) → AllClean mended v → Written (digi_bits 6 ap (texts v)) (read_digis mended 6 ap (length v)) (texts v)
unfolding digi_bits read_digis texts pick
digis_back mended ap [] ok = record { out = []; is = refl; back = λ rest. refl }
digis_back mended ap (a ∷ v) ok = cases ap (ltb 0 (alias_of (texts (a ∷ v)))) refl
  where
    r : Written (tokens_bits 6 (texts (a ∷ v))) (read_tokens mended 6 (length (a ∷ v))) (texts (a ∷ v))
    r = tokens_back mended (a ∷ v) ok

    cases : (x y : Bool) → ltb 0 (alias_of (texts (a ∷ v))) ≡ y → Written (digi_bits 6 x (texts (a ∷ v))) (read_digis mended 6 x (length (a ∷ v))) (texts (a ∷ v))
    cases true true e =
        let q = alias_back mended (call_text a.letters a.ssid) (texts v) (ltb-true 0 (alias_of (texts (a ∷ v))) e) in
        record {
          out = q.out;
          is = rw e q.is;
          back = λ rest. rw length_texts at (q.back rest);
        }
    cases true false e =
        record {
          out = false ∷ r.out;
          is = rw (e, r.is);
          back = λ rest. unfold read_aliased in r.back rest;
        }
    cases false y e = record { out = r.out; is = rw r.is; back = r.back }

-- ---- the head

-- its type, where the width has room for it
abbrev pub Fits : Bool → ℕ → Type 0
Fits ap typ = (typ < 2 ^ type_width ap) × (known typ ≡ true)

module _ (mended : Bool) (dest src : Address) (digis : List Address) (typ : ℕ) where
  abbrev to : List ℕ
  to = call_text dest.letters dest.ssid

  abbrev from : List ℕ
  from = call_text src.letters src.ssid

  abbrev pub head_of : Head
  head_of = record { dest = to; src = from; digis = texts digis; heard = heards digis; typ = typ }

  -- the bits of a head, read back whatever follows
  pub record HeadBack (r : Parsed) : Type 0 where
    pub out : List Bool
    pub is : head_bits 6 r typ ≡ Some out
    pub back : (rest : List Bool) → read_head mended 6 (length digis) (out ++ rest) ≡ Some (head_of, rest)

  pub head_back : (r : Parsed) → AllClean mended (dest ∷ src ∷ digis) → Fits (starts (ascii "AP") to) typ
      → r.dest ≡ to → r.src ≡ from → r.digis ≡ texts digis → r.heard ≡ heards digis → HeadBack r
  unfolding head_bits read_head pick
  head_back r ok fit ed es ev eh =
      let ap = starts (ascii "AP") to in
      let d = token_back mended dest.letters dest.ssid ok.0 6 (omega arith) in
      let s = token_back mended src.letters src.ssid ok.1.0 6 (omega arith) in
      let v = digis_back mended ap digis ok.1.1 in
      let t = bits_of (type_width ap) typ in
      record {
        out = heards digis ++ (d.bits ++ (s.bits ++ (v.out ++ t)));
        is = rw (ed, es, ev, eh, d.coded, s.coded, v.is);
        back = λ rest.
            rw (append_assoc (heards digis) (d.bits ++ (s.bits ++ (v.out ++ t))) rest, append_assoc d.bits (s.bits ++ (v.out ++ t)) rest, append_assoc s.bits (v.out ++ t) rest, append_assoc v.out t rest, split_off_lem (length digis) (heards digis) (d.bits ++ (s.bits ++ (v.out ++ (t ++ rest)))) (length_heards digis), d.read (s.bits ++ (v.out ++ (t ++ rest))), s.read (v.out ++ (t ++ rest)), v.back (t ++ rest), take_bits_lem (type_width ap) typ rest, mod-eq_of_lt fit.0, fit.1);
      }

-- ---- the address fields

pub addresses_back : (mended : Bool) (v : List Address) → AllClean mended v → addresses 6 (texts v) (heards v) ≡ address_field v
unfolding addresses address_field texts heards
addresses_back mended [] ok = refl
addresses_back mended (a ∷ v) ok = rw (empty_texts v, address_marked mended a ok.0 (is_empty v), addresses_back mended v ok.1)
