-- The coder of a frame as a whole: the header byte, the head, the body, and zeros up to a whole byte.
-- Assumes nothing.
use Rattle.std.proofs.Common.{Option, Result, Ok, Err}
use Rattle.refusals.specs.declared.Refusal.{Refusal}
use mathlib.Core.Path.{◌≡◌, refl, sym, ap, subst, ◌∙◌}
use mathlib.Core.Bool.{Bool, true, false, ◌&&◌}
use mathlib.Core.List.{List, [], ◌∷◌, ◌++◌}
use Rattle.std.proofs.Common.{None, Some}
use Rattle.std.proofs.lemmas.Option.{same_Some}
use Prim.Native.Nat.{ℕ, ◌+◌, ◌-◌, ◌*◌, ◌/◌, ◌%◌, ◌≤◌, ◌<◌}
use native.Mathlib.Nat.{mul-le-mul_right, zero-add}
use native.Mathlib.Omega.{arith}
use lib.ListN.{length}
use lib.Dec.{eqb}
use Rattle.laws.specs.Bits.{Bytes, odd, bits_of, pack, unpack}
use Rattle.laws.specs.Pick.{pick}
use Rattle.laws.specs.Wrote.{Wrote}
use Rattle.laws.proofs.Cases.{from_some}
use Rattle.laws.proofs.WroteLaws.{wrote_then}
use Rattle.bits_write.specs.Text7.{last_or}
use Rattle.bits_write.proofs.Text7Laws.{last_append}
use Rattle.refusals.specs.Outcome.{Outcome, refused, answer, number, outcome_of}
use Rattle.ax25_token.specs.Put.{Puts}
use Rattle.ax25_token.specs.Token.{token_bits}
use Rattle.ax25_token.proofs.PutLaws.{Gave, gave, bad}
use Rattle.ax25_address.specs.Parse.{Parsed, parse_of, is_ap, type_of}
use Rattle.ax25_address.specs.Record.{Seen}
use Rattle.ax25_address.specs.Types.{Text, call_len}
use Rattle.ax25_address.proofs.RecordLaws.{Known}
use Rattle.ax25_address.proofs.SizeLaws.{parse_size}
use Rattle.ax25_aprs.specs.Put.{Does}
use Rattle.ax25_aprs.proofs.PartLaws.{Done, done, was_refused}
use Rattle.ax25.specs.Codes.{Codes}
use Rattle.ax25.specs.Encode.{digi_code, type_width, header_of, digi_bits, head_bits, info_bits, frame_bits, Coded, or_three, or_four, packed, code_parsed, encode_of}
use Rattle.ax25.proofs.PackLaws.{behind_byte, byte_leaves, pack_wrote, pad_wrote}
use Rattle.ax25.proofs.SizeLaws.{head_size, info_size}

-- ---- the last bit of the head of a text

last_type : (ap d : Bool) (typ : ℕ) → typ ≡ Text → last_or d (bits_of (type_width ap) typ) ≡ false
unfolding pick bits_of odd last_or
last_type true d typ e = rw e
last_type false d typ e = rw e

head_last : (l : ℕ) (r : Parsed) (typ : ℕ) (head : List Bool) → typ ≡ Text → head_bits l r typ ≡ Some head → last_or false head ≡ false
unfolding head_bits
head_last l r typ head text e =
    from_some (token_bits l r.dest) _ head e
    (λ x ex f. from_some (token_bits l r.src) _ head f
    (λ y ey g. from_some (digi_bits l (is_ap r) r.digis) _ head g
    (λ z ez h.
    let t = bits_of (type_width (is_ap r)) typ in
    rw (← same_Some (r.heard ++ (x ++ (y ++ (z ++ t)))) head h)
    (last_append false r.heard (x ++ (y ++ (z ++ t)))
    ∙ last_append _ x (y ++ (z ++ t))
    ∙ last_append _ y (z ++ t)
    ∙ last_append _ z t
    ∙ last_type (is_ap r) _ typ text))))

-- ---- the definition by case

module _ (command l : ℕ) (d : List ℕ) (s : Seen) (letters : l ≡ call_len command) (k : Known command l d s) where
  abbrev p : Parsed
  p = k.parts

  abbrev typ : ℕ
  typ = type_of command p

  by_letters : (o : Outcome Coded) → or_four (head_bits l p typ) (λ head. packed (header_of command p) typ (frame_bits l p typ head)) ≡ o
      → parse_of l d ≡ Some p → encode_of command d ≡ o
  unfolding encode_of code_parsed
  by_letters o e f =
      subst (λ (m : ℕ). or_three (parse_of m d) (λ r. or_four (head_bits m r (type_of command r)) (λ head. packed (header_of command r) (type_of command r) (frame_bits m r (type_of command r) head))) ≡ o)
      letters (rw f e)

  code_bad : head_bits l p typ ≡ None → encode_of command d ≡ refused 4
  code_bad e = by_letters (refused 4) (rw e) k.parsed

  module _ (head : List Bool) (e : head_bits l p typ ≡ Some head) where
    code_refused : (n : ℕ) → info_bits l p typ head ≡ refused n → encode_of command d ≡ refused n
    code_refused n f = by_letters (refused n) (rw e (unfold frame_bits in rw f)) k.parsed

    code_answer : (x : List Bool) → info_bits l p typ head ≡ answer x
        → encode_of command d ≡ answer (record { bytes = header_of command p ∷ pack (head ++ x); typ = typ })
    code_answer x f = by_letters _ (rw e (unfold frame_bits in rw f)) k.parsed

  -- ---- the header byte

  header_is : (h : ℕ) → h ≡ pick (eqb command 1) 0x10 0 + (pick (eqb s.ctrl 0x03 && eqb s.pid 0xF0) 0x40 0 + digi_code s.digis) → h ≡ header_of command p
  unfolding header_of
  header_is h e =
      e ∙ ap (λ (x : Seen). pick (eqb command 1) 0x10 0 + (pick (eqb x.ctrl 0x03 && eqb x.pid 0xF0) 0x40 0 + digi_code x.digis)) k.is

  -- ---- the answers

  module _ (t u : List ℕ) (r : Option ℕ) (f : (q : Parsed) → parse_of l d ≡ Some q → Puts (unpack t) 8 (head_bits l q (type_of command q)) (unpack u) r) where
    pub bad_codes : r ≡ None → (v w : List ℕ) (a : Result ℕ Refusal) → outcome_of a ≡ refused 4 → Codes (encode_of command d) v w a
    bad_codes e v w a h = rw (code_bad (bad (unpack t) 8 (unpack u) (head_bits l p typ) r e (f p k.parsed))) h

    module _ (at : ℕ) (e : r ≡ Some at) where
      -- the head
      abbrev first : Gave (head_bits l p typ) (unpack t) 8 (unpack u) at
      first = gave (unpack t) 8 (unpack u) (head_bits l p typ) r at e (f p k.parsed)

      -- it takes few bits
      pub head_room : 2 ≤ l → l ≤ 7 → at ≤ 500
      head_room two high =
          let size = parse_size l d p k.parsed in
          let m = head_size l two (omega arith) p (length d) size typ first.bits first.is in
          let few : length p.digis * (6 * l + 4) ≤ 8 * (6 * l + 4) = mul-le-mul_right (6 * l + 4) size.few in
          omega (arith, first.wrote.next_is, m, few, size.few)

      module _ (w : List ℕ) (a : Result ℕ Refusal)
          (g : (q : Parsed) (head : List Bool) → parse_of l d ≡ Some q → at ≡ 8 + length head → (type_of command q ≡ Text → last_or false head ≡ false)
          → Does (info_bits l q (type_of command q) head) (unpack u) at (unpack w) a) where
        body : Does (info_bits l p typ first.bits) (unpack u) at (unpack w) a
        body = g p first.bits k.parsed first.wrote.next_is (λ z. head_last l p typ first.bits z first.is)

        pub refused_codes : (e : Refusal) → a ≡ Err e → (v x : List ℕ) (r : Result ℕ Refusal) → outcome_of r ≡ refused (number e) → Codes (encode_of command d) v x r
        refused_codes e z v x r h =
            rw (code_refused first.bits first.is (number e) (was_refused (info_bits l p typ first.bits) (unpack u) at (unpack w) e (rw z at body))) h

        module _ (next : ℕ) (z : a ≡ Ok next) where
          abbrev second : Done (info_bits l p typ first.bits) (unpack u) at (unpack w) next
          second = done (info_bits l p typ first.bits) (unpack u) at (unpack w) next (rw z at body)

          pub body_room : 2 ≤ l → l ≤ 7 → length d ≤ 4999 → next ≤ at + 41000
          body_room two high small =
              let m = info_size l two (omega arith) p typ first.bits 41000 (omega (arith, k.total)) (omega (arith, k.total)) second.bits second.is_coded in
              omega (arith, second.wrote.next_is, m)

          pub message_codes : (h : ℕ) → h ≡ pick (eqb command 1) 0x10 0 + (pick (eqb s.ctrl 0x03 && eqb s.pid 0xF0) 0x40 0 + digi_code s.digis) → h < 0x80
              → (v : List ℕ) (m : ℕ) → Wrote v 0 (h ∷ []) t m → Bytes v → (x : List ℕ) (n : ℕ) → Wrote (unpack w) next (bits_of ((8 - next % 8) % 8) 0) (unpack x) n → Bytes x
              → Codes (encode_of command d) v x (Ok (n / 8))
          message_codes h eh low v m byte hv x n pad hx =
              let b = first.bits ++ second.bits in
              let bits = wrote_then first.wrote second.wrote in
              let packed = pack_wrote b (byte_leaves (omega (arith, low)) hv byte) hx (pad_wrote b bits pad) in
              let whole = behind_byte byte packed in
              rw (code_answer first.bits first.is second.bits second.is_coded, ← header_is h eh)
              (ap Ok (whole.next_is ∙ zero-add (length (h ∷ pack b))), record { stored = whole.stored; next_is = sym (zero-add (length (h ∷ pack b))) })
