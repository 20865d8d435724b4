-- The coder of a frame's body, over the places of its parts.
-- Assumes nothing.
use Rattle.std.proofs.Common.{Result, Ok}
use Rattle.refusals.specs.declared.Refusal.{Refusal}
use mathlib.Core.Path.{◌≡◌, refl, sym, ap, ap₂, ◌∙◌}
use mathlib.Core.Logic.{inl, inr}
use mathlib.Core.Bool.{Bool, true, false, ◌&&◌}
use mathlib.Core.List.{List, [], ◌∷◌}
use Rattle.std.proofs.Common.{Some}
use Rattle.std.proofs.lemmas.Option.{same_Some}
use Prim.Native.Nat.{ℕ, suc, ◌+◌, ◌*◌, ◌≤◌}
use native.Mathlib.Omega.{arith}
use types.Run.{OneOf}
use lib.ListN.{length, drop}
use lib.Seq.{drop-drop, drop-cons}
use lib.Dec.{eqb}
use Rattle.laws.specs.Bits.{unpack}
use Rattle.laws.specs.Pick.{pick}
use Rattle.laws.specs.Wrote.{Wrote}
use Rattle.laws.proofs.Cases.{by_test}
use Rattle.laws.proofs.ListLaws.{from_place}
use Rattle.laws.proofs.WroteLaws.{wrote_as}
use Rattle.bits_write.specs.Text7.{last_or, text7_bits}
use Rattle.bits_write.proofs.Text7Laws.{text7_whole}
use Rattle.ax25_address.specs.Classify.{any_high, is_position, is_timestamped, is_message, is_third, classify_of}
use Rattle.ax25_address.specs.Kind.{type_number}
use Rattle.ax25_address.specs.Parse.{Parsed, parse_of, type_of, is_ui}
use Rattle.ax25_address.specs.Record.{Seen, seen}
use Rattle.ax25_address.specs.Types.{Text, Binary, ThirdParty}
use Rattle.ax25_address.specs.declared.classify.AprsType.{AprsType}
use Rattle.ax25_address.specs.declared.classify.AprsType.TheVariants as kind
use Rattle.ax25_address.specs.contracts.classify.AprsType.{the_type}
use Rattle.ax25_address.proofs.RecordLaws.{Known}
use Rattle.ax25_aprs.specs.Body.{body_bits}
use Rattle.ax25_aprs.specs.Put.{Does}
use Rattle.ax25_aprs.specs.Third.{third_bits}
use Rattle.ax25_aprs.proofs.PartLaws.{does}
use Rattle.ax25_body.specs.Read.{after_type}
use Rattle.ax25.specs.Encode.{body_bytes, info_bits}
use Rattle.ax25.proofs.HeadCode.{from}

-- ---- a type with a body of its own

-- without information there is none
no_info : (ap : Bool) → classify_of ap [] ≡ Text
unfolding classify_of any_high is_position is_timestamped is_message is_third pick
no_info true = refl
no_info false = refl

some_info : (ap : Bool) (d : List ℕ) → 2 ≤ classify_of ap d → 1 ≤ length d
some_info ap [] h = absurd (omega (arith, h, no_info ap))
some_info ap (x ∷ d) h = omega arith

-- Position, TimestampedPosition and Message are neither Text nor Binary nor ThirdParty
pub record Own (typ : ℕ) : Type 0 where
  pub not_text : eqb typ Text ≡ false
  pub not_binary : eqb typ Binary ≡ false
  pub not_third : eqb typ ThirdParty ≡ false
  pub more : 2 ≤ typ

-- the places of these three among the types
pub own_place : (n : ℕ) → OneOf (2 ∷ 3 ∷ 4 ∷ []) n → (2 ≤ n) × (n ≤ 4)
own_place n (inl e) = (omega (arith, e), omega (arith, e))
own_place n (inr (inl e)) = (omega (arith, e), omega (arith, e))
own_place n (inr (inr e)) = (omega (arith, e), omega (arith, e))

-- a type that is none of the other three is one of these
pub own_type : (t : AprsType) → (t ≡ kind.Text → ⊥) × (t ≡ kind.Binary → ⊥) × (t ≡ kind.ThirdParty → ⊥) → Own (type_number t)
own_type kind.Text h = absurd (h.0 refl)
own_type kind.Binary h = absurd (h.1 refl)
own_type kind.Position h = record { not_text = refl; not_binary = refl; not_third = refl; more = omega arith }
own_type kind.TimestampedPosition h = record { not_text = refl; not_binary = refl; not_third = refl; more = omega arith }
own_type kind.Message h = record { not_text = refl; not_binary = refl; not_third = refl; more = omega arith }
own_type kind.ThirdParty h = absurd (h.2 refl)

-- they have a type byte
after_own : (typ : ℕ) (d : List ℕ) → eqb typ Text ≡ false → after_type typ d ≡ drop 1 d
unfolding after_type pick
after_own typ d e = rw e

-- ---- where the body starts

module _ (command l : ℕ) (d : List ℕ) (s : Seen) (k : Known command l d s) where
  abbrev end : ℕ
  end = (s.digis + 2) * (l + 1)

  -- a type of its own has a byte of information
  pub typed_room : 2 ≤ s.typ → end + 3 ≤ length d
  unfolding type_of
  typed_room h =
      let t : s.typ ≡ type_of command k.parts = ap (λ (x : Seen). x.typ) k.is in
      omega (arith, k.total, some_info _ k.parts.info (rw t at h))

  pub start_room : (start : ℕ) → start ≡ pick (eqb s.ctrl 0x03 && eqb s.pid 0xF0) (end + 2) end → start ≤ length d
  unfolding pick
  start_room start e =
      by_test (eqb s.ctrl 0x03 && eqb s.pid 0xF0)
      (λ t. let f : start ≡ end + 2 = e ∙ rw t in omega (arith, f, k.total))
      (λ t. let f : start ≡ end = e ∙ rw t in omega (arith, f, k.total))

  module _ (p : Parsed) (e : parse_of l d ≡ Some p) where
    same_parts : k.parts ≡ p
    same_parts = same_Some k.parts p (sym k.parsed ∙ e)

    info_is : p.info ≡ drop (end + 2) d
    info_is = sym (ap (λ (r : Parsed). r.info) same_parts) ∙ k.places.info_is

    pub type_of_lem : s.typ ≡ type_of command p
    type_of_lem = ap (λ (x : Seen). x.typ) k.is ∙ ap (type_of command) same_parts

    info_from : (start : ℕ) → start ≡ end + 2 → from start d ≡ p.info
    info_from start f = from_place d start ∙ ap (λ (n : ℕ). drop n d) f ∙ sym info_is

    from_control : drop end d ≡ p.control ∷ p.pid ∷ p.info
    from_control =
        let z = k.places in
        let c : k.parts.control ≡ p.control = ap (λ (r : Parsed). r.control) same_parts in
        let g : k.parts.pid ≡ p.pid = ap (λ (r : Parsed). r.pid) same_parts in
        let n : suc end ≡ end + 1 = omega arith in
        let m : suc (end + 1) ≡ end + 2 = omega arith in
        drop-cons d end 0 (omega (arith, k.total))
        ∙ ap₂ (λ (x : ℕ) (xs : List ℕ). x ∷ xs) (sym z.control_is ∙ c)
        (ap (λ (j : ℕ). drop j d) n
        ∙ drop-cons d (end + 1) 0 (omega (arith, k.total))
        ∙ ap₂ (λ (x : ℕ) (xs : List ℕ). x ∷ xs) (sym z.pid_is ∙ g) (ap (λ (j : ℕ). drop j d) m ∙ sym info_is))

    ui_is : (eqb s.ctrl 0x03 && eqb s.pid 0xF0) ≡ is_ui p
    ui_is =
        let q : s ≡ seen command p = k.is ∙ ap (seen command) same_parts in
        ap (λ (x : Seen). eqb x.ctrl 0x03 && eqb x.pid 0xF0) q

    pub body_from : (start : ℕ) → start ≡ pick (eqb s.ctrl 0x03 && eqb s.pid 0xF0) (end + 2) end → from start d ≡ body_bytes p
    unfolding body_bytes pick
    body_from start f =
        from_place d start
        ∙ by_test (is_ui p)
        (λ t. let g : start ≡ end + 2 = f ∙ rw (ui_is ∙ t) in ap (λ (n : ℕ). drop n d) g ∙ sym info_is ∙ rw t)
        (λ t. let g : start ≡ end = f ∙ rw (ui_is ∙ t) in ap (λ (n : ℕ). drop n d) g ∙ from_control ∙ rw t)

    -- ---- the body, by its type

    module _ (head : List Bool) (b : List Bool) (at : ℕ) (c : List Bool) where
      pub text_does : s.typ ≡ Text → at ≡ 8 + length head → (type_of command p ≡ Text → last_or false head ≡ false) → (start : ℕ)
          → start ≡ pick (eqb s.ctrl 0x03 && eqb s.pid 0xF0) (end + 2) end → (q : ℕ)
          → Wrote b at (text7_bits at false (from start d)) c q → Does (info_bits l p (type_of command p) head) b at c (Ok q)
      unfolding info_bits pick
      text_does t a last start f q w =
          let typ : type_of command p ≡ Text = sym type_of_lem ∙ t in
          let x = ap₂ (λ (n : ℕ) (y : List ℕ). text7_bits n false y) a (body_from start f) ∙ text7_whole (length head) false (body_bytes p) in
          rw (typ, last typ) (does (wrote_as x w))

      pub binary_does : s.typ ≡ Binary → (start : ℕ) → start ≡ pick (eqb s.ctrl 0x03 && eqb s.pid 0xF0) (end + 2) end → (q : ℕ)
          → Wrote b at (unpack (from start d)) c q → Does (info_bits l p (type_of command p) head) b at c (Ok q)
      unfolding info_bits pick
      binary_does t start f q w =
          let typ : type_of command p ≡ Binary = sym type_of_lem ∙ t in
          rw typ (does (wrote_as (ap unpack (body_from start f)) w))

      pub third_does : s.typ ≡ ThirdParty → (start : ℕ) → start ≡ end + 2 → (r : Result ℕ Refusal) → Does (third_bits l (drop 1 (from start d))) b at c r
          → Does (info_bits l p (type_of command p) head) b at c r
      unfolding info_bits pick
      third_does t start f r w =
          let typ : type_of command p ≡ ThirdParty = sym type_of_lem ∙ t in
          rw typ (rw (info_from start f) at w)

      pub own_does : Own s.typ → (start : ℕ) → start ≡ end + 2 → (r : Result ℕ Refusal) → Does (body_bits s.typ l (after_type s.typ (from start d))) b at c r
          → Does (info_bits l p (type_of command p) head) b at c r
      unfolding info_bits pick
      own_does o start f r w = rw (← type_of_lem, o.not_text, o.not_binary, o.not_third) (rw (after_own s.typ (from start d) o.not_text, info_from start f) at w)
