-- The ways through the readers of a frame's body, and of the whole frame.
-- Assumes nothing.
use mathlib.Core.Path.{◌≡◌, refl, sym, ap, subst}
use mathlib.Core.Bool.{Bool, false}
use mathlib.Core.List.{List, [], ◌∷◌, ◌++◌, append_assoc}
use Rattle.std.proofs.Common.{Option, None, Some}
use Prim.Native.Nat.{ℕ, ◌+◌, ◌-◌, ◌/◌, ◌≤◌}
use native.Mathlib.Omega.{arith}
use lib.ListN.{length, drop, length-drop}
use Rattle.laws.specs.Bits.{odd, pack_n}
use Rattle.laws.specs.Pick.{pick, ◌>>=◌}
use Rattle.laws.specs.Wrote.{Wrote}
use Rattle.laws.proofs.WroteLaws.{wrote_then}
use Rattle.bits.specs.Text7.{text7_of, text7_next, text7_left}
use Rattle.ax25_address.specs.Kind.{type_number}
use Rattle.ax25_address.specs.declared.classify.AprsType.{AprsType}
use Rattle.ax25_address.specs.declared.classify.AprsType.TheVariants as kind
use Rattle.ax25_aprs.specs.Body.{read_body}
use Rattle.ax25_aprs.specs.Put.{Reads}
use Rattle.ax25_aprs.specs.Third.{read_third}
use Rattle.ax25_aprs.proofs.PartLaws.{reads_then}
use Rattle.ax25.specs.Decode as decode
use Rattle.ax25.specs.Decode.{digi_count, bytes_in, addresses, read_head, read_info, read_frame}
use Rattle.ax25_decode.specs.Put.{HeadRead, Heads}
use Rattle.ax25_decode.proofs.HeadLaws.{addresses_size}

-- ---- whole bytes

pub bytes_in_lem : (i : ℕ) (b : List Bool) → i ≡ length b / 8 → pack_n i b ≡ bytes_in b
unfolding bytes_in
bytes_in_lem i b e = ap (λ (n : ℕ). pack_n n b) e

-- ---- the body by its type

module _ (mended : Bool) (l : ℕ) (b : List Bool) (p : ℕ) where
  pub info_text : (t : AprsType) → t ≡ kind.Text → p ≤ length b → read_info mended l (type_number t) b (drop p b) ≡ text7_of b p
  unfolding read_info pick
  info_text t e h =
      let z : length b - length (drop p b) ≡ p = omega (arith, h, length-drop p b) in
      rw e (ap (text7_of b) z)

  pub info_binary : (t : AprsType) → t ≡ kind.Binary → read_info mended l (type_number t) b (drop p b) ≡ Some (bytes_in (drop p b))
  unfolding read_info pick
  info_binary t e = rw e

  pub info_third : (t : AprsType) → t ≡ kind.ThirdParty → read_info mended l (type_number t) b (drop p b) ≡ read_third mended l (drop p b)
  unfolding read_info pick
  info_third t e = rw e

  pub info_body : (t : AprsType) → (t ≡ kind.Text → ⊥) × (t ≡ kind.Binary → ⊥) × (t ≡ kind.ThirdParty → ⊥) → read_info mended l (type_number t) b (drop p b) ≡ read_body mended (type_number t) l (drop p b)
  unfolding read_info pick
  info_body kind.Text h = absurd (h.0 refl)
  info_body kind.Binary h = absurd (h.1 refl)
  info_body kind.Position h = refl
  info_body kind.TimestampedPosition h = refl
  info_body kind.Message h = refl
  info_body kind.ThirdParty h = absurd (h.2 refl)

pub text7_reads : (o : Option (List ℕ)) (out : List ℕ) (to : ℕ) (e : List ℕ) (r : Option ℕ) → r ≡ text7_next to o → e ≡ text7_left out to o → Reads o out to e r
unfolding text7_next text7_left
text7_reads None out to e r u v = u
text7_reads (Some t) out to e r u v = (u, record { stored = v; next_is = refl })

-- ---- the frame

module _ (l : ℕ) (b : List Bool) (o : Option (decode.Head × List Bool)) (out e : List ℕ) (r : Option (ℕ × ℕ × AprsType)) (h : Heads l b o out e r) where
  pub headed : (p q : ℕ) (t : AprsType) → r ≡ Some (p, q, t) → HeadRead l b o out e p q t
  headed p q t u = subst (λ (x : Option (ℕ × ℕ × AprsType)). Heads l b o out e x) u h

  pub unheaded : r ≡ None → o ≡ None
  unheaded u = subst (λ (x : Option (ℕ × ℕ × AprsType)). Heads l b o out e x) u h

module _ (mended : Bool) (l header n : ℕ) (b : List Bool) (c : n ≡ digi_count header) where
  pub frame_none : read_head mended l n b ≡ None → read_frame mended l header b ≡ None
  unfolding read_frame
  frame_none u = rw (← c, u)

  module _ (out mid : List ℕ) (p q : ℕ) (t : AprsType) (h : HeadRead l b (read_head mended l n b) out mid p q t) where
    -- at most ten addresses
    pub head_place : l ≤ 7 → q ≤ 80
    head_place k =
        let g = h.head in
        omega (arith, h.wrote.next_is, h.few, addresses_size l k (g.dest ∷ g.src ∷ g.digis) (false ∷ false ∷ g.heard))

    fields : List ℕ
    fields = addresses l (h.head.dest ∷ h.head.src ∷ h.head.digis) (false ∷ false ∷ h.head.heard)

    frame_is : (u : List ℕ) → u ≡ pick (odd (header / 64)) (0x03 ∷ 0xF0 ∷ []) [] → read_frame mended l header b ≡ (read_info mended l (type_number t) b (drop p b) >>= (λ i. Some ((fields ++ u) ++ i)))
    unfolding read_frame fields
    frame_is u eu = rw (← c, h.is, h.kind, ← eu) (together u (read_info mended l (type_number t) b (drop p b)))
      where
        together : (u : List ℕ) (o : Option (List ℕ)) → (o >>= (λ i. Some (fields ++ (u ++ i)))) ≡ (o >>= (λ i. Some ((fields ++ u) ++ i)))
        together u None = refl
        together u (Some i) = ap Some (sym (append_assoc fields u i))

    pub frame_some : (e : List ℕ) (v : ℕ) → Wrote mid q (pick (odd (header / 64)) (0x03 ∷ 0xF0 ∷ []) []) e v → (d : List ℕ) (r : Option ℕ)
        → Reads (read_info mended l (type_number t) b (drop p b)) e v d r → Reads (read_frame mended l header b) out 0 d r
    unfolding fields
    frame_some e v w d r k =
        let u : List ℕ = pick (odd (header / 64)) (0x03 ∷ 0xF0 ∷ []) [] in
        subst (λ (x : Option (List ℕ)). Reads x out 0 d r) (sym (frame_is u refl))
        (reads_then (wrote_then h.wrote w) (read_info mended l (type_number t) b (drop p b)) d r k)
