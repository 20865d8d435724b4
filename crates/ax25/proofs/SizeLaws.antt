-- Every coded message has at most 5,000 bytes, and its first byte is below 80.
-- Assumes nothing.
use mathlib.Core.Path.{◌≡◌, refl, sym}
use mathlib.Core.Bool.{Bool, true, false, ◌&&◌}
use mathlib.Core.List.{List, [], ◌∷◌, ◌++◌}
use Rattle.std.proofs.Common.{Option, None, Some}
use Rattle.std.proofs.lemmas.Option.{same_Some}
use Prim.Native.Nat.{ℕ, zero, suc, ◌+◌, ◌-◌, ◌*◌, ◌≤◌, ◌<◌}
use native.Mathlib.Nat.{suc-mul}
use native.Mathlib.Omega.{arith}
use lib.ListN.{length, drop, get_or, length-append, length-drop}
use lib.Dec.{eqb, ltb}
use Rattle.laws.specs.Bits.{bits_of, pack, unpack}
use Rattle.laws.specs.Pick.{pick}
use Rattle.laws.proofs.BitLaws.{length_bits}
use Rattle.laws.proofs.ByteLaws.{length_pack, length_unpack}
use Rattle.laws.proofs.Cases.{by_test, from_some}
use Rattle.bits_write.specs.Text7.{last_or, text7_bits}
use Rattle.bits_write.proofs.Text7Laws.{length_text7}
use Rattle.refusals.specs.Outcome.{Outcome, refused, answer}
use Rattle.refusals.proofs.OutcomeLaws.{answer_not}
use Rattle.ax25_token.specs.Token.{token_bits}
use Rattle.ax25_token.proofs.Sizes.{token_size}
use Rattle.ax25_address.specs.Parse.{Parsed, parse_of, is_ui, is_ap, type_of, alias_of}
use Rattle.ax25_address.specs.Types.{Text, Binary, ThirdParty, Ax25Long, call_len}
use Rattle.ax25_address.proofs.SizeLaws.{AllBase, Sized, parse_size}
use Rattle.ax25_aprs.proofs.Sizes.{AtMost, answer_most, le_most, pick_most, then_most, body_size, third_size}
use Rattle.ax25.specs.Encode.{digi_code, type_width, header_of, body_bytes, tokens_bits, digi_bits, head_bits, info_bits, frame_bits, Coded, or_three, or_four, packed, code_parsed, encode_of}

-- ---- the head

module _ (l : ℕ) (two : 2 ≤ l) (high : l ≤ 9) where
  abbrev each : ℕ
  each = 6 * l + 4

  tokens_size : (cs : List (List ℕ)) → AllBase l cs → (b : List Bool) → tokens_bits l cs ≡ Some b → length b ≤ length cs * each
  unfolding tokens_bits
  tokens_size [] h b e = rw (← same_Some [] b e) (omega arith)
  tokens_size (c ∷ cs) h b e =
      from_some (token_bits l c) _ b e
      (λ x ex f. from_some (tokens_bits l cs) _ b f
      (λ y ey g.
      let t = token_size l l two (omega arith) c h.0 x ex in
      let s = tokens_size cs h.1 y ey in
      rw (← same_Some (x ++ y) b g) (omega (arith, length-append x y, suc-mul (length cs) each))))

  marked_size : (ap : Bool) (b x : List Bool) → Some (pick ap (false ∷ x) x) ≡ Some b → length b ≤ length x + 1
  unfolding pick
  marked_size true b x e = rw (← same_Some (false ∷ x) b e) (omega arith)
  marked_size false b x e = rw (← same_Some x b e) (omega arith)

  pub digis_size : (ap : Bool) (cs : List (List ℕ)) → AllBase l cs → (b : List Bool) → digi_bits l ap cs ≡ Some b → length b ≤ length cs * each + 1
  unfolding digi_bits pick
  digis_size ap [] h b e = rw (← same_Some [] b e) (omega arith)
  digis_size ap (c ∷ cs) h b e =
      by_test (ap && ltb 0 (alias_of (c ∷ cs)))
      (λ t.
      let k = bits_of 3 (alias_of (c ∷ cs)) in
      rw (← same_Some (true ∷ k) b (rw t at e)) (omega (arith, length_bits 3 (alias_of (c ∷ cs)), suc-mul (length cs) each)))
      (λ t. from_some (tokens_bits l (c ∷ cs)) _ b (rw t at e) (λ x ex f. omega (arith, tokens_size (c ∷ cs) h x ex, marked_size ap b x f)))

  width_le : (ap : Bool) → type_width ap ≤ 3
  unfolding pick
  width_le true = omega arith
  width_le false = omega arith

  -- one H bit and one token for each digipeater, two more tokens, the alias bit and the type
  pub head_size : (r : Parsed) (size : ℕ) → Sized l r size → (typ : ℕ) (b : List Bool) → head_bits l r typ ≡ Some b
      → length b ≤ length r.digis + length r.digis * each + 2 * each + 4
  unfolding head_bits
  head_size r size s typ b e =
      from_some (token_bits l r.dest) _ b e
      (λ x ex f. from_some (token_bits l r.src) _ b f
      (λ y ey g. from_some (digi_bits l (is_ap r) r.digis) _ b g
      (λ z ez h.
      let t = bits_of (type_width (is_ap r)) typ in
      rw (← same_Some (r.heard ++ (x ++ (y ++ (z ++ t)))) b h)
      (omega (arith, length-append r.heard (x ++ (y ++ (z ++ t))), length-append x (y ++ (z ++ t)), length-append y (z ++ t), length-append z t, s.one_each, token_size l l two (omega arith) r.dest s.dest_base x ex, token_size l l two (omega arith) r.src s.src_base y ey, digis_size (is_ap r) r.digis s.digis_base z ez, length_bits (type_width (is_ap r)) typ, width_le (is_ap r))))))

  -- ---- the body

  body_bytes_lem : (r : Parsed) → length (body_bytes r) ≤ length r.info + 2
  unfolding body_bytes pick
  body_bytes_lem r = by_test (is_ui r) (λ e. rw e (omega arith)) (λ e. rw e (omega arith))

  -- eight bits for each byte at most, or seven and the third party's calls
  pub info_size : (r : Parsed) (typ : ℕ) (head : List Bool) (m : ℕ) → 8 * length r.info + 16 ≤ m → 7 * length r.info + 252 ≤ m → AtMost m (info_bits l r typ head)
  unfolding info_bits
  info_size r typ head m h k =
      let i = drop 1 r.info in
      let t = text7_bits (length head) (last_or false head) (body_bytes r) in
      let u = unpack (body_bytes r) in
      let d : length i ≤ length r.info = omega (arith, length-drop 1 r.info) in
      pick_most m (eqb typ Text) _ _
      (λ _. answer_most m t (omega (arith, length_text7 (length head) (last_or false head) (body_bytes r), body_bytes_lem r)))
      (λ _. pick_most m (eqb typ Binary) _ _
      (λ _. answer_most m u (omega (arith, length_unpack (body_bytes r), body_bytes_lem r)))
      (λ _. pick_most m (eqb typ ThirdParty) _ _
      (λ _. le_most (7 * length i + 252) m _ (omega arith) (third_size l two high i))
      (λ _. le_most (7 * length i + 58) m _ (omega arith) (body_size l two high typ i))))

  frame_size : (r : Parsed) (typ : ℕ) (head : List Bool) (m : ℕ) → 8 * length r.info + 16 ≤ m → 7 * length r.info + 252 ≤ m
      → AtMost (length head + m) (frame_bits l r typ head)
  unfolding frame_bits
  frame_size r typ head m h k =
      then_most (length head) m (answer head) (info_bits l r typ head) (answer_most (length head) head (omega arith)) (info_size r typ head m h k)

-- ---- the message

pub record Bounds (message : List ℕ) : Type 0 where
  pub not_empty : 0 < length message
  pub fits : length message ≤ 5000
  pub first_low : get_or message 0 0 < 0x80

header_low : (command : ℕ) (r : Parsed) → length r.digis ≤ 8 → header_of command r < 0x80
unfolding header_of pick
header_low command r h = by_test (eqb command Ax25Long) (λ e. rw e (ui 0x10 (omega arith))) (λ e. rw e (ui 0 (omega arith)))
  where
    code : (n : ℕ) → n ≤ 8 → digi_code n ≤ 15
    code zero k = omega arith
    code (suc n) k = omega arith

    ui : (a : ℕ) → a ≤ 16 → a + (pick (is_ui r) 0x40 0 + digi_code (length r.digis)) < 0x80
    ui a k =
        by_test (is_ui r) (λ e. rw e (omega (arith, code (length r.digis) h))) (λ e. rw e (omega (arith, code (length r.digis) h)))

-- bits that fit 4,999 bytes, after a header
packed_bounds : (header typ : ℕ) (o : Outcome (List Bool)) (c : Coded) → header < 0x80 → AtMost 39992 o → packed header typ o ≡ answer c → Bounds c.bytes
packed_bounds header typ (refused n) c h m e = absurd (answer_not (sym e))
packed_bounds header typ (answer b) c h m e =
    let q : header ∷ pack b ≡ c.bytes = cc in
    rw (← q) (record { not_empty = omega arith; fits = omega (arith, length_pack b, m b refl); first_low = h })

pub four_from : {P : Type 0} (o : Option (List Bool)) (f : List Bool → Outcome Coded) (c : Coded) → or_four o f ≡ answer c → ((b : List Bool) → o ≡ Some b → f b ≡ answer c → P) → P
four_from None f c e k = absurd (answer_not (sym e))
four_from (Some b) f c e k = k b refl e

pub three_from : {P : Type 0} (o : Option Parsed) (f : Parsed → Outcome Coded) (c : Coded) → or_three o f ≡ answer c → ((r : Parsed) → o ≡ Some r → f r ≡ answer c → P) → P
three_from None f c e k = absurd (answer_not (sym e))
three_from (Some r) f c e k = k r refl e

-- the bits of a frame of n digipeaters and i bytes of information fit 4,999 bytes
abbrev Room : ℕ → Type 0
Room l =
    (n i : ℕ) → n ≤ 8 → (n + 2) * (l + 1) + 2 + i ≤ 4999
    → (n + n * (6 * l + 4) + 2 * (6 * l + 4) + 4 + (8 * i + 16) ≤ 39992) × (n + n * (6 * l + 4) + 2 * (6 * l + 4) + 4 + (7 * i + 252) ≤ 39992)

module _ (command : ℕ) (d : List ℕ) (small : length d ≤ 4999) (c : Coded) where
  bounds_by : (l : ℕ) → call_len command ≡ l → 2 ≤ l → l ≤ 9 → Room l → encode_of command d ≡ answer c → Bounds c.bytes
  unfolding encode_of code_parsed
  bounds_by l el two high room e =
      three_from (parse_of (call_len command) d) (code_parsed command) c e
      (λ r er f.
      let s = parse_size l d r (rw el at er) in
      let typ = type_of command r in
      let q = room (length r.digis) (length r.info) s.few (omega (arith, s.total)) in
      four_from (head_bits (call_len command) r typ) _ c f
      (λ head eh g.
      let m = head_size l two high r (length d) s typ head (rw el at eh) in
      packed_bounds (header_of command r) typ (frame_bits (call_len command) r typ head) c (header_low command r s.few) (rw el (le_most (length head + (39992 - length head)) 39992 _ (omega (arith, q.0)) (frame_size l two high r typ head (39992 - length head) (omega (arith, q.0)) (omega (arith, q.1))))) g))

  pub encode_bounds : encode_of command d ≡ answer c → Bounds c.bytes
  unfolding pick
  encode_bounds =
      by_test (eqb command Ax25Long)
      (λ t. bounds_by 7 (rw t) (omega arith) (omega arith) (λ n i h k. (omega arith, omega arith)))
      (λ t. bounds_by 6 (rw t) (omega arith) (omega arith) (λ n i h k. (omega arith, omega arith)))
