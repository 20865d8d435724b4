-- Generic bytes: the message as two writes, the header and the bytes or their 7-bit text; and what is read back as one.
-- Assumes nothing.
use mathlib.Core.Path.{◌≡◌, refl, sym, ◌∙◌}
use mathlib.Core.Bool.{true, false}
use mathlib.Core.List.{List, [], ◌∷◌}
use Rattle.std.proofs.Common.{Option, None, Some, unwrap_or}
use Prim.Native.Nat.{ℕ, ◌-◌, ◌/◌, ◌%◌}
use native.Mathlib.Omega.{arith}
use lib.ListN.{length, take, drop}
use borrow.Author.Tests.{eq-eqb, ne_eqb}
use Rattle.laws.specs.Bits.{Bytes, odd, pack, unpack}
use Rattle.laws.specs.Wrote.{Wrote}
use Rattle.laws.proofs.ByteLaws.{unpack_whole}
use Rattle.laws.proofs.Cases.{pick_true, pick_false}
use Rattle.laws.proofs.ListLaws.{from_place}
use Rattle.laws.proofs.WroteLaws.{wrote_as}
use Rattle.bits_write.specs.Text7.{text7_bits}
use Rattle.bits.specs.Text7.{text7_of, text7_next, text7_left}
use Rattle.bits_write.proofs.Text7Laws.{length_text7, text7_whole}
use Rattle.ax25_address.specs.Classify.{any_high}
use Rattle.ax25.proofs.PackLaws.{behind_byte, byte_leaves, pack_wrote}
use Rattle.kiss.specs.Generic.{generic_of, generic_back}

generic_high : (d : List ℕ) → any_high d ≡ true → 0x20 ∷ d ≡ generic_of d
unfolding generic_of
generic_high d e = sym (pick_true _ _ e)

generic_low : (d : List ℕ) → any_high d ≡ false → 0x21 ∷ pack (text7_bits 0 false d) ≡ generic_of d
unfolding generic_of
generic_low d e = sym (pick_false _ _ e)

-- the bits of a text written after one byte are its packed bytes
text_wrote : (d : List ℕ) {t u : List ℕ} {next : ℕ} → Bytes t → Bytes u
    → Wrote (unpack t) 8 (text7_bits 8 false d) (unpack u) next → Wrote t 1 (pack (text7_bits 0 false d)) u (next / 8)
text_wrote d ht hu w =
    let b = text7_bits 0 false d in
    let whole : length b % 8 ≡ 0 = omega (arith, length_text7 0 false d) in
    pack_wrote b ht hu (wrote_as (text7_whole 0 false d ∙ sym (unpack_whole b whole)) w)

module _ (d : List ℕ) {s t u : List ℕ} {p next : ℕ} where
  pub high_wrote : any_high d ≡ true → Wrote s 0 (0x20 ∷ []) t p → Wrote t 1 d u next → Wrote s 0 (generic_of d) u next
  high_wrote e f g = wrote_as (generic_high d e) (behind_byte f g)

  pub low_wrote : any_high d ≡ false → Bytes s → Bytes u → Wrote s 0 (0x21 ∷ []) t p → Wrote (unpack t) 8 (text7_bits 8 false d) (unpack u) next
      → Wrote s 0 (generic_of d) u (next / 8)
  low_wrote e hs hu f g =
      wrote_as (generic_low d e) (behind_byte f (text_wrote d (byte_leaves (omega arith) hs f) hu g))

-- ---- decoding

-- what `text7` left is the text, or nothing, and its answer the place after it, or 0
left_wrote : {s u : List ℕ} (o : Option (List ℕ)) → u ≡ text7_left s 0 o → Wrote s 0 (unwrap_or o []) u (unwrap_or (text7_next 0 o) 0)
unfolding text7_next text7_left
left_wrote None e = record { stored = e; next_is = refl }
left_wrote (Some t) e = record { stored = e; next_is = refl }

-- the part of a message after its first byte
abbrev rest : List ℕ → List ℕ
rest m = take (length m - 1) (drop 1 m)

module _ (h : ℕ) (m : List ℕ) where
  bytes_is : h % 2 ≡ 0 → rest m ≡ generic_back h (drop 1 m)
  unfolding generic_back odd
  bytes_is e = from_place m 1 ∙ sym (pick_false _ _ (ne_eqb (h % 2) 1 (λ q. omega arith)))

  text_is : (h % 2 ≡ 0 → ⊥) → unwrap_or (text7_of (unpack (rest m)) 0) [] ≡ generic_back h (drop 1 m)
  unfolding generic_back odd
  text_is e = rw (from_place m 1) (sym (pick_true _ _ (eq-eqb (h % 2) 1 (omega arith))))

  pub bytes_back : {s u : List ℕ} {n : ℕ} → h % 2 ≡ 0 → Wrote s 0 (rest m) u n → Wrote s 0 (generic_back h (drop 1 m)) u n
  bytes_back e w = wrote_as (bytes_is e) w

  pub text_back : {s u : List ℕ} {r : Option ℕ} {n : ℕ} → (h % 2 ≡ 0 → ⊥) → r ≡ text7_next 0 (text7_of (unpack (rest m)) 0) → n ≡ unwrap_or r 0
      → u ≡ text7_left s 0 (text7_of (unpack (rest m)) 0) → Wrote s 0 (generic_back h (drop 1 m)) u n
  text_back e a b f = wrote_as (text_is e) (rw (← a, ← b) at (left_wrote (text7_of (unpack (rest m)) 0) f))
