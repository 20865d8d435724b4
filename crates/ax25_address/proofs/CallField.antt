-- The bytes of a call's address field, by place, and the field with marks in its last byte.
-- Assumes nothing.
use mathlib.Core.Path.{◌≡◌, refl, sym, ap, ◌∙◌}
use mathlib.Core.Bool.{and-true, and-false}
use mathlib.Core.List.{List, [], ◌∷◌, ◌++◌, map}
use Prim.Native.Nat.{ℕ, suc, ◌+◌, ◌-◌, ◌*◌, ◌%◌, ◌≤◌, ◌<◌}
use native.Mathlib.Numerals.{add-one}
use native.Mathlib.Omega.{arith}
use lib.Bits.{bit_or}
use lib.ListN.{length, take, drop, get_or, set, replicate, length-map, drop_of_length-le, get_or-replicate, get_or-append, get_or-map}
use lib.Seq.{get_or_at, set_at, get_or-take, get_or-append-add}
use lib.Dec.{eqb}
use Rattle.laws.specs.Pick.{pick}
use Rattle.laws.specs.Text.{between, upper, same}
use Rattle.laws.specs.Wrote.{Wrote}
use Rattle.laws.proofs.ListLaws.{from_place}
use Rattle.laws.proofs.WroteLaws.{wrote_then, wrote_as}
use Rattle.bits.specs.Val.{val_of, val_from}
use Rattle.ax25_token.specs.Token.{base_of, behind}
use Rattle.ax25_token.proofs.PutLaws.{base_take, behind_drop}
use Rattle.ax25_address.specs.Address.{double, cut_to, ssid_of, call_bytes}
use Rattle.ax25_address.proofs.AddressLaws.{length_cut}

-- ---- the letters

-- the letters of a field
abbrev pub field_letters : ℕ → List ℕ → List ℕ
field_letters l b = map double (cut_to l (map upper b))

pub length_letters : (l : ℕ) (b : List ℕ) → length (field_letters l b) ≡ l
length_letters l b = length-map (cut_to l (map upper b)) double ∙ length_cut l (map upper b)

module _ (l : ℕ) (b : List ℕ) (i : ℕ) (h : i < l) where
  letter_is : get_or (field_letters l b) i 0 ≡ double (get_or (map upper b ++ replicate l 32) i 0)
  unfolding double cut_to
  letter_is =
      get_or-map double (cut_to l (map upper b)) i 0 ∙ ap double (get_or-take l (map upper b ++ replicate l 32) i 0 h)

  -- a letter that is there, and a blank after the last
  pub letter_there : (x : ℕ) → x ≡ upper (get_or b i 0) → i < length b → x % 128 * 2 ≡ get_or (field_letters l b) i 0
  unfolding double upper pick between
  letter_there x e k =
      let shifted : x % 128 * 2 ≡ double x = omega arith in
      let letter : get_or (map upper b ++ replicate l 32) i 0 ≡ upper (get_or b i 0) =
      get_or-append (map upper b) (replicate l 32) 0 i (omega (arith, length-map b upper)) ∙ get_or-map upper b i 0 in
      sym (letter_is ∙ ap double (letter ∙ sym e) ∙ sym shifted)

  pub letter_blank : length b ≤ i → 64 ≡ get_or (field_letters l b) i 0
  unfolding double
  letter_blank k =
      let p : i ≡ length (map upper b) + (i - length b) = omega (arith, length-map b upper) in
      sym (letter_is ∙ ap double (ap (λ (n : ℕ). get_or (map upper b ++ replicate l 32) n 0) p ∙ get_or-append-add (map upper b) (replicate l 32) (i - length b) 0 ∙ get_or-replicate l (i - length b) 32 0 (omega arith)))

-- ---- the SSID

-- one letter, and any other text
pub ssid_one : (s : List ℕ) → length s ≡ 1
    → ssid_of s ≡ pick (eqb (get_or s 0 0) 84) 16 (pick (eqb (get_or s 0 0) 82) 17 (pick (eqb (get_or s 0 0) 88) 18 (pick (eqb (get_or s 0 0) 76) 19 (val_of s))))
unfolding ssid_of same
ssid_one [] h = absurd (omega arith)
ssid_one (x ∷ []) h = simp and-true
ssid_one (x ∷ y ∷ s) h = absurd (omega arith)

pub ssid_other : (s : List ℕ) → (length s ≡ 1 → ⊥) → ssid_of s ≡ val_of s
unfolding ssid_of same pick
ssid_other [] h = refl
ssid_other (x ∷ []) h = absurd (h refl)
ssid_other (x ∷ y ∷ s) h = simp and-false

module _ (c : List ℕ) (k : ℕ) (e : k ≡ length (base_of c)) where
  pub ssid_none : length c ≤ k → 0 ≡ double (ssid_of (behind c))
  unfolding double ssid_of same pick val_of val_from
  ssid_none h =
      let z : behind c ≡ [] = sym (behind_drop c) ∙ drop_of_length-le c {i = suc (length (base_of c))} (omega (arith, h, e)) in
      rw z

  pub ssid_shifted : (v : ℕ) → v ≡ ssid_of (take (length c - (k + 1)) (drop (k + 1) c)) → v % 128 * 2 ≡ double (ssid_of (behind c))
  unfolding double
  ssid_shifted v q =
      let shifted : v % 128 * 2 ≡ double v = omega arith in
      let rest : take (length c - (k + 1)) (drop (k + 1) c) ≡ behind c = from_place c (k + 1) ∙ rw (e, add-one) (behind_drop c) in
      shifted ∙ ap double (q ∙ ap ssid_of rest)

-- ---- the field with marks

module _ (l : ℕ) (c : List ℕ) (mark : ℕ) where
  pub field_marked : field_letters l (base_of c) ++ (bit_or (bit_or 0x60 (double (ssid_of (behind c)))) mark ∷ [])
      ≡ set (call_bytes l c) l (bit_or (get_or (call_bytes l c) l 0) mark)
  unfolding call_bytes
  field_marked =
      let f = field_letters l (base_of c) in
      let e = bit_or 0x60 (double (ssid_of (behind c))) in
      rw (get_or_at f e [] 0 l (length_letters l (base_of c)), set_at f e [] (bit_or e mark) l (length_letters l (base_of c)))

  -- the letters and the SSID byte, one after the other
  pub field_wrote : (k : ℕ) → k ≡ length (base_of c) → (v : ℕ) → v ≡ double (ssid_of (behind c)) → {a d e : List ℕ} {to p q : ℕ}
      → Wrote a to (field_letters l (take (k - 0) c)) d p → Wrote d p (bit_or (bit_or 0x60 v) mark ∷ []) e q
      → Wrote a to (set (call_bytes l c) l (bit_or (get_or (call_bytes l c) l 0) mark)) e q
  field_wrote k ek v ev {a} {d} {e} {to} {p} {q} w x =
      let z : k - 0 ≡ length (base_of c) = omega (arith, ek) in
      let front : take (k - 0) c ≡ base_of c = ap (λ (n : ℕ). take n c) z ∙ base_take c in
      wrote_as field_marked
      (wrote_then (wrote_as (ap (field_letters l) front) w) (wrote_as (ap (λ (n : ℕ). bit_or (bit_or 0x60 n) mark ∷ []) ev) x))
