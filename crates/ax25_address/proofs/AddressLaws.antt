-- A clean call comes back through its address field.
-- Assumes nothing.
use mathlib.Core.Path.{◌≡◌, refl, ap, ap₂, ◌∙◌}
use mathlib.Core.Bool.{Bool, true, false, ◌&&◌}
use mathlib.Core.List.{List, [], ◌∷◌, ◌++◌, map}
use mathlib.Core.Logic.{⊎_elim}
use Prim.Native.Nat.{ℕ, zero, suc, ◌+◌, ◌-◌, ◌*◌, ◌/◌, ◌%◌, ◌≤◌, ◌<◌}
use native.Mathlib.Nat.{not-suc-le-zero, le_of_suc-le-suc}
use native.Mathlib.Omega.{arith}
use lib.Bits.{bit_or}
use lib.ListN.{length, get_or, take, replicate, length-append, length-replicate, length-map, replicate-append-replicate}
use lib.Seq.{take_at, get_or_at, length-take-le, take-append-add}
use lib.Dec.{eqb}
use borrow.Author.Tests.{eqb-true}
use Rattle.laws.specs.Pick.{pick}
use Rattle.laws.specs.Text.{ascii, between, same, starts, filled, trim}
use Rattle.laws.proofs.Cases.{by_test}
use Rattle.laws.proofs.TextLaws.{below, at_each}
use Rattle.laws.proofs.TrimLaws.{between_above, Solid, trim_filled}
use Rattle.bits.specs.Val.{stops, next_val, val_from, val_of}
use Rattle.ax25_token.specs.Clean.{clean_letters, call_text, CleanCall}
use Rattle.ax25_token.specs.Token.{behind, two_digits, decimal, suffix}
use Rattle.ax25_token.proofs.CleanLaws.{letter_or_digit, clean_lt, clean_first, clean_rest, upper_clean, call_base, call_behind}
use Rattle.ax25_address.specs.Address.{white, half, addr_call, double, cut_to, ssid_of, call_bytes}

abbrev blanks : ℕ → List ℕ
blanks k = replicate k 32

-- the address field of letters, with the byte after them
unfoldable pub address_of : ℕ → List ℕ → ℕ → List ℕ
address_of l letters e = map double (cut_to l letters) ++ (e ∷ [])

-- ---- letters are no white space

pub not_white : (x : ℕ) → 32 < x → white x ≡ false
unfolding white
not_white x h = rw (between_above 9 13 x (omega arith) (omega arith), between_above 28 32 x (omega arith) h)

letters_solid : (b : List ℕ) → clean_letters b ≡ true → Solid white b
letters_solid [] e i h = absurd (not-suc-le-zero h)
letters_solid (x ∷ b) e zero h = not_white x (⊎_elim (λ q. omega arith) (λ q. omega arith) (letter_or_digit x (clean_first x b e)))
letters_solid (x ∷ b) e (suc i) h = letters_solid b (clean_rest x b e) i (le_of_suc-le-suc h)

-- ---- blanks after the letters

length_blanks : (n : ℕ) → length (blanks n) ≡ n
length_blanks n = length-replicate {A = ℕ} n 32

take_blanks : (n m : ℕ) → take n (blanks (n + m)) ≡ blanks n
take_blanks n m = rw (← replicate-append-replicate {A = ℕ} n m 32) (take_at (blanks n) (blanks m) n (length_blanks n))

-- letters that fit, and blanks up to l
pub cut_filled : (l : ℕ) (b : List ℕ) → length b ≤ l → cut_to l b ≡ filled l b
unfolding cut_to filled
cut_filled l b h =
    let k = l - length b in
    let e : l ≡ length b + k = omega arith in
    let e' : l ≡ k + length b = omega arith in
    ap (λ (n : ℕ). take n (b ++ blanks l)) e
    ∙ take-append-add b (blanks l) k
    ∙ ap (λ (t : List ℕ). b ++ t) (ap (λ (n : ℕ). take k (blanks n)) e' ∙ take_blanks k (length b))

half_double : (x : ℕ) → x < 128 → half (double x) ≡ x
unfolding half double
half_double x h = omega arith

halves_blank : (k : ℕ) → map half (map double (blanks k)) ≡ blanks k
unfolding half double
halves_blank zero = refl
halves_blank (suc k) = ap (λ (t : List ℕ). 32 ∷ t) (halves_blank k)

halves : (b : List ℕ) (k : ℕ) → clean_letters b ≡ true → map half (map double (b ++ blanks k)) ≡ b ++ blanks k
halves [] k e = halves_blank k
halves (x ∷ b) k e =
    ap₂ (λ (u : ℕ) (us : List ℕ). u ∷ us) (half_double x (omega (arith, clean_lt x (clean_first x b e)))) (halves b k (clean_rest x b e))

halves_filled : (l : ℕ) (b : List ℕ) → clean_letters b ≡ true → map half (map double (filled l b)) ≡ filled l b
unfolding filled
halves_filled l b c = halves b (l - length b) c

pub white_blank : white 32 ≡ true
unfolding white between
white_blank = refl

-- ---- from the field to the call: the SSID byte may have its other bits set

pub length_cut : (l : ℕ) (b : List ℕ) → length (cut_to l b) ≡ l
unfolding cut_to
length_cut l b = length-take-le l (b ++ blanks l) (omega (arith, length-append b (blanks l), length_blanks l))

pub field_call : (l : ℕ) (b : List ℕ) (s e : ℕ) → clean_letters b ≡ true → length b ≤ l → e / 2 % 16 ≡ s
    → addr_call l (address_of l b e) ≡ call_text b s
unfolding addr_call address_of call_text
field_call l b s e c k q =
    let field = map double (cut_to l b) in
    let size : length field ≡ l = length-map (cut_to l b) double ∙ length_cut l b in
    let letters : trim white (map half (take l (field ++ (e ∷ [])))) ≡ b =
    ap (λ (t : List ℕ). trim white (map half t)) (take_at field (e ∷ []) l size)
    ∙ ap (λ (t : List ℕ). trim white (map half (map double t))) (cut_filled l b k)
    ∙ ap (trim white) (halves_filled l b c)
    ∙ trim_filled white white_blank l b (letters_solid b c) in
    let ssid : get_or (field ++ (e ∷ [])) l 0 / 2 % 16 ≡ s = ap (λ (x : ℕ). x / 2 % 16) (get_or_at field e [] 0 l size) ∙ q in
    ap₂ (λ (t : List ℕ) (n : ℕ). t ++ suffix n) letters ssid

-- ---- from the call to the field

ssid_test : ℕ → Bool
ssid_test s = eqb (bit_or 0x60 (double (ssid_of (behind (suffix s))))) (0x60 + s * 2)

all_ssids : below ssid_test 16 ≡ true
unfolding below ssid_test double ssid_of same behind suffix decimal two_digits pick val_of val_from stops next_val
all_ssids = refl

pub call_field_lem : (l : ℕ) (b : List ℕ) (s : ℕ) → clean_letters b ≡ true → s < 16 → call_bytes l (call_text b s) ≡ address_of l b (0x60 + s * 2)
unfolding call_bytes address_of ssid_test
call_field_lem l b s c h =
    rw (call_base b s c, upper_clean b c, call_behind b s c, eqb-true (bit_or 0x60 (double (ssid_of (behind (suffix s))))) (0x60 + s * 2) (at_each ssid_test 16 all_ssids s h))

-- ---- each undoes the other

module _ (mended : Bool) (l : ℕ) (letters : List ℕ) (ssid : ℕ) (h : CleanCall mended letters ssid) (six : 6 ≤ l) where
  pub call_back : addr_call l (call_bytes l (call_text letters ssid)) ≡ call_text letters ssid
  call_back =
      rw (call_field_lem l letters ssid h.clean h.small)
      (field_call l letters ssid (0x60 + ssid * 2) h.clean (omega (arith, h.few_letters)) (omega (arith, h.small)))

-- ---- what a call starts with

-- no capital starts a suffix
suffix_first : (x : ℕ) (w : List ℕ) (ssid : ℕ) → eqb x 45 ≡ false → starts (x ∷ w) (suffix ssid) ≡ false
unfolding starts suffix pick
suffix_first x w ssid e = by_test (eqb ssid 0) (λ t. rw t) (λ t. rw (t, e))

pub starts_call : (letters : List ℕ) (ssid : ℕ) → starts (ascii "AP") (call_text letters ssid) ≡ starts (ascii "AP") letters
unfolding call_text starts
starts_call [] ssid = suffix_first 65 (80 ∷ []) ssid refl
starts_call (x ∷ []) ssid = ap (λ (t : Bool). eqb 65 x && t) (suffix_first 80 [] ssid refl)
starts_call (x ∷ y ∷ t) ssid = refl
