-- Letters put into a call, the letters of an address field, and the call that they are.
-- Assumes nothing.
use mathlib.Core.Path.{◌≡◌, refl, sym, ap, ap₂, ◌∙◌}
use mathlib.Core.Bool.{Bool, true, false}
use mathlib.Core.List.{List, [], ◌∷◌, ◌++◌, map, map-append}
use Prim.Native.Nat.{ℕ, ◌+◌, ◌/◌, ◌%◌, ◌≤◌, ◌<◌}
use native.Mathlib.Numerals.{add-one}
use native.Mathlib.Omega.{arith}
use lib.ListN.{length, get_or, take, length-map}
use lib.Seq.{take-suc, length-take-le}
use Rattle.laws.specs.Text.{trim}
use Rattle.laws.proofs.TrimLaws.{trim_le}
use Rattle.ax25_token.specs.declared.Call.{Call}
use Rattle.ax25_token.specs.Call.{text_of, empty, pushed, appended}
use Rattle.ax25_token.specs.Put.{cased_of}
use Rattle.ax25_token.specs.Token.{suffix}
use Rattle.ax25_token.proofs.CallLaws.{appended_append, len_appended, text_back}
use Rattle.ax25_token.proofs.CleanLaws.{upper_suffix}
use Rattle.ax25_token.proofs.PutLaws.{map_plain, map_up}
use Rattle.ax25_address.specs.Address.{white, half, addr_call}

-- ---- letters put into a call

pub none_taken : (g : ℕ → ℕ) (s : List ℕ) → empty ≡ appended empty (map g (take 0 s))
unfolding appended
none_taken g s = refl

-- a call with a letter more
pub letter_more : (g : ℕ → ℕ) (s : List ℕ) (i : ℕ) → i < length s → (c d : Call) → c ≡ appended empty (map g (take i s)) → d ≡ pushed c (g (get_or s i 0))
    → d ≡ appended empty (map g (take (i + 1) s))
unfolding appended
letter_more g s i h c d e f =
    let t = take i s in
    let x = get_or s i 0 in
    let next : take (i + 1) s ≡ t ++ (x ∷ []) = rw (add-one i) (take-suc s i 0 h) in
    f
    ∙ ap (λ (k : Call). pushed k (g x)) e
    ∙ appended_append empty (map g t) (g x ∷ [])
    ∙ ap (appended empty) (sym (map-append g t (x ∷ [])))
    ∙ ap (λ (u : List ℕ). appended empty (map g u)) (sym next)

-- a call of a text trimmed
pub trimmed_text : (g : ℕ → ℕ) (s t : List ℕ) (r : Call) → length s ≤ 16 → t ≡ trim white s → r ≡ appended empty (map g t)
    → (text_of r ≡ map g (trim white s)) × (r.len ≤ length s) × (r ≡ appended empty (map g (trim white s)))
trimmed_text g s t r n e f =
    let u = map g (trim white s) in
    let whole : r ≡ appended empty u = f ∙ ap (λ (x : List ℕ). appended empty (map g x)) e in
    let few : length u ≤ length s = omega (arith, length-map (trim white s) g, trim_le white s) in (
      ap text_of whole ∙ text_back u (omega arith),
      omega (arith, ap (λ (x : Call). x.len) whole, len_appended empty u),
      whole,
    )

-- a call that was made of letters holds nothing but its text
pub whole_call : (s : List ℕ) (r : Call) → r ≡ appended empty s → r.len ≤ 16 → r ≡ appended empty (text_of r)
whole_call s r e n =
    let few : length s ≤ 16 = omega (arith, len_appended empty s, ap (λ (x : Call). x.len) e, n) in
    e ∙ ap (appended empty) (sym (ap text_of e ∙ text_back s few))

-- ---- the letters of an address field

-- a call with a letter more
pub half_more : (f : List ℕ) (i : ℕ) → i < length f → (c d : Call) → c ≡ appended empty (map half (take i f)) → d ≡ pushed c (get_or f i 0 / 2)
    → d ≡ appended empty (map half (take (i + 1) f))
unfolding half
half_more = letter_more half

-- all of them
pub halved_text : (l : ℕ) (f : List ℕ) (c : Call) → l ≤ length f → l ≤ 16 → c ≡ appended empty (map half (take l f)) → text_of c ≡ map half (take l f)
halved_text l f c h k e = ap text_of e ∙ text_back (map half (take l f)) (omega (arith, length-map (take l f) half, length-take-le l f h))

-- a suffix has no small letters
cased_suffix : (up : Bool) (k : ℕ) → k < 16 → map (cased_of up) (suffix k) ≡ suffix k
cased_suffix true k h = map_up (suffix k) ∙ upper_suffix k h
cased_suffix false k h = map_plain (suffix k)

-- the letters and the SSID are the whole call
pub field_whole : (g : ℕ → ℕ) (t : List ℕ) (k : ℕ) (c r : Call) → c ≡ appended empty (map g (trim white t)) → r ≡ appended c (suffix k) → r.len ≤ 16
    → r ≡ appended empty (text_of r)
field_whole g t k c r ec er n =
    let u = map g (trim white t) in
    whole_call (u ++ suffix k) r (er ∙ ap (λ (x : Call). appended x (suffix k)) ec ∙ appended_append empty u (suffix k)) n

-- the letters and the SSID are the text of the field
pub field_text : (up : Bool) (l : ℕ) (f t : List ℕ) (k : ℕ) (c r : Call) → t ≡ map half (take l f) → k ≡ get_or f l 0 / 2 % 16
    → c ≡ appended empty (map (cased_of up) (trim white t)) → r ≡ appended c (suffix k) → r.len ≤ 16 → text_of r ≡ map (cased_of up) (addr_call l f)
unfolding addr_call
field_text up l f t k c r et ek ec er n =
    let g = cased_of up in
    let u = trim white t in
    let s = map g u ++ suffix k in
    let whole : r ≡ appended empty s = er ∙ ap (λ (x : Call). appended x (suffix k)) ec ∙ appended_append empty (map g u) (suffix k) in
    let len : length s ≤ 16 = omega (arith, len_appended empty s, ap (λ (x : Call). x.len) whole) in
    ap text_of whole
    ∙ text_back s len
    ∙ ap (λ (x : List ℕ). map g u ++ x) (sym (cased_suffix up k (omega arith)))
    ∙ sym (map-append g u (suffix k))
    ∙ ap₂ (λ (x : List ℕ) (y : ℕ). map g (trim white x ++ suffix y)) et ek
