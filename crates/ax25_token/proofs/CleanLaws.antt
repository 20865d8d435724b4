-- Clean letters, and the text of a call of clean letters: what stands before and after its hyphen.
-- Assumes nothing.
use mathlib.Core.Path.{◌≡◌, refl, sym, ap₂, ◌∙◌}
use mathlib.Core.Logic.{◌⊎◌, inl, inr}
use mathlib.Core.Bool.{Bool, true, false, ◌&&◌, ◌||◌, not, false≢true}
use mathlib.Core.List.{List, [], ◌∷◌, ◌++◌, map, append-nil, map-append}
use Rattle.std.proofs.Common.{unwrap_or, Option, None, Some}
use Prim.Native.Nat.{ℕ, zero, suc, ◌≤◌, ◌<◌}
use native.Mathlib.Omega.{arith}
use lib.ListN.{drop, get_or}
use lib.Dec.{eqb, ltb, leb}
use borrow.Author.Tests.{eqb-true, leb-true, ltb-true, not-true}
use Rattle.laws.specs.Pick.{pick}
use Rattle.laws.specs.Text.{between, is_digit, upper, same, is_one_of, later, position}
use Rattle.laws.proofs.Cases.{by_test, and_left, and_right}
use Rattle.laws.proofs.TextLaws.{below, at_each, same_eq}
use Rattle.bits.specs.Val.{stops, next_val, val_from, val_of}
use Rattle.ax25_token.specs.Tables.{call_alphabet, alpha_of}
use Rattle.ax25_token.specs.Token.{hyphened, base_of, behind, two_digits, decimal, suffix}
use Rattle.ax25_token.specs.Clean.{clean_letter, clean_letters, call_text, CleanCall}
use Rattle.ax25_token.proofs.Cases.{suffix_none}
use Rattle.ax25_token.proofs.Hyphen.{suffix_base}

-- ---- one letter

pub letter_or_digit : (x : ℕ) → clean_letter x ≡ true → ((65 ≤ x) × (x ≤ 90)) ⊎ ((48 ≤ x) × (x ≤ 57))
unfolding clean_letter is_digit between
letter_or_digit x e =
    by_test (between 65 90 x)
    (λ t. inl (leb-true 65 x (and_left (leb 65 x) (leb x 90) t), leb-true x 90 (and_right (leb 65 x) (leb x 90) t)))
    (λ f. let t : between 48 57 x ≡ true = rw f at e in
    inr (leb-true 48 x (and_left (leb 48 x) (leb x 57) t), leb-true x 57 (and_right (leb 48 x) (leb x 57) t)))

-- its code
unfoldable pub alpha_code : ℕ → ℕ
alpha_code x = unwrap_or (alpha_of x) 0

-- what is known of a clean letter
pub record Spelt (x : ℕ) : Type 0 where
  pub found : alpha_of x ≡ Some (alpha_code x)
  pub low : 1 ≤ alpha_code x
  pub high : alpha_code x < 37
  pub back : get_or call_alphabet (alpha_code x) 0 ≡ x
  pub no_hyphen : eqb x 45 ≡ false
  pub upper_is : upper x ≡ x

-- (by a computed test over the numbers below 91)
is_some : Option ℕ → Bool
is_some None = false
is_some (Some v) = true

spelt : ℕ → Bool
spelt x =
    is_some (alpha_of x)
    && (leb 1 (alpha_code x) && (ltb (alpha_code x) 37 && (eqb (get_or call_alphabet (alpha_code x) 0) x && (not (eqb x 45) && eqb (upper x) x))))

if_clean : ℕ → Bool
if_clean x = not (clean_letter x) || spelt x

all_spelt : below if_clean 91 ≡ true
unfolding below if_clean clean_letter is_digit between spelt is_some alpha_code alpha_of call_alphabet position later pick upper
all_spelt = refl

pub clean_lt : (x : ℕ) → clean_letter x ≡ true → x < 91
clean_lt x e = below_91 (letter_or_digit x e)
  where
    below_91 : {x : ℕ} → ((65 ≤ x) × (x ≤ 90)) ⊎ ((48 ≤ x) × (x ≤ 57)) → x < 91
    below_91 (inl p) = omega arith
    below_91 (inr p) = omega arith

is_some_lem : (o : Option ℕ) → is_some o ≡ true → o ≡ Some (unwrap_or o 0)
unfolding is_some
is_some_lem None e = absurd (false≢true e)
is_some_lem (Some v) e = refl

pub clean_spelt : (x : ℕ) → clean_letter x ≡ true → Spelt x
unfolding if_clean spelt alpha_code
clean_spelt x e =
    let t : spelt x ≡ true = rw e at (at_each if_clean 91 all_spelt x (clean_lt x e)) in
    let t₁ = and_right (is_some (alpha_of x)) _ t in
    let t₂ = and_right (leb 1 (alpha_code x)) _ t₁ in
    let t₃ = and_right (ltb (alpha_code x) 37) _ t₂ in
    let t₄ = and_right (eqb (get_or call_alphabet (alpha_code x) 0) x) _ t₃ in
    record {
      found = is_some_lem (alpha_of x) (and_left (is_some (alpha_of x)) _ t);
      low = leb-true 1 (alpha_code x) (and_left _ _ t₁);
      high = ltb-true (alpha_code x) 37 (and_left _ _ t₂);
      back = eqb-true (get_or call_alphabet (alpha_code x) 0) x (and_left _ _ t₃);
      no_hyphen = not-true (eqb x 45) (and_left _ _ t₄);
      upper_is = eqb-true (upper x) x (and_right (not (eqb x 45)) _ t₄);
    }

-- ---- letters

module _ (x : ℕ) (xs : List ℕ) (e : clean_letters (x ∷ xs) ≡ true) where
  pub clean_first : clean_letter x ≡ true
  unfolding clean_letters
  clean_first = and_left (clean_letter x) (clean_letters xs) e

  pub clean_rest : clean_letters xs ≡ true
  unfolding clean_letters
  clean_rest = and_right (clean_letter x) (clean_letters xs) e

  pub clean_head : Spelt x
  clean_head = clean_spelt x clean_first

pub clean_drop : (n : ℕ) (c : List ℕ) → clean_letters c ≡ true → clean_letters (drop n c) ≡ true
clean_drop zero c e = e
clean_drop (suc n) [] e = e
clean_drop (suc n) (x ∷ c) e = clean_drop n c (clean_rest x c e)

pub upper_clean : (c : List ℕ) → clean_letters c ≡ true → map upper c ≡ c
upper_clean [] e = refl
upper_clean (x ∷ c) e = ap₂ (λ (u : ℕ) (us : List ℕ). u ∷ us) (clean_head x c e).upper_is (upper_clean c (clean_rest x c e))

-- whatever stands after clean letters
pub base_clean : (c t : List ℕ) → clean_letters c ≡ true → base_of (c ++ t) ≡ c ++ base_of t
unfolding base_of pick
base_clean [] t e = refl
base_clean (x ∷ c) t e = rw ((clean_head x c e).no_hyphen, base_clean c t (clean_rest x c e))

pub behind_clean : (c t : List ℕ) → clean_letters c ≡ true → behind (c ++ t) ≡ behind t
unfolding behind pick
behind_clean [] t e = refl
behind_clean (x ∷ c) t e = rw ((clean_head x c e).no_hyphen, behind_clean c t (clean_rest x c e))

pub hyphen_clean : (c t : List ℕ) → clean_letters c ≡ true → hyphened (c ++ t) ≡ hyphened t
unfolding hyphened
hyphen_clean [] t e = refl
hyphen_clean (x ∷ c) t e = rw ((clean_head x c e).no_hyphen, hyphen_clean c t (clean_rest x c e))

-- ---- the text of a call

pub call_plain : (letters : List ℕ) → call_text letters 0 ≡ letters
unfolding call_text
call_plain letters = rw (suffix_none 0 refl) (append-nil letters)

suffix_hyphened : (s : ℕ) → hyphened (suffix s) ≡ false → s ≡ 0
unfolding suffix hyphened pick
suffix_hyphened s h = by_test (eqb s 0) (eqb-true s 0) (λ e. absurd (false≢true (sym (rw e at h))))

-- the SSID is read from its text, which has no small letters
ssid_right : ℕ → Bool
ssid_right s = eqb (val_of (behind (suffix s))) s && same (map upper (suffix s)) (suffix s)

all_ssids : below ssid_right 16 ≡ true
unfolding below ssid_right behind suffix decimal two_digits pick val_of val_from stops next_val same upper between
all_ssids = refl

read_ssid : (s : ℕ) → s < 16 → val_of (behind (suffix s)) ≡ s
unfolding ssid_right
read_ssid s h =
    eqb-true (val_of (behind (suffix s))) s (and_left _ (same (map upper (suffix s)) (suffix s)) (at_each ssid_right 16 all_ssids s h))

pub upper_suffix : (s : ℕ) → s < 16 → map upper (suffix s) ≡ suffix s
unfolding ssid_right
upper_suffix s h =
    same_eq (map upper (suffix s)) (suffix s) (and_right (eqb (val_of (behind (suffix s))) s) _ (at_each ssid_right 16 all_ssids s h))

module _ (letters : List ℕ) (ssid : ℕ) (e : clean_letters letters ≡ true) where
  pub call_base : base_of (call_text letters ssid) ≡ letters
  unfolding call_text
  call_base = rw (base_clean letters (suffix ssid) e, suffix_base ssid) (append-nil letters)

  pub call_behind : behind (call_text letters ssid) ≡ behind (suffix ssid)
  unfolding call_text
  call_behind = behind_clean letters (suffix ssid) e

  pub call_ssid : ssid < 16 → val_of (behind (call_text letters ssid)) ≡ ssid
  call_ssid h = rw call_behind (read_ssid ssid h)

  pub call_upper : ssid < 16 → map upper (call_text letters ssid) ≡ call_text letters ssid
  unfolding call_text
  call_upper h = rw (map-append upper letters (suffix ssid), upper_clean letters e, upper_suffix ssid h)

  -- a call with no hyphen has no SSID
  pub call_unhyphened : hyphened (call_text letters ssid) ≡ false → ssid ≡ 0
  unfolding call_text
  call_unhyphened h = suffix_hyphened ssid (sym (hyphen_clean letters (suffix ssid) e) ∙ h)

-- ---- a clean call, by the reading

-- a call that is clean under the original reading is clean under both
pub clean_both : (mended : Bool) (letters : List ℕ) (ssid : ℕ) → CleanCall false letters ssid → CleanCall mended letters ssid
unfolding is_one_of pick
clean_both true letters ssid h =
    record { clean = h.clean; some_letters = h.some_letters; few_letters = h.few_letters; small = h.small; not_misread = refl }
clean_both false letters ssid h = h
