-- The address fields of a plain frame, and the parts that it is parsed into.
-- Assumes nothing.
use mathlib.Core.Path.{◌≡◌, refl, sym, ap, ap₂, ◌∙◌}
use mathlib.Core.Bool.{Bool, true, false}
use mathlib.Core.List.{List, [], ◌∷◌, ◌++◌, map, append_assoc}
use Rattle.std.proofs.Common.{Some}
use Prim.Native.Nat.{ℕ, zero, suc, ◌+◌, ◌-◌, ◌*◌, ◌/◌, ◌%◌, ◌^◌, ◌≤◌, ◌<◌}
use native.Mathlib.Nat.{not-suc-le-zero, le_of_suc-le-suc}
use native.Mathlib.Omega.{arith}
use lib.Bits.{bit_or, or_zero_r, or_shifted, or_shifted_r, or_block}
use lib.ListN.{length, get_or, replicate, length-append, length-map}
use lib.Seq.{set_at, get_or_at}
use lib.Dec.{leb}
use borrow.Author.Tests.{eq-eqb, ne_eqb, le-leb, lt-leb}
use Rattle.laws.specs.Bits.{odd}
use Rattle.laws.specs.Pick.{pick}
use Rattle.laws.specs.Text.{upper, filled}
use Rattle.ax25_token.specs.Clean.{clean_letters, call_text, CleanCall}
use Rattle.ax25_token.proofs.CleanLaws.{clean_lt, clean_first, clean_rest, call_upper, clean_both}
use Rattle.ax25_address.specs.Address.{addr_call, heard_in, double, cut_to, call_bytes}
use Rattle.ax25_address.specs.Parse.{Parsed, digi_fields, parse_of}
use Rattle.ax25_address.proofs.AddressLaws.{address_of, cut_filled, length_cut, field_call, call_field_lem}
use Rattle.ax25_address.proofs.ParseLaws.{split_off_lem}
use Rattle.ax25_aprs.proofs.BodyBack.{body_both}
use Rattle.ax25.specs.Decode.{is_empty, marked}
use Rattle.ax25.specs.Plain.{Address, AllClean, twice, address_bytes, address_field, PlainInfo, text, binary, body, Plain}

-- ---- a number's last bit

pub odd_yes : (n : ℕ) → n % 2 ≡ 1 → odd n ≡ true
unfolding odd
odd_yes n e = eq-eqb (n % 2) 1 e

odd_no : (n : ℕ) → n % 2 ≡ 0 → odd n ≡ false
unfolding odd
odd_no n e = ne_eqb (n % 2) 1 (λ q. omega arith)

-- ---- the SSID byte

abbrev ssid_byte : ℕ → Bool → Bool → ℕ
ssid_byte s h last = 0x60 + s * 2 + (pick h 0x80 0 + pick last 0x01 0)

module _ (s : ℕ) (small : s < 16) where
  ssid_value : (h last : Bool) → ssid_byte s h last / 2 % 16 ≡ s
  unfolding pick
  ssid_value true true = omega arith
  ssid_value true false = omega arith
  ssid_value false true = omega arith
  ssid_value false false = omega arith

  ssid_last : (h last : Bool) → odd (ssid_byte s h last) ≡ last
  unfolding pick
  ssid_last true true = odd_yes (0x60 + s * 2 + (0x80 + 0x01)) (omega arith)
  ssid_last true false = odd_no (0x60 + s * 2 + (0x80 + 0)) (omega arith)
  ssid_last false true = odd_yes (0x60 + s * 2 + (0 + 0x01)) (omega arith)
  ssid_last false false = odd_no (0x60 + s * 2 + (0 + 0)) (omega arith)

  ssid_heard : (h last : Bool) → leb 0x80 (ssid_byte s h last) ≡ h
  unfolding pick
  ssid_heard true true = le-leb 0x80 (0x60 + s * 2 + (0x80 + 0x01)) (omega arith)
  ssid_heard true false = le-leb 0x80 (0x60 + s * 2 + (0x80 + 0)) (omega arith)
  ssid_heard false true = lt-leb 0x80 (0x60 + s * 2 + (0 + 0x01)) (omega arith)
  ssid_heard false false = lt-leb 0x80 (0x60 + s * 2 + (0 + 0)) (omega arith)

  -- the two bits go into an SSID byte without them
  ssid_marked : (h last : Bool) → bit_or (0x60 + s * 2) (pick h 0x80 0 + pick last 0x01 0) ≡ ssid_byte s h last
  unfolding pick
  ssid_marked true true =
      let e : 0x60 + s * 2 ≡ 0 * 2 ^ 7 + ((48 + s) * 2 ^ 1) = omega arith in
      rw (e, or_block 7 0 1 ((48 + s) * 2 ^ 1) 1 (omega arith) (omega arith), or_shifted (48 + s) 1 1 (omega arith)) (omega arith)
  ssid_marked true false = rw (or_shifted_r 1 7 (0x60 + s * 2) (omega arith)) (omega arith)
  ssid_marked false true =
      let e : 0x60 + s * 2 ≡ (48 + s) * 2 ^ 1 = omega arith in
      rw (e, or_shifted (48 + s) 1 1 (omega arith)) (omega arith)
  ssid_marked false false = or_zero_r (0x60 + s * 2) ∙ omega arith

-- ---- an address field

doubles : (b : List ℕ) (k : ℕ) → clean_letters b ≡ true → map double (b ++ replicate k 32) ≡ map twice (b ++ replicate k 32)
unfolding double
doubles [] zero e = refl
doubles [] (suc k) e = ap (λ (t : List ℕ). 64 ∷ t) (doubles [] k e)
doubles (x ∷ b) k e =
    let s : x * 2 % 256 ≡ x * 2 = omega (arith, clean_lt x (clean_first x b e)) in
    ap₂ (λ (u : ℕ) (us : List ℕ). u ∷ us) s (doubles b k (clean_rest x b e))

module _ (mended : Bool) (a : Address) (ok : CleanCall mended a.letters a.ssid) where
  field_is : (last : Bool) → address_bytes a last ≡ address_of 6 a.letters (ssid_byte a.ssid a.heard last)
  unfolding address_bytes address_of filled
  field_is last =
      ap (λ (t : List ℕ). t ++ (ssid_byte a.ssid a.heard last ∷ []))
      (sym (ap (map double) (cut_filled 6 a.letters ok.few_letters) ∙ doubles a.letters (6 - length a.letters) ok.clean))

  letters_length : length (map double (cut_to 6 a.letters)) ≡ 6
  letters_length = length-map (cut_to 6 a.letters) double ∙ length_cut 6 a.letters

  pub address_length : (last : Bool) → length (address_bytes a last) ≡ 7
  address_length last = rw (field_is last) (unfold address_of in rw (length-append, letters_length))

  address_ssid : (last : Bool) → get_or (address_bytes a last) 6 0 ≡ ssid_byte a.ssid a.heard last
  address_ssid last =
      rw (field_is last)
      (unfold address_of in get_or_at (map double (cut_to 6 a.letters)) (ssid_byte a.ssid a.heard last) [] 0 6 letters_length)

  address_last : (last : Bool) → odd (get_or (address_bytes a last) 6 0) ≡ last
  address_last last = rw (address_ssid last) (ssid_last a.ssid ok.small a.heard last)

  address_heard : (last : Bool) → heard_in 6 (address_bytes a last) ≡ a.heard
  address_heard last = rw (address_ssid last) (ssid_heard a.ssid ok.small a.heard last)

  address_text : (last : Bool) → addr_call 6 (address_bytes a last) ≡ call_text a.letters a.ssid
  address_text last =
      rw (field_is last)
      (field_call 6 a.letters a.ssid (ssid_byte a.ssid a.heard last) ok.clean ok.few_letters (ssid_value a.ssid ok.small a.heard last))

  pub address_marked : (last : Bool) → marked 6 a.heard last (call_bytes 6 (call_text a.letters a.ssid)) ≡ address_bytes a last
  unfolding marked address_of
  address_marked last =
      let s = map double (cut_to 6 a.letters) in
      let x = 0x60 + a.ssid * 2 in
      rw (call_field_lem 6 a.letters a.ssid ok.clean ok.small, field_is last, get_or_at s x [] 0 6 letters_length, ssid_marked a.ssid ok.small a.heard last)
      (set_at s x [] (ssid_byte a.ssid a.heard last) 6 letters_length)

-- ---- all addresses

-- their texts, H bits and fields, one by one
unfoldable pub texts : List Address → List (List ℕ)
texts [] = []
texts (a ∷ rest) = call_text a.letters a.ssid ∷ texts rest

unfoldable pub heards : List Address → List Bool
heards [] = []
heards (a ∷ rest) = a.heard ∷ heards rest

unfoldable fields : List Address → List (List ℕ)
fields [] = []
fields (a ∷ rest) = address_bytes a (is_empty rest) ∷ fields rest

pub length_texts : (v : List Address) → length (texts v) ≡ length v
unfolding texts
length_texts [] = refl
length_texts (a ∷ v) = ap suc (length_texts v)

pub length_heards : (v : List Address) → length (heards v) ≡ length v
unfolding heards
length_heards [] = refl
length_heards (a ∷ v) = ap suc (length_heards v)

pub empty_texts : (v : List Address) → is_empty (texts v) ≡ is_empty v
unfolding texts
empty_texts [] = refl
empty_texts (a ∷ v) = refl

-- the further fields, after an SSID byte b
digis_parsed : (mended : Bool) (v : List Address) (k b : ℕ) (rest : List ℕ) → AllClean mended v → length v ≤ k → odd b ≡ is_empty v
    → digi_fields 6 k b (address_field v ++ rest) ≡ Some (fields v, rest)
unfolding digi_fields address_field fields pick
digis_parsed mended [] zero b rest ok l e = refl
digis_parsed mended [] (suc k) b rest ok l e = rw e
digis_parsed mended (a ∷ v) zero b rest ok l e = absurd (not-suc-le-zero l)
digis_parsed mended (a ∷ v) (suc k) b rest ok l e =
    let f = address_bytes a (is_empty v) in
    rw (e, append_assoc f (address_field v) rest, split_off_lem 7 f (address_field v ++ rest) (address_length mended a ok.0 (is_empty v)), digis_parsed mended v k (get_or f 6 0) rest ok.1 (le_of_suc-le-suc l) (address_last mended a ok.0 (is_empty v)))

heards_in : (mended : Bool) (v : List Address) → AllClean mended v → map (heard_in 6) (fields v) ≡ heards v
unfolding fields heards
heards_in mended [] ok = refl
heards_in mended (a ∷ v) ok = ap₂ (λ (x : Bool) (xs : List Bool). x ∷ xs) (address_heard mended a ok.0 (is_empty v)) (heards_in mended v ok.1)

texts_of : (mended : Bool) (v : List Address) → AllClean mended v → map (addr_call 6) (fields v) ≡ texts v
unfolding fields texts
texts_of mended [] ok = refl
texts_of mended (a ∷ v) ok = ap₂ (λ (x : List ℕ) (xs : List (List ℕ)). x ∷ xs) (address_text mended a ok.0 (is_empty v)) (texts_of mended v ok.1)

text_upper : (mended : Bool) (a : Address) (last : Bool) → CleanCall mended a.letters a.ssid → map upper (addr_call 6 (address_bytes a last)) ≡ call_text a.letters a.ssid
text_upper mended a last ok = ap (map upper) (address_text mended a ok last) ∙ call_upper a.letters a.ssid ok.clean ok.small

-- ---- the frame

-- what a plain frame is parsed into
abbrev pub plain_parsed : {mended : Bool} {d : List ℕ} → Plain mended d → Parsed
plain_parsed f =
    record {
      dest = call_text f.dest.letters f.dest.ssid;
      src = call_text f.src.letters f.src.ssid;
      digis = texts f.digis;
      heard = heards f.digis;
      control = 0x03;
      pid = 0xF0;
      info = f.info;
    }

pub plain_parsed_lem : {mended : Bool} {d : List ℕ} (f : Plain mended d) → parse_of 6 d ≡ Some (plain_parsed f)
unfolding parse_of address_field
plain_parsed_lem {mended} {d} f =
    let a = address_bytes f.dest false in
    let b = address_bytes f.src (is_empty f.digis) in
    let v = address_field f.digis in
    let rest : List ℕ = 0x03 ∷ 0xF0 ∷ f.info in
    rw (f.is, append_assoc a (b ++ v) rest, append_assoc b v rest, split_off_lem 7 a (b ++ (v ++ rest)) (address_length mended f.dest f.clean.0 false), split_off_lem 7 b (v ++ rest) (address_length mended f.src f.clean.1.0 (is_empty f.digis)), digis_parsed mended f.digis 8 (get_or b 6 0) rest f.clean.1.1 f.few (address_last mended f.src f.clean.1.0 (is_empty f.digis)), split_off_lem 2 (0x03 ∷ 0xF0 ∷ []) f.info refl, text_upper mended f.dest false f.clean.0, text_upper mended f.src (is_empty f.digis) f.clean.1.0, texts_of mended f.digis f.clean.1.1, heards_in mended f.digis f.clean.1.1)

-- ---- by the reading

all_both : (mended : Bool) (v : List Address) → AllClean false v → AllClean mended v
all_both mended [] ok = tt
all_both mended (a ∷ v) ok = (clean_both mended a.letters a.ssid ok.0, all_both mended v ok.1)

info_both : (mended : Bool) {typ : ℕ} {info : List ℕ} → PlainInfo false typ info → PlainInfo mended typ info
info_both mended (text e) = text e
info_both mended (binary e) = binary e
info_both mended (body b) = body (body_both mended b)

-- a frame that is plain under the original reading is plain under both
pub plain_both : (mended : Bool) {d : List ℕ} → Plain false d → Plain mended d
plain_both mended f =
    record {
      dest = f.dest;
      src = f.src;
      digis = f.digis;
      info = f.info;
      dest_unheard = f.dest_unheard;
      src_unheard = f.src_unheard;
      clean = all_both mended (f.dest ∷ f.src ∷ f.digis) f.clean;
      few = f.few;
      octets = f.octets;
      is = f.is;
      kind = info_both mended f.kind;
    }
