-- Bytes and their bits.
-- Assumes nothing.
use mathlib.Core.Path.{◌≡◌, refl, sym, ap, ◌∙◌}
use mathlib.Core.Bool.{Bool, false}
use mathlib.Core.List.{List, [], ◌∷◌, ◌++◌, append-nil, append_assoc}
use Prim.Native.Nat.{ℕ, zero, suc, ◌+◌, ◌-◌, ◌*◌, ◌/◌, ◌%◌, ◌^◌, ◌≤◌, ◌<◌, zero-le, suc-le-suc}
use native.Mathlib.Nat.{zero-add, suc-add, not-suc-le-zero, le_of_suc-le-suc, mod-eq_of_lt, sub-zero, suc-sub-suc}
use native.Mathlib.Omega.{arith}
use lib.ListN.{length, get_or, set, take, drop, replicate, length-append, length-set, get_or-append}
use lib.Seq.{sets, take_at, drop_at, drop-nil, drop-append-add, get_or-append-add, get_or-set_same, get_or-set_other}
use Rattle.laws.specs.Bits.{Bytes, odd, bits_of, fit, pack_n, pack, unpack}
use Rattle.laws.proofs.BitLaws.{length_bits, value_bits, value_lt, bits_value, get_d_bits}
use Rattle.laws.proofs.Cases.{by_eq}
use Rattle.laws.proofs.ListLaws.{sets_past, sets_nil, sets_append, sets_out, sets_left}

-- ---- filling up with zeros

length_fit : (n : ℕ) (b : List Bool) → length (fit n b) ≡ n
unfolding fit
length_fit zero b = refl
length_fit (suc n) [] = ap suc (length_fit n [])
length_fit (suc n) (x ∷ b) = ap suc (length_fit n b)

fit_add : (m n : ℕ) (b : List Bool) → fit (m + n) b ≡ fit m b ++ fit n (drop m b)
unfolding fit
fit_add zero n b = rw zero-add
fit_add (suc m) n [] = rw (suc-add, fit_add m n [], drop-nil)
fit_add (suc m) n (x ∷ b) = rw (suc-add, fit_add m n b)

fit_all : (n : ℕ) (b : List Bool) → length b ≤ n → fit n b ≡ b ++ replicate (n - length b) false
unfolding fit
fit_all zero [] h = refl
fit_all zero (x ∷ b) h = absurd (not-suc-le-zero h)
fit_all (suc n) [] h = rw (fit_all n [] zero-le, sub-zero, sub-zero)
fit_all (suc n) (x ∷ b) h = rw (fit_all n b (le_of_suc-le-suc h), suc-sub-suc)

pub fit_take : (n : ℕ) (b : List Bool) → n ≤ length b → fit n b ≡ take n b
unfolding fit
fit_take zero b h = refl
fit_take (suc n) [] h = absurd (not-suc-le-zero h)
fit_take (suc n) (x ∷ b) h = ap (λ (l : List Bool). x ∷ l) (fit_take n b (le_of_suc-le-suc h))

fit_at : (p q : List Bool) (n : ℕ) → length p ≡ n → fit n (p ++ q) ≡ p
fit_at p q n e = fit_take n (p ++ q) (omega (arith, length-append p q)) ∙ take_at p q n e

-- ---- packing and unpacking

pub length_unpack : (s : List ℕ) → length (unpack s) ≡ length s * 8
unfolding unpack
length_unpack [] = refl
length_unpack (x ∷ s) = rw (length-append, length_bits, length_unpack s) (omega arith)

pub length_pack_n : (k : ℕ) (b : List Bool) → length (pack_n k b) ≡ k
unfolding pack_n
length_pack_n zero b = refl
length_pack_n (suc k) b = ap suc (length_pack_n k (drop 8 b))

pub length_pack : (b : List Bool) → length (pack b) ≡ (length b + 7) / 8
unfolding pack
length_pack b = length_pack_n ((length b + 7) / 8) b

pub unpack_pack_n : (k : ℕ) (b : List Bool) → unpack (pack_n k b) ≡ fit (k * 8) b
unfolding unpack pack_n fit
unpack_pack_n zero b = refl
unpack_pack_n (suc k) b =
    let e : suc k * 8 ≡ 8 + k * 8 = omega arith in
    rw (e, bits_value 8 (fit 8 b) (length_fit 8 b), unpack_pack_n k (drop 8 b), fit_add 8 (k * 8) b)

-- packing fills up with zeros
pub unpack_pack : (b : List Bool) → unpack (pack b) ≡ b ++ replicate ((length b + 7) / 8 * 8 - length b) false
unfolding pack
unpack_pack b = unpack_pack_n ((length b + 7) / 8) b ∙ fit_all ((length b + 7) / 8 * 8) b (omega arith)

-- and nothing where the bits are whole bytes
pub unpack_whole : (b : List Bool) → length b % 8 ≡ 0 → unpack (pack b) ≡ b
unpack_whole b h =
    let e : (length b + 7) / 8 * 8 - length b ≡ 0 = omega arith in
    unpack_pack b ∙ rw e (append-nil b)

-- whole bytes in front of other bits
pub pack_n_front : (s : List ℕ) (r : List Bool) → Bytes s → pack_n (length s) (unpack s ++ r) ≡ s
unfolding unpack pack_n
pack_n_front [] r h = refl
pack_n_front (x ∷ s) r h =
    rw (append_assoc (bits_of 8 x) (unpack s) r, fit_at (bits_of 8 x) (unpack s ++ r) 8 (length_bits 8 x), value_bits, mod-eq_of_lt (h zero (omega arith)), drop_at (bits_of 8 x) (unpack s ++ r) 8 (length_bits 8 x), pack_n_front s r (λ i k. h (suc i) (suc-le-suc k)))

pub pack_unpack : (s : List ℕ) → Bytes s → pack (unpack s) ≡ s
unfolding pack
pack_unpack s h =
    let e : (length (unpack s) + 7) / 8 ≡ length s = omega (arith, length_unpack s) in
    rw e (rw (append-nil (unpack s)) at (pack_n_front s [] h))

-- bytes with the same bits are the same
pub unpack_inj : (s t : List ℕ) → Bytes s → Bytes t → unpack s ≡ unpack t → s ≡ t
unpack_inj s t hs ht e = sym (pack_unpack s hs) ∙ ap pack e ∙ pack_unpack t ht

pub unpack_append : (s t : List ℕ) → unpack (s ++ t) ≡ unpack s ++ unpack t
unfolding unpack
unpack_append [] t = refl
unpack_append (x ∷ s) t = rw (unpack_append s t, append_assoc)

pub unpack_drop : (k : ℕ) (s : List ℕ) → unpack (drop k s) ≡ drop (k * 8) (unpack s)
unfolding unpack
unpack_drop zero s = refl
unpack_drop (suc k) [] = rw drop-nil
unpack_drop (suc k) (x ∷ s) =
    let e : suc k * 8 ≡ length (bits_of 8 x) + k * 8 = omega (arith, length_bits 8 x) in
    rw (e, drop-append-add (bits_of 8 x) (unpack s) (k * 8)) (unpack_drop k s)

-- ---- one bit of bytes: position i * 8 + m is bit m of byte i, from the front

get_d_unpack : (s : List ℕ) (i m j : ℕ) → m + suc j ≡ 8 → i < length s → get_or (unpack s) (i * 8 + m) false ≡ odd (get_or s i 0 / 2 ^ j)
unfolding unpack
get_d_unpack [] i m j e h = absurd (not-suc-le-zero h)
get_d_unpack (x ∷ s) zero m j e h =
    rw (zero-add m, get_or-append (bits_of 8 x) (unpack s) false m (omega (arith, length_bits 8 x))) (get_d_bits 8 m j x e)
get_d_unpack (x ∷ s) (suc i) m j e h =
    let q : suc i * 8 + m ≡ length (bits_of 8 x) + (i * 8 + m) = omega (arith, length_bits 8 x) in
    rw (q, get_or-append-add (bits_of 8 x) (unpack s) (i * 8 + m) false) (get_d_unpack s i m j e (le_of_suc-le-suc h))

pub get_unpack : (s : List ℕ) (at : ℕ) → at < length s * 8 → get_or (unpack s) at false ≡ odd (get_or s (at / 8) 0 / 2 ^ (7 - at % 8))
get_unpack s at h =
    let e : at / 8 * 8 + at % 8 ≡ at = omega arith in
    rw e at (get_d_unpack s (at / 8) (at % 8) (7 - at % 8) (omega arith) (omega arith))

-- a byte y in the place of byte i, of which it has all bits but those from bit m on that are stored
set_unpack : (s : List ℕ) (i m y : ℕ) (b : List Bool) → m + length b ≤ 8 → i < length s → bits_of 8 y ≡ sets (bits_of 8 (get_or s i 0)) m b
    → unpack (set s i y) ≡ sets (unpack s) (i * 8 + m) b
unfolding unpack
set_unpack [] i m y b l h e = absurd (not-suc-le-zero h)
set_unpack (x ∷ s) zero m y b l h e =
    rw (zero-add m, e) (sym (sets_left (bits_of 8 x) (unpack s) m b (omega (arith, length_bits 8 x))))
set_unpack (x ∷ s) (suc i) m y b l h e =
    let q : suc i * 8 + m ≡ length (bits_of 8 x) + (i * 8 + m) = omega (arith, length_bits 8 x) in
    rw (q, sets_past (bits_of 8 x) (unpack s) (i * 8 + m) b, set_unpack s i m y b l (le_of_suc-le-suc h) e)

pub put_unpack : (s : List ℕ) (at y : ℕ) (b : List Bool) → at % 8 + length b ≤ 8 → at / 8 < length s
    → bits_of 8 y ≡ sets (bits_of 8 (get_or s (at / 8) 0)) (at % 8) b → unpack (set s (at / 8) y) ≡ sets (unpack s) at b
put_unpack s at y b l h f =
    let e : at / 8 * 8 + at % 8 ≡ at = omega arith in
    rw e at (set_unpack s (at / 8) (at % 8) y b l h f)

-- past the end nothing is stored
pub bits_past : (s : List ℕ) (at : ℕ) (b : List Bool) → length s ≤ at / 8 → sets (unpack s) at b ≡ unpack s
bits_past s at b h = sets_out (unpack s) at b (omega (arith, length_unpack s))

-- ---- bytes stored as their bits

pub set_bits : (s : List ℕ) (i x : ℕ) → unpack (set s i x) ≡ sets (unpack s) (i * 8) (bits_of 8 x)
unfolding unpack
set_bits [] i x = sym (sets_nil (i * 8) (bits_of 8 x))
set_bits (y ∷ s) zero x = unfold bits_of in refl
set_bits (y ∷ s) (suc i) x =
    let e : suc i * 8 ≡ length (bits_of 8 y) + i * 8 = omega (arith, length_bits 8 y) in
    rw (e, sets_past (bits_of 8 y) (unpack s) (i * 8) (bits_of 8 x), set_bits s i x)

pub sets_bits : (s : List ℕ) (i : ℕ) (v : List ℕ) → unpack (sets s i v) ≡ sets (unpack s) (i * 8) (unpack v)
unfolding unpack
sets_bits s i [] = refl
sets_bits s i (x ∷ v) =
    let e : i * 8 + length (bits_of 8 x) ≡ suc i * 8 = omega (arith, length_bits 8 x) in
    rw (sets_bits (set s i x) (suc i) v, set_bits s i x, sets_append (unpack s) (i * 8) (bits_of 8 x) (unpack v), e)

-- ---- lists of bytes

pub bytes_set : (s : List ℕ) (i x : ℕ) → Bytes s → x < 256 → Bytes (set s i x)
bytes_set s i x h k j l =
    by_eq j i
    (λ e. rw (e, get_or-set_same s i x 0 (omega (arith, length-set s i x))) k)
    (λ n. rw (get_or-set_other s i j x 0 n) (h j (omega (arith, length-set s i x))))

bytes_sets : (s : List ℕ) (i : ℕ) (v : List ℕ) → Bytes s → Bytes v → Bytes (sets s i v)
bytes_sets s i [] h k = h
bytes_sets s i (x ∷ v) h k = bytes_sets (set s i x) (suc i) v (bytes_set s i x h (k zero (omega arith))) (λ j l. k (suc j) (suc-le-suc l))

-- bytes whose bits were stored are stored
pub bytes_stored : (s t : List ℕ) (i : ℕ) (v : List ℕ) → Bytes s → Bytes t → Bytes v → unpack t ≡ sets (unpack s) (i * 8) (unpack v) → t ≡ sets s i v
bytes_stored s t i v hs ht hv e = unpack_inj t (sets s i v) ht (bytes_sets s i v hs hv) (e ∙ sym (sets_bits s i v))

pub bytes_pack_n : (n : ℕ) (b : List Bool) → Bytes (pack_n n b)
unfolding pack_n
bytes_pack_n zero b j l = absurd (not-suc-le-zero l)
bytes_pack_n (suc n) b zero l = rw (length_fit 8 b) at (value_lt (fit 8 b))
bytes_pack_n (suc n) b (suc j) l = bytes_pack_n n (drop 8 b) j (le_of_suc-le-suc l)

pub bytes_pack : (b : List Bool) → Bytes (pack b)
unfolding pack
bytes_pack b = bytes_pack_n ((length b + 7) / 8) b
