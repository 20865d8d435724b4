-- The division goes through exclusive-or: what it makes of two numbers together is what it makes of each, joined.
-- Assumes nothing.
use mathlib.Core.Path.{◌≡◌, refl, sym, ap, ap₂, ◌∙◌}
use mathlib.Core.List.{List, [], ◌∷◌, ◌++◌}
use Prim.Native.Nat.{ℕ, zero, suc, ◌+◌, ◌*◌, ◌/◌, ◌%◌, ◌^◌, ◌≤◌, ◌<◌}
use native.Mathlib.Nat.{le_of_suc-le-suc, not-suc-le-zero, zero-add, suc-add, add-zero, div-add-mod', mul_assoc, pow-suc, mul-le-mul_left}
use native.Mathlib.Numerals.{add-one}
use native.Mathlib.Omega.{arith}
use lib.Arith.{bin_ind}
use lib.Bits.{bit_xor, xor_comm, xor_self, xor_lt, xor_block, xor_shifted, xor_shr, xor_mod}
use lib.ListN.{length, get_or, take, drop, length-append, drop_of_length-le}
use lib.Pow.{pow_mono}
use lib.Seq.{drop-cons, take-add, take-suc, take_all, take-append-add}
use borrow.Author.Tests.{le-leb, lt-leb}
use Rattle.laws.specs.Pick.{pick}
use Rattle.laws.proofs.Cases.{by_le}
use Rattle.crc.specs.Crc.{poly, crc_bit, crc_steps, crc_byte, crc_from}
use Rattle.crc.specs.Rows.{pair_of}

-- ---- exclusive-or

xor_parts : (a b : ℕ) → bit_xor a b ≡ bit_xor (a / 2) (b / 2) * 2 + bit_xor (a % 2) (b % 2)
xor_parts a b =
    ap₂ bit_xor (sym (div-add-mod' a 2)) (sym (div-add-mod' b 2))
    ∙ xor_block 1 (a / 2) (b / 2) (a % 2) (b % 2) (omega arith) (omega arith)

digit_assoc : (x y z : ℕ) → x < 2 → y < 2 → z < 2 → bit_xor (bit_xor x y) z ≡ bit_xor x (bit_xor y z)
digit_assoc zero y z hx hy hz = refl
digit_assoc (suc zero) zero z hx hy hz = refl
digit_assoc (suc zero) (suc zero) zero hx hy hz = refl
digit_assoc (suc zero) (suc zero) (suc zero) hx hy hz = refl
digit_assoc (suc zero) (suc zero) (suc (suc z)) hx hy hz = absurd (not-suc-le-zero (le_of_suc-le-suc (le_of_suc-le-suc hz)))
digit_assoc (suc zero) (suc (suc y)) z hx hy hz = absurd (not-suc-le-zero (le_of_suc-le-suc (le_of_suc-le-suc hy)))
digit_assoc (suc (suc x)) y z hx hy hz = absurd (not-suc-le-zero (le_of_suc-le-suc (le_of_suc-le-suc hx)))

pub xor_assoc : (a b c : ℕ) → bit_xor (bit_xor a b) c ≡ bit_xor a (bit_xor b c)
xor_assoc a =
    bin_ind (λ (n : ℕ). (b c : ℕ) → bit_xor (bit_xor n b) c ≡ bit_xor n (bit_xor b c)) (λ b c. refl)
    (λ n ih b c.
    xor_parts (bit_xor n b) c
    ∙ ap₂ (λ (x y : ℕ). bit_xor x (c / 2) * 2 + bit_xor y (c % 2)) (xor_shr n b 1) (xor_mod n b 1)
    ∙ ap₂ (λ (x y : ℕ). x * 2 + y) (ih (b / 2) (c / 2)) (digit_assoc (n % 2) (b % 2) (c % 2) (omega arith) (omega arith) (omega arith))
    ∙ sym (ap₂ (λ (x y : ℕ). bit_xor (n / 2) x * 2 + bit_xor (n % 2) y) (xor_shr b c 1) (xor_mod b c 1))
    ∙ sym (xor_parts n (bit_xor b c)))
    a

-- the same on both sides goes away
xor_cancel : (a b p : ℕ) → bit_xor (bit_xor a p) (bit_xor b p) ≡ bit_xor a b
xor_cancel a b p =
    xor_assoc a p (bit_xor b p)
    ∙ ap (bit_xor a) (ap (bit_xor p) (xor_comm b p) ∙ sym (xor_assoc p p b) ∙ ap (λ (x : ℕ). bit_xor x b) (xor_self p))

-- on the left it may go to the end
xor_swap : (a b p : ℕ) → bit_xor (bit_xor a p) b ≡ bit_xor (bit_xor a b) p
xor_swap a b p = xor_assoc a p b ∙ ap (bit_xor a) (xor_comm p b) ∙ sym (xor_assoc a b p)

pub xor_cross : (a b c d : ℕ) → bit_xor (bit_xor a b) (bit_xor c d) ≡ bit_xor (bit_xor a c) (bit_xor b d)
xor_cross a b c d = sym (xor_assoc (bit_xor a b) c d) ∙ ap (λ (x : ℕ). bit_xor x d) (xor_swap a c b) ∙ xor_assoc (bit_xor a c) b d

-- two halves of 16 bits
pub xor_halves : (h l : ℕ) → l < 256 → bit_xor (h * 256) l ≡ h * 256 + l
xor_halves h l k = xor_shifted h 8 l k

pub xor_high : (a b : ℕ) → bit_xor (a * 256) (b * 256) ≡ bit_xor a b * 256
xor_high a b =
    ap₂ bit_xor (sym (add-zero (a * 256))) (sym (add-zero (b * 256)))
    ∙ xor_block 8 a b 0 0 (omega arith) (omega arith)
    ∙ add-zero (bit_xor a b * 256)

-- ---- one step

abbrev twice : ℕ → ℕ
twice c = c * 2 % 0x10000

step_high : (c : ℕ) → 0x8000 ≤ c → crc_bit c ≡ bit_xor (twice c) poly
unfolding crc_bit pick
step_high c h = simp (le-leb 0x8000 c h)

pub step_low : (c : ℕ) → c < 0x8000 → crc_bit c ≡ twice c
unfolding crc_bit pick
step_low c h = simp (lt-leb 0x8000 c h)

twice_xor : (x y : ℕ) → bit_xor (twice x) (twice y) ≡ twice (bit_xor x y)
twice_xor x y =
    sym (xor_mod (x * 2) (y * 2) 16)
    ∙ ap (λ (z : ℕ). z % 0x10000)
    (ap₂ bit_xor (sym (add-zero (x * 2))) (sym (add-zero (y * 2)))
    ∙ xor_block 1 x y 0 0 (omega arith) (omega arith)
    ∙ add-zero (bit_xor x y * 2))

step_lt : (c : ℕ) → crc_bit c < 0x10000
step_lt c =
    by_le 0x8000 c
    (λ h. rw (step_high c h) (xor_lt 16 (twice c) poly (omega arith) (omega arith)))
    (λ h. rw (step_low c h) (omega arith))

-- the top bit of both together, by the top bits of each
top : (x y a b : ℕ) → x / 0x8000 ≡ a → y / 0x8000 ≡ b → bit_xor x y / 0x8000 ≡ bit_xor a b
top x y a b e f = xor_shr x y 15 ∙ ap₂ bit_xor e f

pub step_xor : (x y : ℕ) → x < 0x10000 → y < 0x10000 → crc_bit (bit_xor x y) ≡ bit_xor (crc_bit x) (crc_bit y)
step_xor x y hx hy =
    by_le 0x8000 x
    (λ p. by_le 0x8000 y
    (λ q. let t = top x y 1 1 (omega arith) (omega arith) in
    rw (step_high x p, step_high y q, step_low (bit_xor x y) (omega (arith, t)), xor_cancel (twice x) (twice y) poly, twice_xor x y))
    (λ q. let t = top x y 1 0 (omega arith) (omega arith) in
    rw (step_high x p, step_low y q, step_high (bit_xor x y) (omega (arith, t)), xor_swap (twice x) (twice y) poly, twice_xor x y)))
    (λ p. by_le 0x8000 y
    (λ q. let t = top x y 0 1 (omega arith) (omega arith) in
    rw (step_low x p, step_high y q, step_high (bit_xor x y) (omega (arith, t)), ← twice_xor x y) (xor_assoc (twice x) (twice y) poly))
    (λ q. let t = top x y 0 0 (omega arith) (omega arith) in
    rw (step_low x p, step_low y q, step_low (bit_xor x y) (omega (arith, t)), twice_xor x y)))

-- ---- any number of steps

pub steps_lt : (k c : ℕ) → c < 0x10000 → crc_steps k c < 0x10000
unfolding crc_steps
steps_lt zero c h = h
steps_lt (suc k) c h = step_lt (crc_steps k c)

pub steps_xor : (k x y : ℕ) → x < 0x10000 → y < 0x10000 → crc_steps k (bit_xor x y) ≡ bit_xor (crc_steps k x) (crc_steps k y)
unfolding crc_steps
steps_xor zero x y hx hy = refl
steps_xor (suc k) x y hx hy =
    ap crc_bit (steps_xor k x y hx hy) ∙ step_xor (crc_steps k x) (crc_steps k y) (steps_lt k x hx) (steps_lt k y hy)

pub steps_add : (j k c : ℕ) → crc_steps (j + k) c ≡ crc_steps j (crc_steps k c)
unfolding crc_steps
steps_add zero k c = rw zero-add
steps_add (suc j) k c = rw (suc-add, steps_add j k c)

-- the low half goes up unchanged
small_steps : (k l : ℕ) → k ≤ 8 → l < 256 → crc_steps k l ≡ l * 2 ^ k
unfolding crc_steps
small_steps zero l h s = omega arith
small_steps (suc k) l h s =
    let p : 2 ^ k ≤ 2 ^ 7 = pow_mono (le_of_suc-le-suc h) in
    let b : l * 2 ^ k ≤ l * 2 ^ 7 = mul-le-mul_left l p in
    ap crc_bit (small_steps k l (omega arith) s) ∙ step_low (l * 2 ^ k) (omega arith) ∙ rw (pow-suc, ← mul_assoc l (2 ^ k) 2) (omega arith)

pub low_up : (l : ℕ) → l < 256 → crc_steps 8 l ≡ l * 256
low_up l h = small_steps 8 l (omega arith) h

-- the low four bits of a byte, four steps on
four_up : (l : ℕ) → l < 16 → crc_steps 4 (l * 256) ≡ l * 4096
unfolding crc_steps
four_up l h =
    let one : crc_bit (l * 256) ≡ l * 512 = step_low (l * 256) (omega arith) ∙ omega arith in
    let two : crc_bit (l * 512) ≡ l * 1024 = step_low (l * 512) (omega arith) ∙ omega arith in
    let three : crc_bit (l * 1024) ≡ l * 2048 = step_low (l * 1024) (omega arith) ∙ omega arith in
    let four : crc_bit (l * 2048) ≡ l * 4096 = step_low (l * 2048) (omega arith) ∙ omega arith in
    rw (one, two, three, four)

-- a byte by its two halves
pub nibbles : (k b : ℕ) → b < 256 → crc_steps ((k + 1) * 8) (b * 256) ≡ bit_xor (crc_steps ((k * 2 + 1 + 1) * 4) (b / 16 * 4096)) (crc_steps ((k * 2 + 1) * 4) (b % 16 * 4096))
nibbles k b h =
    let e : b * 256 ≡ bit_xor (b / 16 * 4096) (b % 16 * 256) = omega (arith, xor_shifted (b / 16) 12 (b % 16 * 256) (omega arith)) in
    let f : (k + 1) * 8 ≡ (k * 2 + 1) * 4 + 4 = omega arith in
    let g : (k * 2 + 1 + 1) * 4 ≡ (k + 1) * 8 = omega arith in
    rw (e, g)
    (steps_xor ((k + 1) * 8) (b / 16 * 4096) (b % 16 * 256) (omega arith) (omega arith)
    ∙ ap (bit_xor (crc_steps ((k + 1) * 8) (b / 16 * 4096)))
    (ap (λ (n : ℕ). crc_steps n (b % 16 * 256)) f ∙ steps_add ((k * 2 + 1) * 4) 4 (b % 16 * 256) ∙ ap (crc_steps ((k * 2 + 1) * 4)) (four_up (b % 16) (omega arith))))

-- ---- bytes

-- a byte joins what the one before left
pub byte_joins : (c b : ℕ) → c < 0x10000 → b < 256 → crc_byte c b ≡ bit_xor (crc_steps 8 c) (crc_steps 8 (b * 256))
unfolding crc_byte
byte_joins c b hc hb = steps_xor 8 c (b * 256) hc (omega arith)

-- two bytes more, apart from what came before them
pub two_join : (c a b : ℕ) → c < 0x10000 → a < 256 → b < 256 → crc_byte (crc_byte c a) b ≡ bit_xor (crc_steps 16 c) (pair_of 0 a b)
unfolding pair_of
two_join c a b hc ha hb =
    let s : crc_steps 8 c < 0x10000 = steps_lt 8 c hc in
    let t : crc_steps 8 (a * 256) < 0x10000 = steps_lt 8 (a * 256) (omega arith) in
    let j : crc_byte c a ≡ bit_xor (crc_steps 8 c) (crc_steps 8 (a * 256)) = byte_joins c a hc ha in
    rw j
    (byte_joins (bit_xor (crc_steps 8 c) (crc_steps 8 (a * 256))) b (xor_lt 16 (crc_steps 8 c) (crc_steps 8 (a * 256)) s t) hb
    ∙ ap (λ (x : ℕ). bit_xor x (crc_steps 8 (b * 256)))
    (steps_xor 8 (crc_steps 8 c) (crc_steps 8 (a * 256)) s t ∙ sym (ap₂ bit_xor (steps_add 8 8 c) (steps_add 8 8 (a * 256))))
    ∙ xor_assoc (crc_steps 16 c) (crc_steps 16 (a * 256)) (crc_steps 8 (b * 256)))

-- the halves of what came before are a pair
pair_halves : (h l : ℕ) → h < 256 → l < 256 → crc_steps 16 (bit_xor (h * 256) l) ≡ pair_of 0 h l
unfolding pair_of
pair_halves h l hh hl =
    steps_xor 16 (h * 256) l (omega arith) (omega arith)
    ∙ ap (bit_xor (crc_steps 16 (h * 256))) (steps_add 8 8 l ∙ ap (crc_steps 8) (low_up l hl))

-- the same steps of two bytes, joined
steps_join : (k a b : ℕ) → a < 256 → b < 256 → bit_xor (crc_steps k (a * 256)) (crc_steps k (b * 256)) ≡ crc_steps k (bit_xor a b * 256)
steps_join k a b ha hb = sym (steps_xor k (a * 256) (b * 256) (omega arith) (omega arith)) ∙ ap (crc_steps k) (xor_high a b)

pairs_join : (h l a b : ℕ) → h < 256 → l < 256 → a < 256 → b < 256 → bit_xor (pair_of 0 h l) (pair_of 0 a b) ≡ pair_of 0 (bit_xor h a) (bit_xor l b)
unfolding pair_of
pairs_join h l a b hh hl ha hb =
    xor_cross (crc_steps 16 (h * 256)) (crc_steps 8 (l * 256)) (crc_steps 16 (a * 256)) (crc_steps 8 (b * 256))
    ∙ ap₂ bit_xor (steps_join 16 h a hh ha) (steps_join 8 l b hl hb)

-- the halves of what came before join the two bytes
pub two_first : (c a b : ℕ) → c < 0x10000 → a < 256 → b < 256 → crc_byte (crc_byte c a) b ≡ pair_of 0 (bit_xor (c / 256) a) (bit_xor (c % 256) b)
two_first c a b hc ha hb =
    let h = c / 256 in
    let l = c % 256 in
    let e : c ≡ bit_xor (h * 256) l = omega (arith, xor_halves h l (omega arith)) in
    two_join c a b hc ha hb
    ∙ ap (λ (x : ℕ). bit_xor (crc_steps 16 x) (pair_of 0 a b)) e
    ∙ ap (λ (x : ℕ). bit_xor x (pair_of 0 a b)) (pair_halves h l (omega arith) (omega arith))
    ∙ pairs_join h l a b (omega arith) (omega arith) ha hb

-- two bytes of zeros more after a pair
pub pair_on : (k a b : ℕ) → a < 256 → b < 256 → crc_steps 16 (pair_of k a b) ≡ pair_of (k + 2) a b
unfolding pair_of
pair_on k a b ha hb =
    let e : (k + 2 + 2) * 8 ≡ 16 + (k + 2) * 8 = omega arith in
    let f : (k + 2 + 1) * 8 ≡ 16 + (k + 1) * 8 = omega arith in
    steps_xor 16 (crc_steps ((k + 2) * 8) (a * 256)) (crc_steps ((k + 1) * 8) (b * 256)) (steps_lt ((k + 2) * 8) (a * 256) (omega arith)) (steps_lt ((k + 1) * 8) (b * 256) (omega arith))
    ∙ sym (rw (e, f) (ap₂ bit_xor (steps_add 16 ((k + 2) * 8) (a * 256)) (steps_add 16 ((k + 1) * 8) (b * 256))))

pub pair_lt : (k a b : ℕ) → a < 256 → b < 256 → pair_of k a b < 0x10000
unfolding pair_of
pair_lt k a b ha hb =
    xor_lt 16 (crc_steps ((k + 2) * 8) (a * 256)) (crc_steps ((k + 1) * 8) (b * 256))
    (steps_lt ((k + 2) * 8) (a * 256) (omega arith))
    (steps_lt ((k + 1) * 8) (b * 256) (omega arith))

-- two bytes more after two numbers that are joined
joined_on : (x y a b : ℕ) → x < 0x10000 → y < 0x10000 → a < 256 → b < 256
    → crc_byte (crc_byte (bit_xor x y) a) b ≡ bit_xor (bit_xor (crc_steps 16 x) (crc_steps 16 y)) (pair_of 0 a b)
joined_on x y a b hx hy ha hb =
    two_join (bit_xor x y) a b (xor_lt 16 x y hx hy) ha hb ∙ ap (λ (z : ℕ). bit_xor z (pair_of 0 a b)) (steps_xor 16 x y hx hy)

-- the first pair may come last
first_last : (f a b d : ℕ) → bit_xor (bit_xor (bit_xor f a) b) d ≡ bit_xor (bit_xor (bit_xor a b) d) f
first_last f a b d =
    ap (λ (x : ℕ). bit_xor x d) (xor_assoc f a b) ∙ xor_assoc f (bit_xor a b) d ∙ xor_comm f (bit_xor (bit_xor a b) d)

-- four pairs of bytes, the first joined with what came before
pub fours : (c a b d e f g h i : ℕ) → c < 0x10000 → (a < 256) × (b < 256) → (d < 256) × (e < 256) → (f < 256) × (g < 256) → (h < 256) × (i < 256)
    → crc_from c (a ∷ b ∷ d ∷ e ∷ f ∷ g ∷ h ∷ i ∷ [])
    ≡ bit_xor (bit_xor (bit_xor (pair_of 4 d e) (pair_of 2 f g)) (pair_of 0 h i)) (pair_of 6 (bit_xor (c / 256) a) (bit_xor (c % 256) b))
unfolding crc_from
fours c a b d e f g h i hc k1 k2 k3 k4 =
    let x = bit_xor (c / 256) a in
    let y = bit_xor (c % 256) b in
    let hx : x < 256 = xor_lt 8 (c / 256) a (omega arith) k1.0 in
    let hy : y < 256 = xor_lt 8 (c % 256) b (omega arith) k1.1 in
    let first = pair_lt 2 x y hx hy in
    let second = pair_lt 0 d e k2.0 k2.1 in
    rw (
      two_first c a b hc k1.0 k1.1,
      two_join (pair_of 0 x y) d e (pair_lt 0 x y hx hy) k2.0 k2.1,
      pair_on 0 x y hx hy,
      joined_on (pair_of 2 x y) (pair_of 0 d e) f g first second k3.0 k3.1,
      pair_on 2 x y hx hy,
      pair_on 0 d e k2.0 k2.1,
      joined_on (bit_xor (pair_of 4 x y) (pair_of 2 d e)) (pair_of 0 f g) h i
          (xor_lt 16 (pair_of 4 x y) (pair_of 2 d e) (pair_lt 4 x y hx hy) (pair_lt 2 d e k2.0 k2.1))
          (pair_lt 0 f g k3.0 k3.1) k4.0 k4.1,
      steps_xor 16 (pair_of 4 x y) (pair_of 2 d e) (pair_lt 4 x y hx hy) (pair_lt 2 d e k2.0 k2.1),
      pair_on 4 x y hx hy,
      pair_on 2 d e k2.0 k2.1,
      pair_on 0 f g k3.0 k3.1,
    )
    (first_last (pair_of 6 x y) (pair_of 4 d e) (pair_of 2 f g) (pair_of 0 h i))

-- eight bytes, one by one
pub eight : (l : List ℕ) → length l ≡ 8
    → l ≡ get_or l 0 0 ∷ get_or l 1 0 ∷ get_or l 2 0 ∷ get_or l 3 0 ∷ get_or l 4 0 ∷ get_or l 5 0 ∷ get_or l 6 0 ∷ get_or l 7 0 ∷ []
eight l h =
    let all : length l ≤ 8 = omega arith in
    let none : drop 8 l ≡ [] = drop_of_length-le l all in
    next 0 (omega arith) (next 1 (omega arith) (next 2 (omega arith) (next 3 (omega arith) (next 4 (omega arith) (next 5 (omega arith) (next 6 (omega arith) (next 7 (omega arith) none)))))))
  where
    next : (k : ℕ) → k < length l → {r : List ℕ} → drop (suc k) l ≡ r → drop k l ≡ get_or l k 0 ∷ r
    next k lt e = drop-cons l k 0 lt ∙ ap (λ (t : List ℕ). get_or l k 0 ∷ t) e

-- ---- bytes one after another

pub from_append : (c : ℕ) (a b : List ℕ) → crc_from c (a ++ b) ≡ crc_from (crc_from c a) b
unfolding crc_from
from_append c [] b = refl
from_append c (x ∷ a) b = from_append (crc_byte c x) a b

-- n bytes more of a list
pub from_more : (c i n : ℕ) (l : List ℕ) → crc_from c (take (i + n) l) ≡ crc_from (crc_from c (take i l)) (take n (drop i l))
from_more c i n l = rw (take-add i n l) (from_append c (take i l) (take n (drop i l)))

pub from_one : (c i : ℕ) (l : List ℕ) → i < length l → crc_from c (take (i + 1) l) ≡ crc_byte (crc_from c (take i l)) (get_or l i 0)
unfolding crc_from
from_one c i l h = rw (add-one, take-suc l i 0 h) (from_append c (take i l) (get_or l i 0 ∷ []))

-- n bytes x, and then the first j of those that follow
from_group : (c n k j : ℕ) (l x r : List ℕ) → l ≡ x ++ r → length x ≡ n → k ≡ n + j → crc_from c (take k l) ≡ crc_from (crc_from c x) (take j r)
from_group c n k j l x r e h q =
    ap₂ (λ (m : ℕ) (s : List ℕ). crc_from c (take m s)) (q ∙ ap (λ (m : ℕ). m + j) (sym h)) e
    ∙ ap (crc_from c) (take-append-add x r j)
    ∙ from_append c x (take j r)

-- what the whole groups of eight bytes in l come to after c
abbrev pub eights_of : ℕ → List ℕ → ℕ
eights_of c l = crc_from c (take (length l / 8 * 8) l)

-- the first of them, and then the others
pub eights_on : (c : ℕ) (l x r : List ℕ) → l ≡ x ++ r → length x ≡ 8 → eights_of c l ≡ eights_of (crc_from c x) r
eights_on c l x r e h = from_group c 8 (length l / 8 * 8) (length r / 8 * 8) l x r e h (omega (arith, ap length e, length-append x r))

pub eights_end : (c : ℕ) (l : List ℕ) → length l < 8 → eights_of c l ≡ c
unfolding crc_from
eights_end c l h = let e : length l / 8 * 8 ≡ 0 = omega arith in ap (λ (n : ℕ). crc_from c (take n l)) e

-- k groups are all of them
pub eights_all : (c k : ℕ) (l : List ℕ) → length l ≡ k * 8 → eights_of c l ≡ crc_from c l
eights_all c k l h = ap (crc_from c) (take_all (length l / 8 * 8) l (omega arith))

-- the same of 128 bytes
abbrev pub blocks_of : ℕ → List ℕ → ℕ
blocks_of c l = crc_from c (take (length l / 128 * 128) l)

pub blocks_on : (c : ℕ) (l x r : List ℕ) → l ≡ x ++ r → length x ≡ 128 → blocks_of c l ≡ blocks_of (crc_from c x) r
blocks_on c l x r e h = from_group c 128 (length l / 128 * 128) (length r / 128 * 128) l x r e h (omega (arith, ap length e, length-append x r))

pub blocks_end : (c : ℕ) (l : List ℕ) → length l < 128 → blocks_of c l ≡ c
unfolding crc_from
blocks_end c l h = let e : length l / 128 * 128 ≡ 0 = omega arith in ap (λ (n : ℕ). crc_from c (take n l)) e
