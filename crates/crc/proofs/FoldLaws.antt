-- The fold. Over two elements the polynomial's 64th power is the polynomial in x ^ 64, so 1024 steps come to 768 steps, 320 and none, joined:
-- a byte with 128 after it may be left out where those 32, 88 and 128 places on are joined with it.
-- Assumes nothing.
use mathlib.Core.Path.{◌≡◌, refl, sym, ap, ap₂, ◌∙◌}
use mathlib.Core.List.{List, [], ◌∷◌, ◌++◌, append_assoc, append-nil}
use Prim.Native.Nat.{ℕ, zero, suc, ◌+◌, ◌-◌, ◌*◌, ◌/◌, ◌%◌, ◌≤◌, ◌<◌}
use native.Mathlib.Nat.{le_of_suc-le-suc, not-suc-le-zero}
use native.Mathlib.Numerals.{add-one}
use native.Mathlib.Omega.{arith}
use lib.Arith.{bin_ind}
use lib.Bits.{bit_xor, xor_comm, xor_self, xor_lt, xor_zero_l, xor_zero_r, xor_shifted}
use lib.ListN.{length, get_or, take, drop, take-append-drop, set, replicate, get_or-replicate, length-append, length-take, length-drop, length-set, drop_of_length-le, get_or-append}
use lib.Seq.{take_all, take-append-le, take-suc, drop-cons, drop-set-lt, take-suc-set, get_or-take, get_or-drop, get_or-append-add, length-take-le}
use Rattle.laws.specs.Bits.{Bytes}
use Rattle.laws.specs.Pick.{pick}
use Rattle.laws.proofs.ByteLaws.{bytes_set}
use Rattle.laws.proofs.Cases.{by_le}
use Rattle.crc.specs.Crc.{start, crc_bit, crc_steps, crc_byte, crc_from}
use Rattle.crc.specs.Fold.{Window, held}
use Rattle.crc.proofs.LinearLaws.{xor_assoc, xor_cross, xor_high, step_low, step_xor, steps_lt, steps_xor, steps_add, from_append, from_more, from_one, eights_of, eights_all}

-- ---- 1024 steps

-- 320, 768 and 1024 steps, joined; that they come to none is computed for the bit 1, and holds of the others since steps change places
unfoldable three : ℕ → ℕ
three c = bit_xor (bit_xor (crc_steps 320 c) (crc_steps 768 c)) (crc_steps 1024 c)

three_zero : three 0 ≡ 0
unfolding three crc_steps crc_bit pick
three_zero = refl

three_one : three 1 ≡ 1
unfolding three crc_steps crc_bit pick
three_one = refl

steps_bit : (k c : ℕ) → crc_steps k (crc_bit c) ≡ crc_bit (crc_steps k c)
unfolding crc_steps
steps_bit zero c = refl
steps_bit (suc k) c = ap crc_bit (steps_bit k c)

three_bit : (c : ℕ) → c < 0x10000 → three (crc_bit c) ≡ crc_bit (three c)
unfolding three
three_bit c h =
    let p = steps_lt 320 c h in
    let q = steps_lt 768 c h in
    rw (steps_bit 320 c, steps_bit 768 c, steps_bit 1024 c)
    (sym (step_xor (bit_xor (crc_steps 320 c) (crc_steps 768 c)) (crc_steps 1024 c) (xor_lt 16 (crc_steps 320 c) (crc_steps 768 c) p q) (steps_lt 1024 c h)
    ∙ ap (λ (x : ℕ). bit_xor x (crc_bit (crc_steps 1024 c))) (step_xor (crc_steps 320 c) (crc_steps 768 c) p q)))

cross_three : (a b c d e f : ℕ) → bit_xor (bit_xor (bit_xor a b) (bit_xor c d)) (bit_xor e f) ≡ bit_xor (bit_xor (bit_xor a c) e) (bit_xor (bit_xor b d) f)
cross_three a b c d e f = ap (λ (x : ℕ). bit_xor x (bit_xor e f)) (xor_cross a b c d) ∙ xor_cross (bit_xor a c) (bit_xor b d) e f

three_xor : (x y : ℕ) → x < 0x10000 → y < 0x10000 → three (bit_xor x y) ≡ bit_xor (three x) (three y)
unfolding three
three_xor x y hx hy =
    rw (steps_xor 320 x y hx hy, steps_xor 768 x y hx hy, steps_xor 1024 x y hx hy)
    (cross_three (crc_steps 320 x) (crc_steps 320 y) (crc_steps 768 x) (crc_steps 768 y) (crc_steps 1024 x) (crc_steps 1024 y))

three_digit : (b : ℕ) → b < 2 → three b ≡ b
three_digit zero h = three_zero
three_digit (suc zero) h = three_one
three_digit (suc (suc b)) h = absurd (not-suc-le-zero (le_of_suc-le-suc (le_of_suc-le-suc h)))

-- by the bits: the last one is 0 or 1, and those before it are one step on from the half
three_all : (c : ℕ) → c < 0x10000 → three c ≡ c
three_all =
    bin_ind (λ (n : ℕ). n < 0x10000 → three n ≡ n) (λ h. three_zero)
    (λ n ih h.
    let s : crc_bit (n / 2) ≡ n / 2 * 2 = omega (arith, step_low (n / 2) (omega arith)) in
    let e : n ≡ bit_xor (crc_bit (n / 2)) (n % 2) = rw s (omega (arith, xor_shifted (n / 2) 1 (n % 2) (omega arith))) in
    ap three e
    ∙ three_xor (crc_bit (n / 2)) (n % 2) (omega arith) (omega arith)
    ∙ ap₂ bit_xor (three_bit (n / 2) (omega arith) ∙ ap crc_bit (ih (omega arith))) (three_digit (n % 2) (omega arith))
    ∙ sym e)

-- ---- bytes

-- what came before the bytes goes through them apart
from_xor : (x y : ℕ) (l : List ℕ) → x < 0x10000 → y < 0x10000 → Bytes l → crc_from (bit_xor x y) l ≡ bit_xor (crc_steps (length l * 8) x) (crc_from y l)
unfolding crc_from crc_steps crc_byte
from_xor x y [] hx hy h = refl
from_xor x y (b ∷ l) hx hy h =
    let hb : b < 256 = h zero (omega arith) in
    let hz : bit_xor y (b * 256) < 0x10000 = xor_lt 16 y (b * 256) hy (omega arith) in
    let e : suc (length l) * 8 ≡ length l * 8 + 8 = omega arith in
    ap (λ (z : ℕ). crc_from z l) (ap (crc_steps 8) (xor_assoc x y (b * 256)) ∙ steps_xor 8 x (bit_xor y (b * 256)) hx hz)
    ∙ from_xor (crc_steps 8 x) (crc_byte y b) l (steps_lt 8 x hx) (steps_lt 8 (bit_xor y (b * 256)) hz) (λ i k. h (suc i) (omega arith))
    ∙ ap (λ (z : ℕ). bit_xor z (crc_from (crc_byte y b) l)) (sym (ap (λ (n : ℕ). crc_steps n x) e ∙ steps_add (length l * 8) 8 x))

from_lt : (c : ℕ) (l : List ℕ) → c < 0x10000 → Bytes l → crc_from c l < 0x10000
unfolding crc_from crc_byte
from_lt c [] h k = h
from_lt c (b ∷ l) h k =
    let hb : b < 256 = k zero (omega arith) in
    from_lt (crc_byte c b) l (steps_lt 8 (bit_xor c (b * 256)) (xor_lt 16 c (b * 256) h (omega arith))) (λ i j. k (suc i) (omega arith))

-- a first byte that is followed by n
lead : (n a : ℕ) (l : List ℕ) → length l ≡ n → a < 256 → Bytes l → crc_from 0 (a ∷ l) ≡ bit_xor (crc_steps (n * 8 + 8) (a * 256)) (crc_from 0 l)
unfolding crc_from crc_byte
lead n a l e h k =
    let s : crc_steps 8 (a * 256) < 0x10000 = steps_lt 8 (a * 256) (omega arith) in
    ap (λ (x : ℕ). crc_from x l) (ap (crc_steps 8) (xor_zero_l (a * 256)) ∙ sym (xor_zero_r (crc_steps 8 (a * 256))))
    ∙ from_xor (crc_steps 8 (a * 256)) 0 l s (omega arith) k
    ∙ ap (λ (x : ℕ). bit_xor x (crc_from 0 l)) (ap (λ (m : ℕ). crc_steps (m * 8) (crc_steps 8 (a * 256))) e ∙ sym (steps_add (n * 8) 8 (a * 256)))

bytes_take : (n : ℕ) (l : List ℕ) → Bytes l → Bytes (take n l)
bytes_take n l h i k = rw (get_or-take n l i 0 (omega (arith, length-take n l))) (h i (omega (arith, length-take n l)))

bytes_drop : (n : ℕ) (l : List ℕ) → Bytes l → Bytes (drop n l)
bytes_drop n l h i k = rw (get_or-drop n l i 0) (h (n + i) (omega (arith, length-drop n l)))

bytes_append : (s t : List ℕ) → Bytes s → Bytes t → Bytes (s ++ t)
bytes_append s t h k i l =
    by_le (length s) i
    (λ p. let e : i ≡ length s + (i - length s) = omega arith in
    rw e (rw (get_or-append-add s t (i - length s) 0) (k (i - length s) (omega (arith, length-append s t)))))
    (λ p. rw (get_or-append s t 0 i p) (h i p))

-- ---- the window

-- what is there twice goes
twice_goes : (u v w : ℕ) → bit_xor (bit_xor u v) (bit_xor (bit_xor w u) v) ≡ w
twice_goes u v w =
    ap (bit_xor (bit_xor u v)) (xor_assoc w u v ∙ xor_comm w (bit_xor u v))
    ∙ sym (xor_assoc (bit_xor u v) (bit_xor u v) w)
    ∙ ap (λ (x : ℕ). bit_xor x w) (xor_self (bit_xor u v))
    ∙ xor_zero_l w

-- a byte more after bytes
from_last : (l : List ℕ) (b : ℕ) → crc_from 0 (l ++ (b ∷ [])) ≡ crc_steps 8 (bit_xor (crc_from 0 l) (b * 256))
unfolding crc_from crc_byte
from_last l b = from_append 0 l (b ∷ [])

-- the same steps of three, joined
steps_three : (k x y z : ℕ) → x < 0x10000 → y < 0x10000 → z < 0x10000 → bit_xor (bit_xor (crc_steps k x) (crc_steps k y)) (crc_steps k z) ≡ crc_steps k (bit_xor (bit_xor x y) z)
steps_three k x y z hx hy hz =
    sym (steps_xor k (bit_xor x y) z (xor_lt 16 x y hx hy) hz ∙ ap (λ (w : ℕ). bit_xor w (crc_steps k z)) (steps_xor k x y hx hy))

-- what stands for a byte joined with three others, in the high half
high_four : (d a u v : ℕ) → bit_xor (bit_xor (bit_xor d a) u) v * 256 ≡ bit_xor (bit_xor (bit_xor (d * 256) (a * 256)) (u * 256)) (v * 256)
high_four d a u v =
    sym (xor_high (bit_xor (bit_xor d a) u) v)
    ∙ ap (λ (x : ℕ). bit_xor x (v * 256)) (sym (xor_high (bit_xor d a) u) ∙ ap (λ (x : ℕ). bit_xor x (u * 256)) (sym (xor_high d a)))

module _ (a : ℕ) (m : List ℕ) (full : length m ≡ 127) (ha : a < 256) (hm : Bytes m) where
  -- the first byte goes, by the fold
  first_goes : held (a ∷ m) ≡ bit_xor (a * 256) (bit_xor (bit_xor (crc_from 0 (take 39 m)) (crc_from 0 (take 95 m))) (crc_from 0 m))
  unfolding held three
  first_goes =
      ap₂ bit_xor
      (ap₂ bit_xor
      (lead 39 a (take 39 m) (length-take-le 39 m (omega arith)) ha (bytes_take 39 m hm))
      (lead 95 a (take 95 m) (length-take-le 95 m (omega arith)) ha (bytes_take 95 m hm)))
      (lead 127 a m full ha hm)
      ∙ cross_three (crc_steps 320 (a * 256)) (crc_from 0 (take 39 m)) (crc_steps 768 (a * 256)) (crc_from 0 (take 95 m)) (crc_steps 1024 (a * 256)) (crc_from 0 m)
      ∙ ap (λ (x : ℕ). bit_xor x (bit_xor (bit_xor (crc_from 0 (take 39 m)) (crc_from 0 (take 95 m))) (crc_from 0 m))) (three_all (a * 256) (omega arith))

  -- its k + 1 first bytes, once one more stands after them
  part_slid : (k x : ℕ) → k < 127 → crc_from 0 (take (suc k) (m ++ (x ∷ []))) ≡ crc_steps 8 (bit_xor (crc_from 0 (take k m)) (get_or m k 0 * 256))
  part_slid k x h =
      ap (crc_from 0) (take-append-le (suc k) m (x ∷ []) (omega arith) ∙ take-suc m k 0 (omega arith)) ∙ from_last (take k m) (get_or m k 0)

  -- it goes and another comes after
  slid : (d x : ℕ) → d < 256 → x ≡ bit_xor (bit_xor (bit_xor d a) (get_or m 39 0)) (get_or m 95 0) → held (m ++ (x ∷ [])) ≡ crc_byte (held (a ∷ m)) d
  unfolding held crc_byte
  slid d x hd e =
      let p = crc_from 0 (take 39 m) in
      let q = crc_from 0 (take 95 m) in
      let r = crc_from 0 m in
      let u = get_or m 39 0 in
      let v = get_or m 95 0 in
      let hu : u < 256 = hm 39 (omega arith) in
      let hv : v < 256 = hm 95 (omega arith) in
      let hx : x < 256 = rw e (xor_lt 8 (bit_xor (bit_xor d a) u) v (xor_lt 8 (bit_xor d a) u (xor_lt 8 d a hd ha) hu) hv) in
      ap₂ bit_xor (ap₂ bit_xor (part_slid 39 x (omega arith)) (part_slid 95 x (omega arith))) (from_last m x)
      ∙ steps_three 8 (bit_xor p (u * 256)) (bit_xor q (v * 256)) (bit_xor r (x * 256))
      (xor_lt 16 p (u * 256) (from_lt 0 (take 39 m) (omega arith) (bytes_take 39 m hm)) (omega arith))
      (xor_lt 16 q (v * 256) (from_lt 0 (take 95 m) (omega arith) (bytes_take 95 m hm)) (omega arith))
      (xor_lt 16 r (x * 256) (from_lt 0 m (omega arith) hm) (omega arith))
      ∙ ap (crc_steps 8)
      (cross_three p (u * 256) q (v * 256) r (x * 256)
      ∙ ap (bit_xor (bit_xor (bit_xor p q) r))
      (ap (bit_xor (bit_xor (u * 256) (v * 256))) (ap (λ (y : ℕ). y * 256) e ∙ high_four d a u v)
      ∙ twice_goes (u * 256) (v * 256) (bit_xor (d * 256) (a * 256)))
      ∙ xor_comm (bit_xor (bit_xor p q) r) (bit_xor (d * 256) (a * 256))
      ∙ xor_assoc (d * 256) (a * 256) (bit_xor (bit_xor p q) r)
      ∙ xor_comm (d * 256) (bit_xor (a * 256) (bit_xor (bit_xor p q) r))
      ∙ ap (λ (y : ℕ). bit_xor y (d * 256)) (sym first_goes))

-- ---- the window as a ring

-- the window in its order, where the oldest byte is at j
unfoldable pub turned : ℕ → List ℕ → List ℕ
turned j l = drop j l ++ take j l

module _ (w : List ℕ) (j : ℕ) (full : length w ≡ 128) (inside : j < 128) (hw : Bytes w) where
  -- all but the oldest, oldest first
  abbrev behind : List ℕ
  behind = drop (suc j) w ++ take j w

  get_behind : (n k : ℕ) → n < 127 → k ≡ (j + suc n) % 128 → get_or behind n 0 ≡ get_or w k 0
  get_behind n k h e =
      by_le (127 - j) n
      (λ p.
      let t : n ≡ length (drop (suc j) w) + (n - (127 - j)) = omega (arith, length-drop (suc j) w) in
      let s : n - (127 - j) ≡ k = omega arith in
      ap (λ (x : ℕ). get_or behind x 0) t
      ∙ get_or-append-add (drop (suc j) w) (take j w) (n - (127 - j)) 0
      ∙ get_or-take j w (n - (127 - j)) 0 (omega arith)
      ∙ ap (λ (x : ℕ). get_or w x 0) s)
      (λ p.
      let s : suc j + n ≡ k = omega arith in
      get_or-append (drop (suc j) w) (take j w) 0 n (omega (arith, length-drop (suc j) w))
      ∙ get_or-drop (suc j) w n 0
      ∙ ap (λ (x : ℕ). get_or w x 0) s)

  -- a byte more takes the oldest one's place
  more : (d k l : ℕ) → d < 256 → k ≡ (j + 40) % 128 → l ≡ (j + 96) % 128
      → held (turned (j + 1) (set w j (bit_xor (bit_xor (bit_xor d (get_or w j 0)) (get_or w k 0)) (get_or w l 0)))) ≡ crc_byte (held (turned j w)) d
  unfolding turned
  more d k l hd ek el =
      let x = bit_xor (bit_xor (bit_xor d (get_or w j 0)) (get_or w k 0)) (get_or w l 0) in
      let lj : length (take j w) ≡ j = length-take-le j w (omega arith) in
      let lb : length behind ≡ 127 = simp length-append (omega (arith, length-drop (suc j) w)) in
      let e : x ≡ bit_xor (bit_xor (bit_xor d (get_or w j 0)) (get_or behind 39 0)) (get_or behind 95 0) =
      rw (get_behind 39 k (omega arith) ek, get_behind 95 l (omega arith) el) in
      ap held
      (ap (λ (n : ℕ). drop n (set w j x) ++ take n (set w j x)) (add-one j)
      ∙ ap₂ (λ (s t : List ℕ). s ++ t) (drop-set-lt (suc j) w j x (omega arith)) (take-suc-set w j x (omega arith))
      ∙ sym (append_assoc (drop (suc j) w) (take j w) (x ∷ [])))
      ∙ slid (get_or w j 0) behind lb (hw j (omega arith)) (bytes_append (drop (suc j) w) (take j w) (bytes_drop (suc j) w hw) (bytes_take j w hw)) d x hd e
      ∙ ap (λ (s : List ℕ). crc_byte (held (s ++ take j w)) d) (sym (drop-cons w j 0 (omega arith)))

-- the window whose oldest place is j stands for a start and j bytes from i on
abbrev pub Stands : List ℕ → ℕ → ℕ → List ℕ → ℕ → Type 0
Stands l i j w c = held (turned j w) ≡ crc_from c (take j (drop i l))

-- before the first byte
pub stands_first : (l : List ℕ) (i : ℕ) (w : List ℕ) → Stands l i 0 w (held w)
unfolding turned crc_from
stands_first l i w = ap held (append-nil w)

-- after the last
pub stands_last : (l : List ℕ) (i j : ℕ) (w : List ℕ) (c : ℕ) → length w ≡ 128 → j ≡ 128 → Stands l i j w c → held w ≡ crc_from c (take 128 (drop i l))
unfolding turned
stands_last l i j w c full e s =
    let k : length w ≤ 128 = omega arith in
    ap held (sym (ap₂ (λ (x y : List ℕ). x ++ y) (drop_of_length-le w k) (take_all 128 w k))) ∙ rw e at s

-- it stands for j bytes if w₀ stood for j₀
abbrev pub Ring : List ℕ → ℕ → List ℕ → ℕ → List ℕ → ℕ → Type 0
Ring l i w₀ j₀ w j = Window w × ((c : ℕ) → Stands l i j₀ w₀ c → Stands l i j w c)

module _ (l : List ℕ) (i : ℕ) (w₀ : List ℕ) (j₀ : ℕ) (w : List ℕ) (j : ℕ) (ring : Ring l i w₀ j₀ w j) (inside : j < 128) where
  -- a byte of the list more
  pub ring_on : (k n : ℕ) → k ≡ (j + 40) % 128 → n ≡ (j + 96) % 128 → i + 128 ≤ length l → get_or l (i + j) 0 < 256
      → Ring l i w₀ j₀ (set w j (bit_xor (bit_xor (bit_xor (get_or l (i + j) 0) (get_or w j 0)) (get_or w k 0)) (get_or w n 0))) (j + 1)
  ring_on k n ek en room hd =
      let full = ring.0.0 in
      let h = ring.0.1 in
      let d = get_or l (i + j) 0 in
      let x = bit_xor (bit_xor d (get_or w j 0)) (get_or w k 0) in
      let lx : x < 256 = xor_lt 8 (bit_xor d (get_or w j 0)) (get_or w k 0) (xor_lt 8 d (get_or w j 0) hd (h j (omega arith))) (h k (omega arith)) in (
        (length-set w j (bit_xor x (get_or w n 0)) ∙ full, bytes_set w j (bit_xor x (get_or w n 0)) h (xor_lt 8 x (get_or w n 0) lx (h n (omega arith)))),
        λ c e.
            more w j full inside h d k n hd ek en
            ∙ ap₂ crc_byte (ring.1 c e) (sym (get_or-drop i l j 0))
            ∙ sym (from_one c j (drop i l) (omega (arith, length-drop i l))),
      )

-- the same where the list is the 128 bytes alone
pub ring_block : (l w₀ w : List ℕ) (j : ℕ) → Ring l 0 w₀ 0 w j → j < 128 → (k n : ℕ) → k ≡ (j + 40) % 128 → n ≡ (j + 96) % 128 → length l ≡ 128 → get_or l j 0 < 256
    → Ring l 0 w₀ 0 (set w j (bit_xor (bit_xor (bit_xor (get_or l j 0) (get_or w j 0)) (get_or w k 0)) (get_or w n 0))) (j + 1)
ring_block l w₀ w j ring inside k n ek en all hd =
    let e : 0 + j ≡ j = omega arith in
    rw e at (ring_on l 0 w₀ 0 w j ring inside k n ek en (omega arith) (rw e hd))

-- the window that stands for no bytes but the start
pub window_first : Window (set (set (replicate 128 0) 0 255) 1 255) × (held (set (set (replicate 128 0) 0 255) 1 255) ≡ start)
unfolding held crc_from crc_byte crc_steps crc_bit pick
window_first = (
  (refl, bytes_set (set (replicate 128 0) 0 255) 1 255 (bytes_set (replicate 128 0) 0 255 (λ i h. rw (get_or-replicate {A = ℕ} 128 i 0 0 h) (omega arith)) (omega arith)) (omega arith)),
  refl,
)

-- three numbers on one way through the window
pub window_parts : (w : List ℕ) (a b d : ℕ) → length w ≡ 128 → a ≡ eights_of 0 (take 40 w) → b ≡ eights_of a (take 56 (drop 40 w)) → d ≡ eights_of b (drop 96 w) → bit_xor (bit_xor a b) d ≡ held w
unfolding held
window_parts w a b d full ea eb ed =
    let p : a ≡ crc_from 0 (take 40 w) = ea ∙ eights_all 0 5 (take 40 w) (omega (arith, length-take 40 w)) in
    let q : b ≡ crc_from 0 (take 96 w) =
    eb
    ∙ eights_all a 7 (take 56 (drop 40 w)) (omega (arith, length-take 56 (drop 40 w), length-drop 40 w))
    ∙ ap (λ (x : ℕ). crc_from x (take 56 (drop 40 w))) p
    ∙ sym (from_more 0 40 56 w) in
    let r : d ≡ crc_from 0 w =
    ed
    ∙ eights_all b 4 (drop 96 w) (omega (arith, length-drop 96 w))
    ∙ ap (λ (x : ℕ). crc_from x (drop 96 w)) q
    ∙ sym (from_append 0 (take 96 w) (drop 96 w))
    ∙ ap (crc_from 0) (take-append-drop 96 w) in
    ap₂ bit_xor (ap₂ bit_xor p q) r
