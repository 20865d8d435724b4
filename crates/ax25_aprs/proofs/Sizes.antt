-- How many bits a body takes, for every input.
-- Assumes nothing.
use mathlib.Core.Path.{◌≡◌, refl, sym, ap, ◌∙◌}
use mathlib.Core.Bool.{Bool, true, false, ◌&&◌}
use mathlib.Core.List.{List, [], ◌∷◌, ◌++◌}
use Rattle.std.proofs.Common.{Option, None, Some}
use Rattle.std.proofs.lemmas.Option.{none-some, same_Some}
use Prim.Native.Nat.{ℕ, zero, suc, ◌+◌, ◌-◌, ◌*◌, ◌≤◌, ◌<◌}
use native.Mathlib.Omega.{arith}
use lib.ListN.{length, get_or, take, drop, length-append, length-take, length-drop, length-map}
use lib.Dec.{eqb, ltb, leb}
use borrow.Author.Tests.{leb-true, ltb-false}
use Rattle.laws.specs.Bits.{bits_of}
use Rattle.laws.specs.Pick.{pick}
use Rattle.laws.specs.Text.{upper, trim, is_digit}
use Rattle.laws.proofs.BitLaws.{length_bits}
use Rattle.laws.proofs.Cases.{by_test, by_eq, and_right}
use Rattle.laws.proofs.TextLaws.{starts_eq}
use Rattle.laws.proofs.TrimLaws.{trim_le}
use Rattle.bits.specs.Val.{val_of}
use Rattle.bits_write.specs.Write.{top_bits}
use Rattle.bits_write.proofs.WriteLaws.{length_top}
use Rattle.refusals.specs.Outcome.{Outcome, refused, answer}
use Rattle.refusals.proofs.OutcomeLaws.{answer_not}
use Rattle.ax25_token.specs.Token.{token_bits}
use Rattle.ax25_token.proofs.Sizes.{token_size_text}
use Rattle.ax25_address.specs.Address.{white}
use Rattle.ax25_address.specs.Classify.{one_of}
use Rattle.ax25_address.specs.Types.{Text, Position, TimestampedPosition, Message}
use Rattle.ax25_aprs.specs.Words.{word, word_at}
use Rattle.ax25_aprs.specs.Coded.{◌then◌, or_refused}
use Rattle.ax25_aprs.specs.Text.{before, joined, altitude, altitude_bits, altitude_at, front_bits, front_size, text_from, text_bits}
use Rattle.ax25_aprs.specs.LatLon.{side_bits, table_code, table_bits, lat_bits, lon_bits, place_bits, latlon_bits}
use Rattle.ax25_aprs.specs.Body.{timestamped_bits, call_of, message_bits, body_bits}
use Rattle.ax25_aprs.specs.Third.{Field, ended, full, short, longer, collect_of, call_part, call_field, inner_bits, last_field, path_field, third_bits}
use Rattle.ax25_aprs.proofs.WordLaws.{word_at_lem}
use Rattle.ax25_aprs.proofs.TextLaws.{bits_altitude, size_altitude, bits_byte, size_byte, bits_word, size_word, size_pos}

-- ---- text: at most seven bits a byte

-- no more bytes are taken than there are
pub size_le : (p : Bool) (s : List ℕ) → 0 < length s → front_size p s ≤ length s
unfolding altitude_at
size_le p s h =
    by_test (altitude_at p s)
    (λ e. omega (arith, size_altitude p s e, leb-true 9 (length s) (and_right (eqb (word_at s) 1) (leb 9 (length s)) (and_right p (eqb (word_at s) 1 && leb 9 (length s)) e))))
    (λ e.
    by_eq (word_at s) 0
    (λ z. omega (arith, size_byte p s z))
    (λ z.
    let w = word (word_at s) in
    let q : length s ≡ length w + length (drop (length w) s) = ap length (starts_eq w s (word_at_lem s z).front) ∙ length-append w (drop (length w) s) in
    omega (arith, size_word p s e z)))

altitude_size : (a : Option ℕ) (x : List Bool) → altitude_bits a ≡ Some x → length x ≡ 21
unfolding altitude_bits
altitude_size None x e = absurd (none-some x e)
altitude_size (Some a) x e =
    rw (← same_Some (bits_of 7 1 ++ top_bits 14 a) x e, length-append (bits_of 7 1) (top_bits 14 a), length_bits 7 1, length_top 14 a)

pub front_size_lem : (p : Bool) (s : List ℕ) (x : List Bool) → front_bits p s ≡ Some x → length x ≤ 7 * front_size p s
front_size_lem p s x e =
    by_test (altitude_at p s)
    (λ a. omega (arith, size_altitude p s a, altitude_size (altitude (take 4 (drop 5 s))) x (sym (bits_altitude p s a) ∙ e)))
    (λ a.
    by_eq (word_at s) 0
    (λ z.
    let q : top_bits 7 (get_or s 0 0) ≡ x = same_Some (top_bits 7 (get_or s 0 0)) x (sym (bits_byte p s z) ∙ e) in
    omega (arith, size_byte p s z, length_top 7 (get_or s 0 0), ap length q))
    (λ z.
    let q : bits_of 7 (word_at s) ≡ x = same_Some (bits_of 7 (word_at s)) x (sym (bits_word p s a z) ∙ e) in
    omega (arith, size_pos p s, length_bits 7 (word_at s), ap length q)))

joined_size : (o q : Option (List Bool)) (x : List Bool) (m n : ℕ) → joined o q ≡ Some x
    → ((a : List Bool) → o ≡ Some a → length a ≤ m) → ((b : List Bool) → q ≡ Some b → length b ≤ n) → length x ≤ m + n
unfolding joined before
joined_size None q x m n e f g = absurd (none-some x e)
joined_size (Some a) None x m n e f g = absurd (none-some x e)
joined_size (Some a) (Some b) x m n e f g =
    rw (← same_Some (a ++ b) x e) (omega (arith, length-append a b, f a refl, g b refl))

from_size : (p : Bool) (k : ℕ) (s : List ℕ) (x : List Bool) → text_from p k s ≡ Some x → length x ≤ 7 * (length s - k)
unfolding text_from
from_size p k [] x e = rw (← same_Some [] x e) (omega arith)
from_size p zero (c ∷ s) x e =
    let n = front_size p (c ∷ s) in
    let t = joined_size (front_bits p (c ∷ s)) (text_from p (n - 1) s) x (7 * n) (7 * (length s - (n - 1))) e (front_size_lem p (c ∷ s)) (from_size p (n - 1) s) in
    omega (arith, size_le p (c ∷ s) (omega arith))
from_size p (suc k) (c ∷ s) x e = let t = from_size p k s x e in omega arith

pub text_size : (p : Bool) (s : List ℕ) (b : List Bool) → text_bits p s ≡ Some b → length b ≤ 7 * length s
unfolding text_bits
text_size p s b e = let t = from_size p 0 s b e in omega arith

-- ---- bits, if there are any, are at most n

abbrev pub AtMost : ℕ → Outcome (List Bool) → Type 0
AtMost n o = (b : List Bool) → o ≡ answer b → length b ≤ n

refused_most : (n k : ℕ) → AtMost n (refused k)
refused_most n k b e = absurd (answer_not (sym e))

pub answer_most : (n : ℕ) (a : List Bool) → length a ≤ n → AtMost n (answer a)
answer_most n a h b e = let q : a ≡ b = cc in rw (← q) h

pub le_most : (m n : ℕ) (o : Outcome (List Bool)) → m ≤ n → AtMost m o → AtMost n o
le_most m n o h f b e = omega (arith, f b e)

pub pick_most : (n : ℕ) (t : Bool) (o q : Outcome (List Bool)) → (t ≡ true → AtMost n o) → (t ≡ false → AtMost n q) → AtMost n (pick t o q)
unfolding pick
pick_most n true o q f g = f refl
pick_most n false o q f g = g refl

pub then_most : (m n : ℕ) (o q : Outcome (List Bool)) → AtMost m o → AtMost n q → AtMost (m + n) (o then q)
then_most m n (refused k) q f g = refused_most (m + n) k
then_most m n (answer a) (refused k) f g = refused_most (m + n) k
then_most m n (answer a) (answer c) f g = answer_most (m + n) (a ++ c) (omega (arith, length-append a c, f a refl, g c refl))

pub or_most : (n k : ℕ) (o : Option (List Bool)) → ((b : List Bool) → o ≡ Some b → length b ≤ n) → AtMost n (or_refused k o)
or_most n k None f = refused_most n k
or_most n k (Some a) f = answer_most n a (f a refl)

text_most : (p : Bool) (s : List ℕ) → AtMost (7 * length s) (or_refused 5 (text_bits p s))
text_most p s = or_most (7 * length s) 5 (text_bits p s) (text_size p s)

-- ---- a position: at most 58 bits and the comment

pub side_size : (y n c : ℕ) → length (side_bits y n c) ≤ 1
unfolding side_bits pick
side_size y n c = cases (eqb c y) (eqb c n)
  where
    cases : (a b : Bool) → length (pick a (true ∷ []) (pick b (false ∷ []) [])) ≤ 1
    cases true b = omega arith
    cases false true = omega arith
    cases false false = omega arith

table_size : (c : ℕ) → length (table_bits c) ≤ 8
unfolding table_bits pick
table_size c = cases (ltb (table_code c) 8)
  where
    cases : (a : Bool) → length (pick a (true ∷ bits_of 3 (table_code c)) (false ∷ top_bits 7 c)) ≤ 8
    cases true = omega (arith, length_bits 3 (table_code c))
    cases false = omega (arith, length_top 7 c)

pub lat_size : (s : List ℕ) → length (lat_bits s) ≤ 29
unfolding lat_bits
lat_size s =
    let v = val_of (take 4 s ++ take 2 (drop 5 s)) in
    let n = side_bits 0x4E 0x53 (get_or s 7 0) in
    let t = table_bits (get_or s 8 0) in
    omega (arith, length-append (top_bits 20 v) (n ++ t), length-append n t, length_top 20 v, side_size 0x4E 0x53 (get_or s 7 0), table_size (get_or s 8 0))

pub lon_size : (s : List ℕ) → length (lon_bits s) ≤ 29
unfolding lon_bits
lon_size s =
    let w = val_of (take 5 (drop 9 s) ++ take 2 (drop 15 s)) in
    let e = side_bits 0x57 0x45 (get_or s 17 0) in
    let y = top_bits 7 (get_or s 18 0) in
    omega (arith, length-append (top_bits 21 w) (e ++ y), length-append e y, length_top 21 w, length_top 7 (get_or s 18 0), side_size 0x57 0x45 (get_or s 17 0))

place_size : (s : List ℕ) → length (place_bits s) ≤ 58
unfolding place_bits
place_size s = omega (arith, length-append (lat_bits s) (lon_bits s), lat_size s, lon_size s)

latlon_most : (s : List ℕ) → AtMost (7 * (length s - 10)) (latlon_bits s)
unfolding latlon_bits
latlon_most s =
    pick_most (7 * (length s - 10)) (ltb (length s) 19) (refused 3) _ (λ _. refused_most (7 * (length s - 10)) 3)
    (λ e.
    le_most (58 + 7 * length (drop 19 s)) (7 * (length s - 10)) _ (omega (arith, ltb-false (length s) 19 e, length-drop 19 s))
    (then_most 58 (7 * length (drop 19 s)) (answer (place_bits s)) _ (answer_most 58 (place_bits s) (place_size s)) (text_most true (drop 19 s))))

timestamped_most : (s : List ℕ) → AtMost (20 + 7 * (length s - 17)) (timestamped_bits s)
unfolding timestamped_bits
timestamped_most s =
    let v = val_of (take 6 s) in
    le_most (20 + 7 * (length (drop 7 s) - 10)) (20 + 7 * (length s - 17)) _ (omega (arith, length-drop 7 s))
    (then_most 20 (7 * (length (drop 7 s) - 10)) (answer (top_bits 20 v)) _ (answer_most 20 (top_bits 20 v) (omega (arith, length_top 20 v))) (latlon_most (drop 7 s)))

-- ---- a field that ends at a stop byte

-- a field's text has at most k bytes, and at most n follow it
abbrev Within : ℕ → ℕ → Field → Type 0
Within k n (ended s r) = (length s ≤ k) × (length r ≤ n)
Within k n (full s) = length s ≤ k
Within k n short = Unit {0}

longer_within : (x k n : ℕ) (f : Field) → Within k n f → Within (suc k) (suc n) (longer x f)
longer_within x k n (ended s r) h = (omega (arith, h.0), omega (arith, h.1))
longer_within x k n (full s) h = omega (arith, h)
longer_within x k n short h = tt

collect_within : (stop k : ℕ) (d : List ℕ) → Within k (length d) (collect_of stop k d)
unfolding collect_of pick
collect_within stop zero d = omega arith
collect_within stop (suc k) [] = tt
collect_within stop (suc k) (x ∷ d) =
    by_test (eqb x stop)
    (λ e. rw e (omega arith, omega arith))
    (λ e. rw e (longer_within x k (length d) (collect_of stop k d) (collect_within stop k d)))

-- ---- a call of m bytes: six bits each, and four

call_le : (s : List ℕ) → length (call_of s) ≤ length s
unfolding call_of
call_le s = omega (arith, length-map (trim white s) upper, trim_le white s)

module _ (l : ℕ) (low : 2 ≤ l) (high : l ≤ 9) where
  call_most : (m : ℕ) → 9 ≤ m → (s : List ℕ) → length s ≤ m → AtMost (6 * m + 4) (or_refused 4 (token_bits l (call_of s)))
  call_most m k s h =
      or_most (6 * m + 4) 4 (token_bits l (call_of s)) (token_size_text l m low (omega arith) (call_of s) (omega (arith, call_le s)))

  message_most : (s : List ℕ) → AtMost (58 + 7 * (length s - 10)) (message_bits l s)
  unfolding message_bits
  message_most s =
      le_most (58 + 7 * length (drop 10 s)) (58 + 7 * (length s - 10)) _ (omega (arith, length-drop 10 s))
      (then_most 58 (7 * length (drop 10 s)) (or_refused 4 (token_bits l (call_of (take 9 s)))) _ (call_most 9 (omega arith) (take 9 s) (omega (arith, length-take 9 s))) (text_most false (drop 10 s)))

  body_most : (typ : ℕ) (s : List ℕ) (n : ℕ) → 7 * length s ≤ n → 58 + 7 * (length s - 10) ≤ n → AtMost n (body_bits typ l s)
  unfolding body_bits
  body_most typ s n h k =
      pick_most n (eqb typ Text) _ _ (λ _. le_most (7 * length s) n _ h (text_most false s))
      (λ _. pick_most n (eqb typ Position) _ _ (λ _. le_most (7 * (length s - 10)) n _ (omega arith) (latlon_most s))
      (λ _. pick_most n (eqb typ TimestampedPosition) _ _ (λ _. le_most (20 + 7 * (length s - 17)) n _ (omega arith) (timestamped_most s))
      (λ _. le_most (58 + 7 * (length s - 10)) n _ k (message_most s))))

  -- a body takes at most seven bits a byte, and a short one 58 more for a call
  pub body_size : (typ : ℕ) (s : List ℕ) → AtMost (7 * length s + 58) (body_bits typ l s)
  body_size typ s = body_most typ s (7 * length s + 58) (omega arith) (omega arith)

  pub body_size_long : (typ : ℕ) (s : List ℕ) → 10 ≤ length s → AtMost (7 * length s) (body_bits typ l s)
  body_size_long typ s h = body_most typ s (7 * length s) (omega arith) (omega arith)

  -- ---- third party: three calls of at most ten bytes, two bits and a body

  pub part_most : (s : List ℕ) → length s ≤ 10 → AtMost 64 (call_part l s)
  unfolding call_part
  part_most s h = call_most 10 (omega arith) s h

  -- an inner type and its body, of n bytes at most
  typed_most : (k typ n : ℕ) (s : List ℕ) → length s ≤ n → AtMost (7 * n + 60) (answer (bits_of 2 k) then body_bits typ l s)
  typed_most k typ n s h =
      le_most (2 + (7 * length s + 58)) (7 * n + 60) _ (omega arith)
      (then_most 2 (7 * length s + 58) (answer (bits_of 2 k)) _ (answer_most 2 (bits_of 2 k) (omega (arith, length_bits 2 k))) (body_size typ s))

  inner_most : (n : ℕ) (d : List ℕ) → length d ≤ n → AtMost (7 * n + 60) (inner_bits l d)
  unfolding inner_bits
  inner_most n [] h = refused_most (7 * n + 60) 3
  inner_most n (c ∷ []) h = refused_most (7 * n + 60) 3
  inner_most n (c ∷ x ∷ d) h =
      pick_most (7 * n + 60) (one_of c 0x21 0x3D && is_digit x) _ _ (λ _. typed_most 0 Position n (x ∷ d) (omega arith))
      (λ _. pick_most (7 * n + 60) (one_of c 0x40 0x2F && is_digit x) _ _ (λ _. typed_most 1 TimestampedPosition n (x ∷ d) (omega arith))
      (λ _. pick_most (7 * n + 60) (eqb c 0x3A) _ _ (λ _. typed_most 2 Message n (x ∷ d) (omega arith))
      (λ _. typed_most 3 Text n (c ∷ x ∷ d) h)))

  last_most : (n : ℕ) (f : Field) (d : List ℕ) → length d ≤ n → Within 10 (length d) f → AtMost (64 + (7 * n + 60)) (last_field l f d)
  unfolding last_field
  last_most n short d h k = refused_most (64 + (7 * n + 60)) 3
  last_most n (ended s r) d h k =
      then_most 64 (7 * n + 60) (call_part l s) (inner_bits l (drop 1 r)) (part_most s k.0) (inner_most n (drop 1 r) (omega (arith, k.1, length-drop 1 r)))
  last_most n (full s) d h k = then_most 64 (7 * n + 60) (call_part l s) (inner_bits l d) (part_most s k) (inner_most n d h)

  path_most : (n : ℕ) (f : Field) → Within 14 n f → AtMost (64 + (7 * n + 60)) (path_field l f)
  unfolding path_field
  path_most n short k = refused_most (64 + (7 * n + 60)) 3
  path_most n (ended s r) k = last_most n (collect_of 0x2A 10 r) r k.1 (collect_within 0x2A 10 r)
  path_most n (full s) k = refused_most (64 + (7 * n + 60)) 5

  field_most : (n m : ℕ) (f : Field) (d : List ℕ) (next : List ℕ → Outcome (List Bool)) → length d ≤ n → Within 10 (length d) f
      → ((r : List ℕ) → length r ≤ n → AtMost m (next r)) → AtMost (64 + m) (call_field l f d next)
  unfolding call_field
  field_most n m short d next h k g = refused_most (64 + m) 3
  field_most n m (ended s r) d next h k g = then_most 64 m (call_part l s) (next r) (part_most s k.0) (g r (omega (arith, k.1)))
  field_most n m (full s) d next h k g = then_most 64 m (call_part l s) (next d) (part_most s k) (g d h)

  pub third_size : (s : List ℕ) → AtMost (7 * length s + 252) (third_bits l s)
  unfolding third_bits
  third_size s =
      let n = length s in
      le_most (64 + (64 + (64 + (7 * n + 60)))) (7 * n + 252) _ (omega arith)
      (field_most n (64 + (64 + (7 * n + 60))) (collect_of 0x3E 10 s) s _ (omega arith) (collect_within 0x3E 10 s)
      (λ e h. field_most n (64 + (7 * n + 60)) (collect_of 0x2C 10 e) e _ h (collect_within 0x2C 10 e)
      (λ f k. le_most (64 + (7 * length f + 60)) (64 + (7 * n + 60)) _ (omega arith) (path_most (length f) (collect_of 0x2C 14 f) (collect_within 0x2C 14 f)))))
