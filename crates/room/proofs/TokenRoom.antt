-- How many letters a token stands for, and how many bits it takes.
-- Assumes nothing.
use mathlib.Core.Path.{◌≡◌, refl}
use mathlib.Core.Bool.{Bool, true, false, ◌&&◌}
use mathlib.Core.List.{List, [], ◌∷◌, ◌++◌, map}
use Rattle.std.proofs.Common.{Option, None, Some}
use Rattle.std.proofs.lemmas.Option.{none-some, same_Some}
use Prim.Native.Nat.{ℕ, zero, suc, ◌+◌, ◌-◌, ◌*◌, ◌^◌, ◌≤◌, ◌<◌}
use native.Mathlib.Omega.{arith}
use lib.ListN.{length, take, drop, length-append, length-drop}
use lib.Dec.{leb}
use borrow.Author.Tests.{leb-true}
use Rattle.laws.specs.Bits.{value_of}
use Rattle.laws.specs.Pick.{pick}
use Rattle.laws.specs.Text.{ascii}
use Rattle.laws.proofs.BitLaws.{value_take_lt}
use Rattle.laws.proofs.Cases.{and_left, and_right, from_some}
use Rattle.laws.proofs.TextLaws.{below, at_each}
use Rattle.bits.specs.Read.{letter, take_bits, take_text}
use Rattle.bits.specs.Val.{val_of}
use Rattle.ax25_token.specs.Tables.{long, wide_row, pair_rows, fixed_rows, numbered_rows}
use Rattle.ax25_token.specs.Token as token
use Rattle.ax25_token.specs.Token.{suffix, two_digits, after, Form, spelled, paired, named, counted, begun, no_token, pair_form, fixed_form, numbered_form, symbol_form, form_of, wide_number, read_pair, read_number, Letter, letter_of, go_on, read_letters, read_spelled, read_form, read_token}
use Rattle.ax25_token.proofs.Sizes.{suffix_size}

-- ---- bits that are taken

-- a value that a test let through
pub let_through : {A : Type 0} (t : Bool) (x y : A) → pick t (Some x) None ≡ Some y → (t ≡ true) × (x ≡ y)
unfolding pick
let_through true x y e = (refl, same_Some x y e)
let_through false x y e = absurd (none-some y e)

pub take_left : (n : ℕ) (b : List Bool) (p : ℕ × List Bool) → take_bits n b ≡ Some p → (length b ≡ n + length p.1) × (p.0 < 2 ^ n)
unfolding take_bits
take_left n b p e =
    let k = let_through (leb n (length b)) (value_of (take n b), drop n b) p e in
    rw (← k.1) (omega (arith, leb-true n (length b) k.0, length-drop n b), value_take_lt b n)

text_left : (mended : Bool) (n : ℕ) (b : List Bool) (p : ℕ × List Bool) → wide_number mended n b ≡ Some p → length b ≡ n + length p.1
unfolding wide_number take_text pick
text_left true n b p e = (take_left n b p e).0
text_left false n b p e =
    let k = let_through (leb n (length b)) (val_of (map letter (take n b)), drop n b) p e in
    rw (← k.1) (omega (arith, leb-true n (length b) k.0, length-drop n b))

-- ---- letters: six bits each

-- 6 bits for each letter that is read
abbrev Spelt : List Bool → List ℕ × List Bool → Type 0
Spelt b p = 6 * length p.0 + length p.1 ≤ length b

after_from : {P : Type 0} (n : List ℕ) (o : Option (List ℕ × List Bool)) (p : List ℕ × List Bool) → after n o ≡ Some p
    → ((q : List ℕ × List Bool) → o ≡ Some q → length p.0 ≡ length n + length q.0 → length p.1 ≡ length q.1 → P) → P
unfolding after
after_from n None p e k = absurd (none-some p e)
after_from n (Some q) p e k =
    let s = same_Some (n ++ q.0, q.1) p e in
    k q refl (rw (← s) (length-append n q.0)) (rw (← s) refl)

go_on_lem : (strict : Bool) (x : Letter) (r : List Bool) (o : Option (List ℕ × List Bool)) (p : List ℕ × List Bool)
    → ((q : List ℕ × List Bool) → o ≡ Some q → Spelt r q) → go_on strict x r o ≡ Some p → 6 * length p.0 + length p.1 ≤ 6 + length r
unfolding go_on
go_on_lem strict token.blank r o p h e = rw (← same_Some ([], r) p e) (omega arith)
go_on_lem strict (token.letter x) r o p h e = after_from (x ∷ []) o p e (λ q eq s t. let k = h q eq in omega arith)
go_on_lem true token.neither r o p h e = absurd (none-some p e)
go_on_lem false token.neither r o p h e = let k = h p e in omega arith

letters_room : (strict : Bool) (n : ℕ) (b : List Bool) (p : List ℕ × List Bool) → read_letters strict n b ≡ Some p → Spelt b p
unfolding read_letters
letters_room strict zero b p e = rw (← same_Some ([], b) p e) (omega arith)
letters_room strict (suc n) b p e =
    from_some (take_bits 6 b) _ p e
    (λ v ev f.
    let k = go_on_lem strict (letter_of v.0) v.1 (read_letters strict n v.1) p (letters_room strict n v.1) f in
    omega (arith, (take_left 6 b v ev).0))

-- ---- the forms

-- the letters that are read from b, and the bits that are left
pub record Took (k : ℕ) (b : List Bool) (p : List ℕ × List Bool) : Type 0 where
  -- at least k bits are taken
  pub left : k + length p.1 ≤ length b
  -- six letters, and two for every three bits beyond k: WIDE2-11 has so many
  pub letters : 3 * length p.0 + 2 * (k + length p.1) ≤ 2 * length b + 18
  -- eight letters, and one for every two bits beyond k + 3: this is less for long calls
  pub long : 2 * length p.0 + (k + length p.1) ≤ length b + 13

-- the name of a form is so short that its letters are as above
short : Form → Bool
short (spelled x) = true
short (paired n w) = leb (length n) 4 && leb (length n) (2 + w)
short (named n) = leb (length n) 6
short (counted n lo w) = leb (length n) 4
short begun = true
short no_token = true

all_short : below (λ i. short (form_of i)) 64 ≡ true
unfolding below short form_of symbol_form pair_form fixed_form numbered_form wide_row pair_rows fixed_rows numbered_rows long pick
all_short = refl

-- a hyphen and two digits at most, in 4 bits
spelled_room : (n : ℕ) (b : List Bool) (p : List ℕ × List Bool) → read_spelled n b ≡ Some p → 6 * (length p.0 - 3) + 4 + length p.1 ≤ length b
unfolding read_spelled
spelled_room n b p e =
    from_some (read_letters false n b) _ p e
    (λ t et f. from_some (take_bits 4 t.1) _ p f
    (λ v ev g.
    rw (← same_Some (t.0 ++ suffix v.0, v.1) p g)
    (omega (arith, letters_room false n b t et, (take_left 4 t.1 v ev).0, suffix_size v.0, length-append t.0 (suffix v.0)))))

pair_room : (mended : Bool) (w : ℕ) (b : List Bool) (p : List ℕ × List Bool) → read_pair mended w b ≡ Some p → (length p.0 ≤ 4) × (length b ≡ 1 + w + length p.1)
unfolding read_pair
pair_room mended w b p e =
    from_some (take_bits 1 b) _ p e
    (λ d ed f. from_some (wide_number mended w d.1) _ p f
    (λ v ev g.
    rw (← same_Some ((49 + d.0) ∷ suffix v.0, v.1) p g)
    (omega (arith, suffix_size v.0), omega (arith, (take_left 1 b d ed).0, text_left mended w d.1 v ev))))

number_room : (lo w : ℕ) (b : List Bool) (p : List ℕ × List Bool) → read_number lo w b ≡ Some p → (length p.0 ≡ 2) × (length b ≡ w + length p.1)
unfolding read_number two_digits
number_room lo w b p e =
    from_some (take_bits w b) _ p e
    (λ v ev f. rw (← same_Some (two_digits (v.0 + lo), v.1) p f) (refl, (take_left w b v ev).0))

form_room : (mended : Bool) (l : ℕ) (f : Form) (b : List Bool) (p : List ℕ × List Bool) → short f ≡ true → read_form mended l f b ≡ Some p → Took 0 b p
unfolding short read_form
form_room mended l (spelled x) b p s e =
    after_from (x ∷ []) (read_spelled (l - 1) b) p e
    (λ q eq m k. let h = spelled_room (l - 1) b q eq in record { left = omega arith; letters = omega arith; long = omega arith })
form_room mended l (paired n w) b p s e =
    let few = leb-true (length n) 4 (and_left (leb (length n) 4) (leb (length n) (2 + w)) s) in
    let by = leb-true (length n) (2 + w) (and_right (leb (length n) 4) (leb (length n) (2 + w)) s) in
    after_from n (read_pair mended w b) p e
    (λ q eq m k. let h = pair_room mended w b q eq in record { left = omega arith; letters = omega arith; long = omega arith })
form_room mended l (named n) b p s e =
    let few = leb-true (length n) 6 s in
    rw (← same_Some (n, b) p e) (record { left = omega arith; letters = omega arith; long = omega arith })
form_room mended l (counted n lo w) b p s e =
    let few = leb-true (length n) 4 s in
    after_from n (read_number lo w b) p e
    (λ q eq m k. let h = number_room lo w b q eq in record { left = omega arith; letters = omega arith; long = omega arith })
form_room mended l begun b p s e =
    after_from (ascii "AP") (read_letters true (l - 2) b) p e
    (λ q eq m k. let h = letters_room true (l - 2) b q eq in record { left = omega arith; letters = omega arith; long = omega arith })
form_room mended l no_token b p s e = absurd (none-some p e)

pub token_room : (mended : Bool) (l : ℕ) (b : List Bool) (p : List ℕ × List Bool) → read_token mended l b ≡ Some p → Took 6 b p
unfolding read_token
token_room mended l b p e =
    from_some (take_bits 6 b) _ p e
    (λ i ei f.
    let t = take_left 6 b i ei in
    let h = form_room mended l (form_of i.0) i.1 p (at_each (λ k. short (form_of k)) 64 all_short i.0 t.1) f in
    record { left = omega (arith, t.0, h.left); letters = omega (arith, t.0, h.letters); long = omega (arith, t.0, h.long) })
