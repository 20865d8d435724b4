-- The cases of the receiver's definitions, one law for each.
-- Assumes nothing.
use mathlib.Core.Path.{◌≡◌, sym, ap, ◌∙◌}
use mathlib.Core.Bool.{true, false}
use mathlib.Core.List.{List}
use Rattle.std.proofs.Common.{Option, None, Some}
use Prim.Native.Nat.{ℕ, zero, suc, ◌+◌, ◌-◌, ◌≤◌, ◌<◌, max}
use native.Mathlib.Omega.{arith}
use lib.Bits.{bit_and}
use lib.ListN.{length, get_or, take, drop, set, length-set}
use lib.Seq.{sets}
use lib.Dec.{leb}
use borrow.Author.Tests.{lt-ltb, le-ltb, le-leb, lt-leb, eq-eqb, ne_eqb}
use Rattle.laws.specs.Pick.{pick}
use Rattle.laws.proofs.Cases.{by_test, by_le, by_eq}
use Rattle.crc.specs.Crc.{crc_bits}
use Rattle.refusals.specs.Limits.{mask_ok}
use Rattle.refusals.specs.Outcome.{number}
use Rattle.refusals.specs.declared.Refusal.{Refusal}
use Rattle.refusals.specs.declared.Refusal.TheVariants.{Command, TooLong, Short, BadCall, Format, Output, NotDecoded, Field, Mask, Empty, FirstByte, Count, Number, Fragment, Marker, Control, State, Name, Kept, Tally}
use Rattle.receiver.specs.Join.{code_of, answered, turned_away, emptied, ended, finish_of, base_of, headed, grown, grow_of, started, accept_of, refusal_of, join_of}
use Rattle.receiver.specs.declared.Joiner.{Joiner}
use Rattle.receiver.specs.declared.Cause.TheVariants.{NoFragment, Overflow, Limit, Check}
use Rattle.receiver.specs.declared.Push.TheVariants.{Dropped, More, Done}

-- ---- the first byte

pub base_none : (held : ℕ) → held ≡ 0 → base_of held ≡ 1
unfolding pick
base_none held e = simp (eq-eqb _ _ e)

pub base_some : (held : ℕ) → (held ≡ 0 → ⊥) → base_of held ≡ held
unfolding pick
base_some held e = simp (ne_eqb _ _ e)

pub headed_none : (held : ℕ) (s : List ℕ) (b : ℕ) → held ≡ 0 → headed held s b ≡ set s 0 b
unfolding pick
headed_none held s b e = simp (eq-eqb _ _ e)

pub headed_some : (held : ℕ) (s : List ℕ) (b : ℕ) → (held ≡ 0 → ⊥) → headed held s b ≡ s
unfolding pick
headed_some held s b e = simp (ne_eqb _ _ e)

pub base_pos : (held : ℕ) → 0 < base_of held
base_pos zero = rw (base_none zero (omega arith)) (omega arith)
base_pos (suc held) = rw (base_some (suc held) (λ e. omega arith)) (omega arith)

pub base_le : (held n : ℕ) → held ≤ n → 0 < n → base_of held ≤ n
base_le zero n k p = rw (base_none zero (omega arith)) p
base_le (suc held) n k p = rw (base_some (suc held) (λ e. omega arith)) k

-- a tail goes after what is held, or after the first byte
pub base_max : (held : ℕ) → max held 1 ≡ base_of held
base_max zero = rw (base_none zero (omega arith)) (omega arith)
base_max (suc held) = rw (base_some (suc held) (λ e. omega arith)) (omega arith)

pub length_headed : (held : ℕ) (s : List ℕ) (b : ℕ) → length (headed held s b) ≡ length s
length_headed zero s b = rw (headed_none zero s b (omega arith)) (length-set s 0 b)
length_headed (suc held) s b = ap length (headed_some (suc held) s b (λ e. omega arith))

-- ---- the last fragment, and a tail

module _ (r : Joiner) (s : List ℕ) (b : ℕ) where
  pub finish_one : r.nfrag < 2 → finish_of r s b ≡ answered (Done r.held) (ended r) (set s 0 b)
  unfolding finish_of pick
  finish_one h = simp (lt-ltb _ _ h)

  pub finish_good : 2 ≤ r.nfrag → crc_bits (take r.held (set s 0 b)) r.crc_mask ≡ bit_and r.count r.crc_mask
      → finish_of r s b ≡ answered (Done r.held) (ended r) (set s 0 b)
  unfolding finish_of pick
  finish_good h e = simp (le-ltb _ _ h, eq-eqb _ _ e)

  pub finish_bad : 2 ≤ r.nfrag → (crc_bits (take r.held (set s 0 b)) r.crc_mask ≡ bit_and r.count r.crc_mask → ⊥)
      → finish_of r s b ≡ answered (Dropped Check) (ended r) (set s 0 b)
  unfolding finish_of pick
  finish_bad h e = simp (le-ltb _ _ h, ne_eqb _ _ e)

  module _ (t : List ℕ) where
    pub grow_many : 255 ≤ r.nfrag → grow_of r s b t ≡ answered (Dropped Limit) (emptied r (leb 0x80 b)) s
    unfolding grow_of pick
    grow_many h =
        by_le (base_of r.held + length t) 5000
        (λ l. simp (le-ltb 5000 (base_of r.held + length t) l, le-leb _ _ h))
        (λ l. simp (lt-ltb 5000 (base_of r.held + length t) l))

    pub grow_long : 5000 < base_of r.held + length t → grow_of r s b t ≡ answered (Dropped Limit) (emptied r (leb 0x80 b)) s
    unfolding grow_of pick
    grow_long k = simp (lt-ltb 5000 (base_of r.held + length t) k)

    pub grow_more : r.nfrag < 255 → base_of r.held + length t ≤ 5000 → 0x80 ≤ b
        → grow_of r s b t ≡ answered More (grown r (length t)) (sets (headed r.held s b) (base_of r.held) t)
    unfolding grow_of pick
    grow_more h k m = simp (le-ltb 5000 (base_of r.held + length t) k, lt-leb _ _ h, le-leb _ _ m)

    pub grow_last : r.nfrag < 255 → base_of r.held + length t ≤ 5000 → b < 0x80
        → grow_of r s b t ≡ finish_of (grown r (length t)) (sets (headed r.held s b) (base_of r.held) t) b
    unfolding grow_of pick
    grow_last h k m = simp (le-ltb 5000 (base_of r.held + length t) k, lt-leb _ _ h, lt-leb _ _ m)

-- ---- a fragment

module _ (r : Joiner) (s f : List ℕ) (n : ℕ) where
  pub accept_over : r.overflow ≡ true
      → accept_of r s f n
      ≡ answered (Dropped Overflow) (record { held = r.held; nfrag = r.nfrag; count = r.count; crc_mask = r.crc_mask; overflow = leb 0x80 (get_or f 0 0) }) s
  unfolding accept_of pick
  accept_over o = simp o

  pub accept_short : r.overflow ≡ false → r.held ≡ 0 → 0x80 ≤ get_or f 0 0 → length f < 2 → accept_of r s f n ≡ answered (Dropped NoFragment) r s
  unfolding accept_of pick
  accept_short o h m l = simp (o, eq-eqb _ _ h, le-leb _ _ m, lt-ltb _ _ l)

  pub accept_first : r.overflow ≡ false → r.held ≡ 0 → 0x80 ≤ get_or f 0 0 → 2 ≤ length f
      → accept_of r s f n ≡ grow_of (started r (get_or f 1 0)) s (get_or f 0 0) (take (n - 2) (drop 2 f))
  unfolding accept_of pick
  accept_first o h m l = simp (o, eq-eqb _ _ h, le-leb _ _ m, le-ltb _ _ l)

  pub accept_only : r.overflow ≡ false → r.held ≡ 0 → get_or f 0 0 < 0x80
      → accept_of r s f n ≡ grow_of (started r r.count) s (get_or f 0 0) (take (n - 1) (drop 1 f))
  unfolding accept_of pick
  accept_only o h m = simp (o, eq-eqb _ _ h, lt-leb _ _ m)

  pub accept_next : r.overflow ≡ false → (r.held ≡ 0 → ⊥) → accept_of r s f n ≡ grow_of r s (get_or f 0 0) (take (n - 1) (drop 1 f))
  unfolding accept_of pick
  accept_next o h = simp (o, ne_eqb _ _ h)

-- ---- the refusals of a state

-- a refusal has a number, and none is 0
number_some : (e : Refusal) → 0 < number e
number_some Command = omega arith
number_some TooLong = omega arith
number_some Short = omega arith
number_some BadCall = omega arith
number_some Format = omega arith
number_some Output = omega arith
number_some NotDecoded = omega arith
number_some Field = omega arith
number_some Mask = omega arith
number_some Empty = omega arith
number_some FirstByte = omega arith
number_some Count = omega arith
number_some Number = omega arith
number_some Fragment = omega arith
number_some Marker = omega arith
number_some Control = omega arith
number_some State = omega arith
number_some Name = omega arith
number_some Kept = omega arith
number_some Tally = omega arith

-- the refusal that a call found, as its number
module _ {x : Option Refusal} {n : ℕ} (code : code_of x ≡ n) where
  pub code_is : {e : Refusal} → x ≡ Some e → n ≡ number e
  code_is h = sym code ∙ ap code_of h

  pub code_not : {e : Refusal} → x ≡ Some e → n ≡ 0 → ⊥
  code_not {e = e} h z = omega (arith, code_is h, number_some e)

  pub code_none : x ≡ None → n ≡ 0
  code_none h = sym code ∙ ap code_of h

module _ (r : Joiner) (size : ℕ) where
  pub refusal_store : (size ≡ 5000 → ⊥) → refusal_of r size ≡ 17
  unfolding refusal_of pick
  refusal_store h = simp (ne_eqb _ _ h)

  pub refusal_held : size ≡ 5000 → 5000 < r.held → refusal_of r size ≡ 17
  unfolding refusal_of pick
  refusal_held e h = simp (eq-eqb _ _ e, lt-ltb _ _ h)

  pub refusal_few : size ≡ 5000 → r.held ≤ 5000 → 255 < r.nfrag → refusal_of r size ≡ 17
  unfolding refusal_of pick
  refusal_few e l h = simp (eq-eqb _ _ e, le-ltb _ _ l, lt-ltb _ _ h)

-- no refusal: what the state and the store are then
pub record Sound (r : Joiner) (size : ℕ) : Type 0 where
  pub store : size ≡ 5000
  pub fit : r.held ≤ 5000
  pub few : r.nfrag ≤ 255
  pub mask : mask_ok r.crc_mask ≡ true

pub none_refused : (r : Joiner) (size : ℕ) → Sound r size → refusal_of r size ≡ 0
unfolding refusal_of pick
none_refused r size h = simp (eq-eqb _ _ h.store, le-ltb _ _ h.fit, le-ltb _ _ h.few, h.mask)

-- and only then
pub refused_none : (r : Joiner) (size : ℕ) → refusal_of r size ≡ 0 → Sound r size
unfolding refusal_of pick
refused_none r size e =
    by_test (mask_ok r.crc_mask)
    (λ m. by_eq size 5000
    (λ a. by_le r.held 5000
    (λ b. by_le r.nfrag 255
    (λ d. record { store = a; fit = b; few = d; mask = m })
    (λ d. absurd (omega (arith, simp (m, eq-eqb _ _ a, le-ltb _ _ b, lt-ltb _ _ d) at e))))
    (λ b. absurd (omega (arith, simp (m, eq-eqb _ _ a, lt-ltb _ _ b) at e))))
    (λ a. absurd (omega (arith, simp (m, ne_eqb _ _ a) at e))))
    (λ m. by_eq size 5000
    (λ a. by_le r.held 5000
    (λ b. by_le r.nfrag 255
    (λ d. absurd (omega (arith, simp (m, eq-eqb _ _ a, le-ltb _ _ b, le-ltb _ _ d) at e)))
    (λ d. absurd (omega (arith, simp (m, eq-eqb _ _ a, le-ltb _ _ b, lt-ltb _ _ d) at e))))
    (λ b. absurd (omega (arith, simp (m, eq-eqb _ _ a, lt-ltb _ _ b) at e))))
    (λ a. absurd (omega (arith, simp (m, ne_eqb _ _ a) at e))))

-- ---- `join`

module _ (r : Joiner) (s f : List ℕ) (n : ℕ) where
  pub join_refused : (refusal_of r (length s) ≡ 0 → ⊥) → join_of r s f n ≡ turned_away (refusal_of r (length s)) r s
  unfolding join_of pick
  join_refused h =
      let p : 0 < refusal_of r (length s) = omega (arith, h) in
      rw (lt-ltb 0 (refusal_of r (length s)) p)

  module _ (e : refusal_of r (length s) ≡ 0) where
    pub join_empty : n ≡ 0 → join_of r s f n ≡ answered (Dropped NoFragment) r s
    unfolding join_of pick
    join_empty z = simp (e, eq-eqb _ _ z)

    pub join_past : (n ≡ 0 → ⊥) → length f < n → join_of r s f n ≡ answered (Dropped NoFragment) r s
    unfolding join_of pick
    join_past z p = simp (e, ne_eqb _ _ z, lt-ltb _ _ p)

    pub join_on : (n ≡ 0 → ⊥) → n ≤ length f → join_of r s f n ≡ accept_of r s f n
    unfolding join_of pick
    join_on z p = simp (e, ne_eqb _ _ z, le-ltb _ _ p)
