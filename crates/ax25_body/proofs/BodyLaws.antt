-- Bodies by cases, for the code.
-- Assumes nothing.
use mathlib.Core.Path.{◌≡◌, refl, ap, ◌∙◌}
use mathlib.Core.Logic.{inl, inr}
use mathlib.Core.Bool.{Bool, false}
use mathlib.Core.List.{List, [], ◌∷◌, ◌++◌, append-nil}
use Rattle.std.proofs.Common.{None, Some}
use Prim.Native.Nat.{ℕ, zero, suc, ◌-◌, ◌≤◌}
use native.Mathlib.Omega.{arith}
use lib.ListN.{length, take, drop, replicate, length-replicate}
use lib.Seq.{take_all}
use borrow.Author.Tests.{ne_eqb}
use Rattle.laws.specs.Pick.{pick}
use Rattle.laws.specs.Text.{filled}
use Rattle.ax25_token.specs.Token.{read_token}
use Rattle.ax25_address.specs.declared.classify.AprsType.{AprsType}
use Rattle.ax25_address.specs.declared.classify.AprsType.TheVariants as kind
use Rattle.ax25_address.specs.contracts.classify.AprsType.{the_type}
use Rattle.ax25_address.specs.Kind.{type_number}
use Rattle.ax25_address.specs.Types.{Text, Position, TimestampedPosition}
use Rattle.ax25_aprs.specs.Text.{read_text}
use Rattle.ax25_aprs.specs.Body.{read_timestamped, read_message, read_body}
use Rattle.ax25_body.specs.Read.{read_position}

-- ---- a text filled up with blanks

pub filled_long : (n : ℕ) (s : List ℕ) → n ≤ length s → filled n s ≡ s
unfolding filled
filled_long n s h =
    let e : n - length s ≡ 0 = omega arith in
    rw e (append-nil s)

blanks_left : (m n : ℕ) → drop {A = ℕ} n (replicate m 32) ≡ replicate (m - n) 32
blanks_left m zero = let e : m ≡ m - 0 = omega arith in ap (λ (k : ℕ). replicate k 32) e
blanks_left zero (suc n) = let e : 0 ≡ 0 - suc n = omega arith in ap (λ (k : ℕ). replicate k 32) e
blanks_left (suc m) (suc n) = let e : m - n ≡ suc m - suc n = omega arith in blanks_left m n ∙ ap (λ (k : ℕ). replicate k 32) e

-- blanks from a place on, as `&blanks[n..m]`
pub filled_short : (m n : ℕ) (s : List ℕ) → n ≡ length s → filled m s ≡ s ++ take (m - n) (drop n (replicate m 32))
unfolding filled
filled_short m n s e =
    rw (blanks_left m n, take_all {A = ℕ} (m - n) (replicate (m - n) 32) (omega (arith, length-replicate {A = ℕ} (m - n) 32)), e)

-- ---- a message

module _ (mended : Bool) (l : ℕ) (b : List Bool) where
  pub message_none : read_token mended l b ≡ None → read_message mended l b ≡ None
  unfolding read_message
  message_none e = rw e

  pub message_some : (c : List ℕ) (r : List Bool) → read_token mended l b ≡ Some (c, r)
      → read_message mended l b ≡ Some ((0x3A ∷ []) ++ (filled 9 c ++ ((0x3A ∷ []) ++ read_text false r)))
  unfolding read_message
  message_some c r e = rw e

-- ---- a type of none of three numbers

-- the types that the last arm takes: Binary, Message, ThirdParty
abbrev pub Others : AprsType → Type 0
Others t = (t ≡ kind.Text → ⊥) × (t ≡ kind.Position → ⊥) × (t ≡ kind.TimestampedPosition → ⊥)

abbrev pub Beside : ℕ → Type 0
Beside n = (n ≡ Text → ⊥) × (n ≡ Position → ⊥) × (n ≡ TimestampedPosition → ⊥)

pub other_number : (t : AprsType) → Others t → Beside (type_number t)
other_number kind.Text h = absurd (h.0 refl)
other_number kind.Binary h = (λ f. omega (arith, f), λ f. omega (arith, f), λ f. omega (arith, f))
other_number kind.Position h = absurd (h.1 refl)
other_number kind.TimestampedPosition h = absurd (h.2 refl)
other_number kind.Message h = (λ f. omega (arith, f), λ f. omega (arith, f), λ f. omega (arith, f))
other_number kind.ThirdParty h = (λ f. omega (arith, f), λ f. omega (arith, f), λ f. omega (arith, f))

-- ---- a body by its type

module _ (mended : Bool) (t : AprsType) (l : ℕ) (b : List Bool) where
  pub read_text_lem : t ≡ kind.Text → read_body mended (type_number t) l b ≡ Some (read_text false b)
  unfolding read_body pick
  read_text_lem e = rw e

  pub read_position_lem : t ≡ kind.Position → read_body mended (type_number t) l b ≡ read_position b
  unfolding read_body read_position pick
  read_position_lem e = rw e

  pub read_timestamped_lem : t ≡ kind.TimestampedPosition → read_body mended (type_number t) l b ≡ read_timestamped b
  unfolding read_body pick
  read_timestamped_lem e = rw e

  pub read_other : Others t → read_body mended (type_number t) l b ≡ read_message mended l b
  unfolding read_body pick
  read_other h =
      let n = other_number t h in
      rw (ne_eqb (type_number t) Text n.0, ne_eqb (type_number t) Position n.1, ne_eqb (type_number t) TimestampedPosition n.2)
