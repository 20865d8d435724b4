-- The ways through the coders of bodies.
-- Assumes nothing.
use Rattle.std.proofs.Common.{Result, Err}
use Rattle.refusals.specs.declared.Refusal.{Refusal}
use mathlib.Core.Path.{◌≡◌, refl, ap, ◌∙◌}
use mathlib.Core.Bool.{Bool, false}
use mathlib.Core.List.{List}
use Rattle.std.proofs.Common.{Option, None}
use Prim.Native.Nat.{ℕ, ◌+◌, ◌-◌, ◌≤◌, min}
use native.Mathlib.Omega.{arith}
use lib.ListN.{length, take, drop, drop_of_length-le}
use borrow.Author.Tests.{ne_eqb}
use Rattle.laws.specs.Pick.{pick}
use Rattle.laws.proofs.Cases.{by_le}
use Rattle.laws.proofs.ListLaws.{from_place}
use Rattle.refusals.specs.Outcome.{Outcome, refused, outcome_of}
use Rattle.ax25_token.specs.Token.{token_bits}
use Rattle.ax25_token.proofs.PutLaws.{Gave}
use Rattle.ax25_address.specs.declared.classify.AprsType.{AprsType}
use Rattle.ax25_address.specs.declared.classify.AprsType.TheVariants as kind
use Rattle.ax25_address.specs.Kind.{type_number}
use Rattle.ax25_address.specs.Types.{Text, Position, TimestampedPosition}
use Rattle.ax25_aprs.specs.Body.{call_of, timestamped_bits, message_bits, body_bits}
use Rattle.ax25_aprs.specs.Coded.{◌then◌, or_refused}
use Rattle.ax25_aprs.specs.LatLon.{latlon_bits}
use Rattle.ax25_aprs.specs.Put.{Does}
use Rattle.ax25_aprs.specs.Text.{text_bits}
use Rattle.ax25_aprs.specs.Third.{call_part}
use Rattle.ax25_aprs.proofs.PartLaws.{does_then}
use Rattle.ax25_aprs.proofs.Sizes.{part_most}
use Rattle.ax25_aprs.proofs.ValueLaws.{take_min}
use Rattle.ax25_body.specs.Read.{after_type}
use Rattle.ax25_body.proofs.BodyLaws.{Others, other_number}

-- ---- parts of a slice that may be shorter

-- `&s[..n]`, where n is k or the length
pub front_min : {A : Type 0} (s : List A) (k n : ℕ) → n ≡ min k (length s) → take n s ≡ take k s
front_min s k n e = ap (λ (m : ℕ). take m s) e ∙ take_min k s

-- `&s[n..]`
pub rest_min : {A : Type 0} (s : List A) (k n : ℕ) → n ≡ min k (length s) → take (length s - n) (drop n s) ≡ drop k s
rest_min s k n e =
    from_place s n
    ∙ by_le k (length s)
    (λ h. let f : n ≡ k = omega (arith, e) in ap (λ (m : ℕ). drop m s) f)
    (λ h. drop_of_length-le s {i = n} (omega (arith, e)) ∙ rw (drop_of_length-le s {i = k} (omega arith)))

-- ---- a call, and what follows it

module _ (k : ℕ) (o : Option (List Bool)) (q : Outcome (List Bool)) (b : List Bool) (at : ℕ) (d : List Bool) where
  pub does_gave : (c : List Bool) (p : ℕ) (r : Result ℕ Refusal) → Gave o b at c p → Does q c p d r → Does (or_refused k o then q) b at d r
  does_gave c p r g h = rw g.is (does_then g.wrote q d r h)

  pub does_bad : (r : Result ℕ Refusal) → outcome_of r ≡ refused k → o ≡ None → Does (or_refused k o then q) b at d r
  does_bad r h e = rw e h

-- a call from at most ten bytes takes at most 64 bits
pub gave_near : (l : ℕ) → 2 ≤ l → l ≤ 7 → (s : List ℕ) → length s ≤ 10 → (b : List Bool) (at : ℕ) (c : List Bool) (p : ℕ)
    → Gave (token_bits l (call_of s)) b at c p → p ≤ at + 64
unfolding call_part
gave_near l low high s h b at c p g =
    omega (arith, g.wrote.next_is, part_most l low (omega arith) s h g.bits (ap (or_refused 4) g.is))

-- ---- a message

pub message_is : (l : ℕ) (s x y : List ℕ) → x ≡ take 9 s → y ≡ drop 10 s
    → message_bits l s ≡ (or_refused 4 (token_bits l (call_of x)) then or_refused 5 (text_bits false y))
unfolding message_bits
message_is l s x y e f = rw (e, f)

-- ---- a body by its type

module _ (t : AprsType) (l : ℕ) (s : List ℕ) where
  pub code_text_lem : t ≡ kind.Text → body_bits (type_number t) l (after_type (type_number t) s) ≡ or_refused 5 (text_bits false s)
  unfolding body_bits after_type pick
  code_text_lem e = rw e

  pub code_position : t ≡ kind.Position → body_bits (type_number t) l (after_type (type_number t) s) ≡ latlon_bits (drop 1 s)
  unfolding body_bits after_type pick
  code_position e = rw e

  pub code_timestamped : t ≡ kind.TimestampedPosition → body_bits (type_number t) l (after_type (type_number t) s) ≡ timestamped_bits (drop 1 s)
  unfolding body_bits after_type pick
  code_timestamped e = rw e

  pub code_other : Others t → body_bits (type_number t) l (after_type (type_number t) s) ≡ message_bits l (drop 1 s)
  unfolding body_bits after_type pick
  code_other h =
      let n = other_number t h in
      rw (ne_eqb (type_number t) Text n.0, ne_eqb (type_number t) Position n.1, ne_eqb (type_number t) TimestampedPosition n.2)
