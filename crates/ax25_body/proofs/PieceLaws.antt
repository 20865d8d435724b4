-- The ways through the coder of third-party bodies.
-- Assumes nothing.
use Rattle.std.proofs.Common.{Option, Some, Result, Ok, Err}
use Rattle.std.specs.Result.{IsErrAnd}
use Rattle.std.proofs.lemmas.Result.{err_from_is_err_and}
use Rattle.refusals.specs.declared.Refusal.{Refusal}
use Rattle.refusals.specs.declared.Refusal.TheVariants as refusal
use mathlib.Core.Path.{◌≡◌, refl, sym, ap, subst, ◌∙◌}
use mathlib.Core.Bool.{Bool, true, false, ◌&&◌}
use mathlib.Core.List.{List, [], ◌∷◌}
use Rattle.std.proofs.Common.{None}
use Prim.Native.Nat.{ℕ, zero, suc, ◌+◌, ◌-◌, ◌≤◌, ◌<◌}
use native.Mathlib.Omega.{arith}
use lib.ListN.{length, get_or, take, drop}
use lib.Seq.{drop-drop}
use lib.Dec.{eqb}
use Rattle.laws.specs.Bits.{bits_of}
use Rattle.laws.specs.Pick.{pick}
use Rattle.laws.specs.Text.{is_digit}
use Rattle.refusals.specs.Outcome.{Outcome, refused, answer, number}
use Rattle.ax25_token.specs.Token.{token_bits}
use Rattle.ax25_token.proofs.PutLaws.{Gave}
use Rattle.ax25_address.specs.Classify.{one_of}
use Rattle.ax25_address.specs.Types.{Text, Position, TimestampedPosition, Message}
use Rattle.ax25_aprs.specs.Body.{call_of, body_bits}
use Rattle.ax25_aprs.specs.Coded.{◌then◌, or_refused}
use Rattle.ax25_aprs.specs.Put.{Does, span_in, field_in, Within}
use Rattle.ax25_aprs.specs.Third.{Field, short, collect_of, call_part, call_field, inner_bits, last_field, path_field, third_bits, inner_type}
use Rattle.ax25_aprs.specs.declared.third.Span.{Span}
use Rattle.ax25_aprs.proofs.PartLaws.{does_then}
use Rattle.ax25_aprs.proofs.Sizes.{part_most}
use Rattle.ax25_body.specs.Read.{after_type, inner_number, second_bits}
use Rattle.ax25_body.specs.Pass.{Coded, Uncoded, Codes}

-- ---- what `collect` found

module _ (k : ℕ) (d : List ℕ) (r : Option Span) where
  pub found_is : (f : Field) (s : Span) → r ≡ Some s → field_in d r ≡ f → f ≡ span_in d s.end s.next
  found_is f s e h = sym h ∙ ap (field_in d) e

  pub found_within : (s : Span) → r ≡ Some s → Within k d r → (s.end ≤ k) × (s.end ≤ length d) × (s.next ≤ length d)
  found_within s e h = subst (Within k d) e h

  pub found_short : (f : Field) → r ≡ None → field_in d r ≡ f → f ≡ short
  found_short f e h = sym h ∙ ap (field_in d) e

-- ---- the definitions by where a field ends

module _ (l : ℕ) (d : List ℕ) (end : ℕ) where
  field_is : (i : ℕ) (next : List ℕ → Outcome (List Bool)) → call_field l (span_in d end i) d next ≡ (call_part l (take end d) then next (drop i d))
  unfolding call_field span_in
  field_is zero next = refl
  field_is (suc i) next = refl

  last_full : (i : ℕ) → i ≡ 0 → last_field l (span_in d end i) d ≡ (call_part l (take end d) then inner_bits l d)
  unfolding last_field span_in
  last_full zero e = refl
  last_full (suc i) e = absurd (omega (arith, e))

  last_ended : (i : ℕ) → (i ≡ 0 → ⊥) → last_field l (span_in d end i) d ≡ (call_part l (take end d) then inner_bits l (drop (i + 1) d))
  unfolding last_field span_in
  last_ended zero h = absurd (h refl)
  last_ended (suc i) h = rw (drop-drop 1 (suc i) d)

  pub path_full : (f : Field) (i : ℕ) → f ≡ span_in d end i → i ≡ 0 → path_field l f ≡ refused 5
  unfolding path_field span_in
  path_full f i g e = rw (g, e)

  pub path_ended : (f : Field) (i : ℕ) → f ≡ span_in d end i → (i ≡ 0 → ⊥) → path_field l f ≡ last_field l (collect_of 0x2A 10 (drop i d)) (drop i d)
  unfolding path_field span_in
  path_ended f zero g h = absurd (h refl)
  path_ended f (suc i) g h = rw g

  bad_field : (i : ℕ) → call_part l (take end d) ≡ refused 4 → (e : List ℕ) (next : List ℕ → Outcome (List Bool)) → call_field l (span_in d end i) e next ≡ refused 4
  unfolding call_field span_in
  bad_field zero h e next = rw h
  bad_field (suc i) h e next = rw h

  bad_last : (i : ℕ) → call_part l (take end d) ≡ refused 4 → (e : List ℕ) → last_field l (span_in d end i) e ≡ refused 4
  unfolding last_field span_in
  bad_last zero h e = rw h
  bad_last (suc i) h e = rw h

pub path_short : (l : ℕ) (f : Field) → f ≡ short → path_field l f ≡ refused 3
unfolding path_field
path_short l f e = rw e

-- ---- an answer of a field

module _ (l : ℕ) (f : Field) (d : List ℕ) (b : List Bool) (at : ℕ) (c : List Bool) where
  pub coded : (r : Result (ℕ × ℕ) Refusal) (i p : ℕ) → r ≡ Ok (i, p) → Codes l f d b at c r → Coded l f d b at c i p
  unfolding Codes
  coded r i p e h = subst (λ (t : Result (ℕ × ℕ) Refusal). Codes l f d b at c t) e h

  pub uncoded : (r : Result (ℕ × ℕ) Refusal) (e : Refusal) → r ≡ Err e → Codes l f d b at c r → Uncoded l f (number e)
  unfolding Codes
  uncoded r n e h = subst (λ (t : Result (ℕ × ℕ) Refusal). Codes l f d b at c t) e h

  -- what the exit of a `?` passes on
  pub codes_exit : (x : Refusal) (r : Result (ℕ × ℕ) Refusal) → IsErrAnd r (λ y. y ≡ x) → Codes l f d b at c (Err x) → Codes l f d b at c r
  codes_exit x r h k =
      let p = err_from_is_err_and r h in
      rw (p.1, p.2) k

  pub codes_short : f ≡ short → Codes l f d b at c (Err refusal.Short)
  unfolding Codes call_field last_field
  codes_short e = record { call = λ x next. rw e; last = λ x. rw e }

  pub codes_bad : (end i : ℕ) → f ≡ span_in d end i → token_bits l (call_of (take end d)) ≡ None → Codes l f d b at c (Err refusal.BadCall)
  unfolding Codes call_part
  codes_bad end i e h =
      let n : call_part l (take end d) ≡ refused 4 = ap (or_refused 4) h in
      record { call = λ x next. rw e (bad_field l d end i n x next); last = λ x. rw e (bad_last l d end i n x) }

  pub codes_gave : 2 ≤ l → l ≤ 7 → (end i p : ℕ) → f ≡ span_in d end i → length (take end d) ≤ 10 → i ≤ length d
      → Gave (token_bits l (call_of (take end d))) b at c p → Codes l f d b at c (Ok (i, p))
  unfolding Codes call_part
  codes_gave low high end i p e m w g =
      let n : call_part l (take end d) ≡ answer g.bits = ap (or_refused 4) g.is in
      record {
        end = end;
        is = e;
        within = w;
        bits = g.bits;
        coded = n;
        few = part_most l low (omega arith) (take end d) m g.bits n;
        wrote = g.wrote;
      }

  module _ (i p : ℕ) (h : Coded l f d b at c i p) where
    pub coded_near : p ≤ at + 64
    coded_near = omega (arith, h.wrote.next_is, h.few)

    -- what follows the field is coded after it
    pub does_field : (next : List ℕ → Outcome (List Bool)) (e : List Bool) (r : Result ℕ Refusal) → Does (next (drop i d)) c p e r → Does (call_field l f d next) b at e r
    does_field next e r k = rw (h.is, field_is l d h.end i next, h.coded) (does_then h.wrote (next (drop i d)) e r k)

    pub does_full : i ≡ 0 → (e : List Bool) (r : Result ℕ Refusal) → Does (inner_bits l d) c p e r → Does (last_field l f d) b at e r
    does_full z e r k = rw (h.is, last_full l d h.end i z, h.coded) (does_then h.wrote (inner_bits l d) e r k)

    pub does_ended : (i ≡ 0 → ⊥) → (e : List Bool) (r : Result ℕ Refusal) → Does (inner_bits l (drop (i + 1) d)) c p e r → Does (last_field l f d) b at e r
    does_ended z e r k = rw (h.is, last_ended l d h.end i z, h.coded) (does_then h.wrote (inner_bits l (drop (i + 1) d)) e r k)

-- ---- the three calls

pub third_is : (l : ℕ) (d : List ℕ) → third_bits l d ≡ call_field l (collect_of 0x3E 10 d) d (second_bits l)
unfolding third_bits second_bits
third_is l d = refl

pub second_is : (l : ℕ) (d : List ℕ) → second_bits l d ≡ call_field l (collect_of 0x2C 10 d) d (λ e. path_field l (collect_of 0x2C 14 e))
unfolding second_bits
second_is l d = refl

-- ---- the inner type

module _ (d : List ℕ) where
  abbrev place : Bool
  place = one_of (get_or d 0 0) 0x21 0x3D && is_digit (get_or d 1 0)

  abbrev timed : Bool
  timed = one_of (get_or d 0 0) 0x40 0x2F && is_digit (get_or d 1 0)

  pub number_zero : place ≡ true → 0 ≡ inner_number d
  unfolding inner_number pick
  number_zero e = rw e

  pub number_one : place ≡ false → timed ≡ true → 1 ≡ inner_number d
  unfolding inner_number pick
  number_one e f = rw (e, f)

  pub number_two : place ≡ false → timed ≡ false → eqb (get_or d 0 0) 0x3A ≡ true → 2 ≡ inner_number d
  unfolding inner_number pick
  number_two e f g = rw (e, f, g)

  pub number_last : place ≡ false → timed ≡ false → eqb (get_or d 0 0) 0x3A ≡ false → 3 ≡ inner_number d
  unfolding inner_number pick
  number_last e f g = rw (e, f, g)

module _ (l : ℕ) where
  pub inner_short : (d : List ℕ) → length d < 2 → inner_bits l d ≡ refused 3
  unfolding inner_bits
  inner_short [] h = refl
  inner_short (c ∷ []) h = refl
  inner_short (c ∷ x ∷ d) h = absurd (omega arith)

  -- by the three tests
  module _ (s : List ℕ) where
    tests_is : (a b e : Bool) (k : ℕ) → k ≡ pick a 0 (pick b 1 (pick e 2 3))
        → pick a (answer (bits_of 2 0) then body_bits Position l (drop 1 s))
        (pick b (answer (bits_of 2 1) then body_bits TimestampedPosition l (drop 1 s))
        (pick e (answer (bits_of 2 2) then body_bits Message l (drop 1 s)) (answer (bits_of 2 3) then body_bits Text l s)))
        ≡ (answer (bits_of 2 k) then body_bits (inner_type k) l (after_type (inner_type k) s))
    unfolding pick after_type
    tests_is true b e k h = rw h
    tests_is false true e k h = rw h
    tests_is false false true k h = rw h
    tests_is false false false k h = rw h

  pub inner_is : (d : List ℕ) → 2 ≤ length d → (k : ℕ) → k ≡ inner_number d
      → inner_bits l d ≡ (answer (bits_of 2 k) then body_bits (inner_type k) l (after_type (inner_type k) d))
  unfolding inner_bits inner_number
  inner_is [] h k e = absurd (omega arith)
  inner_is (c ∷ []) h k e = absurd (omega arith)
  inner_is (c ∷ x ∷ d) h k e = tests_is (c ∷ x ∷ d) (one_of c 0x21 0x3D && is_digit x) (one_of c 0x40 0x2F && is_digit x) (eqb c 0x3A) k e
