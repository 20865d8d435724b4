-- One part of a frame after another, coded and read.
-- Assumes nothing.
use mathlib.Core.Path.{◌≡◌, refl, sym, ap}
use mathlib.Core.Bool.{Bool}
use mathlib.Core.List.{List, ◌++◌}
use Rattle.std.proofs.Common.{Option, None, Some, Result, Ok, Err}
use Prim.Native.Nat.{ℕ, ◌+◌}
use native.Mathlib.Omega.{arith}
use lib.ListN.{length, length-append}
use Rattle.laws.specs.Pick.{◌>>=◌}
use Rattle.laws.specs.Wrote.{Wrote}
use Rattle.laws.proofs.WroteLaws.{wrote_then}
use Rattle.refusals.specs.Outcome.{Outcome, refused, answer, number}
use Rattle.refusals.specs.declared.Refusal.{Refusal}
use Rattle.refusals.proofs.OutcomeLaws.{answer_not, same_refusal}
use Rattle.ax25_aprs.specs.Coded.{◌then◌, or_refused}
use Rattle.ax25_aprs.specs.Put.{Does, Reads}
use Rattle.ax25_aprs.specs.Text.{before, joined}

-- a write gives its place
pub at_place : {A : Type 0} {b : List A} {at : ℕ} {x c : List A} {next : ℕ} → Wrote b at x c next → Wrote b at x c (at + length x)
at_place w = record { stored = w.stored; next_is = refl }

-- ---- coded

-- a write that was done
pub does : {b : List Bool} {at : ℕ} {x c : List Bool} {next : ℕ} → Wrote b at x c next → Does (answer x) b at c (Ok next)
does w = (ap (λ (n : ℕ). Ok n) w.next_is, at_place w)

-- what is done after a write is done from its start
pub does_then : {b : List Bool} {at : ℕ} {x c : List Bool} {p : ℕ} → Wrote b at x c p → (o : Outcome (List Bool)) (d : List Bool) (r : Result ℕ Refusal)
    → Does o c p d r → Does (answer x then o) b at d r
does_then {b} {at} {x} {c} {p} w (refused n) d r h = h
does_then {b} {at} {x} {c} {p} w (answer y) d r h =
    let e : p + length y ≡ at + length (x ++ y) = omega (arith, w.next_is, length-append x y) in
    (rw e at h.0, rw e at (wrote_then w h.1))

-- a part that gave a next position wrote its bits
pub record Done (o : Outcome (List Bool)) (b : List Bool) (at : ℕ) (c : List Bool) (p : ℕ) : Type 0 where
  pub bits : List Bool
  pub is_coded : o ≡ answer bits
  pub wrote : Wrote b at bits c p

pub done : (o : Outcome (List Bool)) (b : List Bool) (at : ℕ) (c : List Bool) (p : ℕ) → Does o b at c (Ok p) → Done o b at c p
done (refused n) b at c p h = absurd (answer_not h)
done (answer x) b at c p h =
    let f : ◌≡◌ {A = Result ℕ Refusal} (Ok p) (Ok (at + length x)) = h.0 in
    record { bits = x; is_coded = refl; wrote = record { stored = h.1.stored; next_is = cc } }

-- a part that was refused
pub was_refused : (o : Outcome (List Bool)) (b : List Bool) (at : ℕ) (c : List Bool) (e : Refusal) → Does o b at c (Err e) → o ≡ refused (number e)
was_refused (refused m) b at c e h = ap (λ (n : ℕ). refused n) (sym (same_refusal h))
was_refused (answer x) b at c e h =
    let f : ◌≡◌ {A = Result ℕ Refusal} (Err e) (Ok (at + length x)) = h.0 in
    cc

-- bits before those of a text
pub refused_joined : (n : ℕ) (x : List Bool) (y : Option (List Bool)) → or_refused n (joined (Some x) y) ≡ (answer x then or_refused n y)
unfolding joined before
refused_joined n x None = refl
refused_joined n x (Some y) = refl

-- ---- read

-- a text that was written
pub reads : {b : List ℕ} {to : ℕ} {x c : List ℕ} {next : ℕ} → Wrote b to x c next → Reads (Some x) b to c (Some next)
reads w = (ap Some w.next_is, at_place w)

-- what is read after a write stands after it
pub reads_then : {b : List ℕ} {to : ℕ} {x c : List ℕ} {p : ℕ} → Wrote b to x c p → (o : Option (List ℕ)) (d : List ℕ) (r : Option ℕ)
    → Reads o c p d r → Reads (o >>= (λ t. Some (x ++ t))) b to d r
reads_then {b} {to} {x} {c} {p} w None d r h = h
reads_then {b} {to} {x} {c} {p} w (Some y) d r h =
    let e : p + length y ≡ to + length (x ++ y) = omega (arith, w.next_is, length-append x y) in
    (rw e at h.0, rw e at (wrote_then w h.1))
