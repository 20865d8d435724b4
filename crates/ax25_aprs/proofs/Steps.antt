-- What the answers of the coder of a text say, and one step of it after another.
-- Assumes nothing.
use mathlib.Core.Path.{◌≡◌, refl, sym, ap}
use mathlib.Core.Bool.{Bool}
use mathlib.Core.List.{List, [], ◌∷◌}
use Rattle.std.proofs.Common.{Option, None, Some, Result, Ok, Err}
use Rattle.std.proofs.lemmas.Option.{none-some, some_pair_parts}
use Prim.Native.Nat.{ℕ, ◌+◌, ◌-◌, ◌*◌, ◌≤◌, ◌<◌}
use native.Mathlib.Omega.{arith}
use lib.ListN.{length, drop, length-drop}
use lib.Seq.{drop-drop}
use Rattle.laws.specs.Wrote.{Wrote}
use Rattle.laws.proofs.WroteLaws.{wrote_none}
use Rattle.ax25_aprs.specs.Text.{joined, text_bits}
use Rattle.ax25_aprs.specs.Runs.{part_bits, part_size}
use Rattle.ax25_aprs.specs.Coded.{or_refused}
use Rattle.refusals.specs.declared.Refusal.{Refusal}
use Rattle.refusals.specs.declared.Refusal.TheVariants as refusal
use Rattle.ax25_aprs.specs.Put.{Stepped, Does}
use Rattle.ax25_aprs.proofs.PartLaws.{at_place, does, does_then, refused_joined}
use Rattle.ax25_aprs.proofs.TextLaws.{text_nil}
use Rattle.ax25_aprs.proofs.RunLaws.{part_step, part_pos, part_le, part_bits_lem}

-- a write that was done
pub stepped : {b : List Bool} {at : ℕ} {x c : List Bool} {next : ℕ} (k : ℕ) → Wrote b at x c next → Stepped (Some x) k b at c (Some (k, next))
stepped k h = (ap (λ (n : ℕ). Some (k, n)) h.next_is, at_place h)

record Taken (o : Option (List Bool)) (k : ℕ) (b : List Bool) (at : ℕ) (c : List Bool) (size place : ℕ) : Type 0 where
  x : List Bool
  is_some_holds : o ≡ Some x
  size_is : size ≡ k
  done : Wrote b at x c place

took : (o : Option (List Bool)) (k : ℕ) (b : List Bool) (at : ℕ) (c : List Bool) (size place : ℕ) → Stepped o k b at c (Some (size, place)) → Taken o k b at c size place
took None k b at c size place e = absurd (none-some (size, place) (sym e))
took (Some x) k b at c size place e =
    let f = some_pair_parts size k place (at + length x) e.0 in
    record { x = x; is_some_holds = refl; size_is = f.0; done = record { stored = e.1.stored; next_is = f.1 } }

stuck : (o : Option (List Bool)) (k : ℕ) (b : List Bool) (at : ℕ) (c : List Bool) → Stepped o k b at c None → o ≡ None
stuck None k b at c e = refl
stuck (Some x) k b at c e = absurd (none-some (k, at + length x) e.0)

-- one turn over a text s, at its byte i: from the bits b at a position, size bytes coded, which leaves c and the next position
pub record Turn (p : Bool) (s : List ℕ) (i : ℕ) (b : List Bool) (at : ℕ) (c : List Bool) (size place : ℕ) : Type 0 where
  pub grows : 0 < size
  pub within : i + size ≤ length s
  pub room : place + (length s - (i + size)) * 7 ≤ at + (length s - i) * 7
  pub on : (e : List Bool) (r : Result ℕ Refusal) → Does (or_refused 5 (text_bits p (drop (i + size) s))) c place e r → Does (or_refused 5 (text_bits p (drop i s))) b at e r

module _ (p : Bool) (s : List ℕ) (i : ℕ) (h : i < length s) (b : List Bool) (at : ℕ) where
  some_byte : 0 < length (drop i s)
  some_byte = omega (arith, length-drop i s)

  turn_of : (c : List Bool) (size place : ℕ) (x : List Bool) → part_bits p (drop i s) ≡ Some x → size ≡ part_size p (drop i s) → Wrote b at x c place
      → Turn p s i b at c size place
  turn_of c size place x is_some_holds size_is done =
      let t = drop i s in
      let few = part_le p t some_byte in
      let bits_few = part_bits_lem p t x is_some_holds in
      record {
        grows = omega (arith, part_pos p t);
        within = omega (arith, length-drop i s);
        room = omega (arith, length-drop i s, done.next_is);
        on = λ e r d.
            rw (part_step p t some_byte, is_some_holds, drop-drop (part_size p t) i s, ← size_is, refused_joined 5 x (text_bits p (drop (i + size) s)))
            (does_then done (or_refused 5 (text_bits p (drop (i + size) s))) e r d);
      }

  pub turn : (c : List Bool) (size place : ℕ) → Stepped (part_bits p (drop i s)) (part_size p (drop i s)) b at c (Some (size, place)) → Turn p s i b at c size place
  turn c size place f =
      let k = took (part_bits p (drop i s)) (part_size p (drop i s)) b at c size place f in
      turn_of c size place k.x k.is_some_holds k.size_is k.done

  -- an altitude that is no number ends it
  pub stop : (c e : List Bool) → Stepped (part_bits p (drop i s)) (part_size p (drop i s)) b at c None → Does (or_refused 5 (text_bits p (drop i s))) b at e (Err refusal.Format)
  unfolding joined
  stop c e f = rw (part_step p (drop i s) some_byte, stuck (part_bits p (drop i s)) (part_size p (drop i s)) b at c f) refl

-- nothing is left
pub all_done : (p : Bool) (s : List ℕ) (b : List Bool) (at : ℕ) → length s ≡ 0 → Does (or_refused 5 (text_bits p s)) b at b (Ok at)
all_done p [] b at h = rw (text_nil p) (does wrote_none)
all_done p (c ∷ s) b at h = absurd (omega arith)
