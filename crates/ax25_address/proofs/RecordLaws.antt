-- The record of a frame, from where its parts stand.
-- Assumes nothing.
use mathlib.Core.Path.{◌≡◌, refl, sym, ap, subst, ◌∙◌}
use mathlib.Core.Bool.{Bool, ◌&&◌, not}
use mathlib.Core.List.{List, map}
use Rattle.std.proofs.Common.{Option, None, Some}
use Rattle.std.proofs.lemmas.Option.{none-some, same_Some}
use Prim.Native.Nat.{ℕ, ◌+◌, ◌-◌, ◌*◌, ◌≤◌}
use native.Mathlib.Nat.{add-mul}
use native.Mathlib.Omega.{arith}
use lib.ListN.{length, get_or, drop}
use lib.Dec.{eqb}
use Rattle.laws.specs.Pick.{pick}
use Rattle.laws.specs.Text.{ascii, upper, starts}
use Rattle.laws.proofs.Cases.{by_test}
use Rattle.ax25_address.specs.Address.{addr_call}
use Rattle.ax25_address.specs.Classify.{classify_of}
use Rattle.ax25_address.specs.Parse.{Parsed, fields_of, parse_of, type_of, alias_of}
use Rattle.ax25_address.specs.Record.{Seen, seen, seen_of}
use Rattle.ax25_address.specs.Types.{call_len}
use Rattle.ax25_address.proofs.PlaceLaws.{Places, parse_places, Has}
use Rattle.ax25_address.proofs.SizeLaws.{parse_size}

-- a call has 6 or 7 letters
pub call_size : (command : ℕ) → (6 ≤ call_len command) × (call_len command ≤ 7)
unfolding pick
call_size command = by_test (eqb command 1) (λ e. rw e (omega arith, omega arith)) (λ e. rw e (omega arith, omega arith))

module _ (command l : ℕ) (d : List ℕ) (letters : l ≡ call_len command) where
  at_letters : {s : Option Seen} → s ≡ seen_of command (parse_of l d) → s ≡ seen_of command (parse_of (call_len command) d)
  at_letters {s} e = subst (λ (k : ℕ). s ≡ seen_of command (parse_of k d)) letters e

  -- a frame of n digipeaters, of which this is the record
  pub seen_some : (n : ℕ) → Has l d n → (a t : Bool) (s : Seen) → a ≡ starts (ascii "AP") (map upper (addr_call l d)) → t ≡ (a && not (eqb command 1))
      → s ≡ record {
        digis = n;
        ap = a;
        ctrl = get_or d ((n + 2) * (l + 1)) 0;
        pid = get_or d ((n + 2) * (l + 1) + 1) 0;
        alias = alias_of (map (addr_call l) (fields_of l n (drop (2 * (l + 1)) d)));
        typ = classify_of t (drop ((n + 2) * (l + 1) + 2) d);
      }
      → Some s ≡ seen_of command (parse_of (call_len command) d)
  unfolding seen_of type_of
  seen_some n h a t s ea et es =
      let p = h.places in
      at_letters (rw (es, et, ea, h.parsed, h.count, p.dest_is, p.digis_are, p.control_is, p.pid_is, p.info_is))

  pub seen_none : parse_of l d ≡ None → None ≡ seen_of command (parse_of (call_len command) d)
  unfolding seen_of
  seen_none e = at_letters (rw e)

-- what a record says of the frame that it is of
pub record Known (command l : ℕ) (d : List ℕ) (s : Seen) : Type 0 where
  pub parts : Parsed
  pub parsed : parse_of l d ≡ Some parts
  pub is : s ≡ seen command parts
  pub places : Places l d parts s.digis
  pub few : s.digis ≤ 8
  pub total : length d ≡ (s.digis + 2) * (l + 1) + 2 + length parts.info
  pub front : 2 * (l + 1) ≤ length d
  pub behind : s.digis * (l + 1) ≤ length d - 2 * (l + 1)

pub known : (command l : ℕ) (d : List ℕ) (s : Seen) → Some s ≡ seen_of command (parse_of l d) → Known command l d s
known command l d s e = by (parse_of l d) refl e
  where
    by : (o : Option Parsed) → parse_of l d ≡ o → Some s ≡ seen_of command o → Known command l d s
    by None p f = absurd (none-some s (sym (f ∙ unfold seen_of in refl)))
    by (Some r) p f =
        let q : s ≡ seen command r = same_Some s (seen command r) (f ∙ unfold seen_of in refl) in
        let n : length r.digis ≡ s.digis = sym (ap (λ (t : Seen). t.digis) q) in
        let size = parse_size l d r p in
        let all : length d ≡ (s.digis + 2) * (l + 1) + 2 + length r.info = rw n at size.total in
        let mul = add-mul s.digis 2 (l + 1) in
        record {
          parts = r;
          parsed = p;
          is = q;
          places = rw n at (parse_places l d r p);
          few = rw n at size.few;
          total = all;
          front = omega (arith, all, mul);
          behind = omega (arith, all, mul);
        }
