-- The parts of a monitor's line, field by field.
-- Assumes nothing.
use mathlib.Core.Path.{◌≡◌, refl, ap, ◌∙◌}
use mathlib.Core.Bool.{Bool, true, false}
use mathlib.Core.List.{List, [], map}
use mathlib.Core.Logic.{◌⊎◌, inl, inr}
use Rattle.std.proofs.Common.{None, Some}
use Prim.Native.Nat.{ℕ, ◌+◌, ◌-◌, ◌*◌, ◌≤◌, ◌<◌}
use native.Mathlib.Omega.{arith}
use lib.ListN.{length, get_or, take, drop, length-take, length-drop}
use native.Mathlib.Nat.{add-mul}
use lib.Dec.{leb}
use borrow.Author.Tests.{le-leb, lt-leb}
use Rattle.laws.specs.Pick.{pick}
use Rattle.laws.specs.Text.{ascii}
use Rattle.laws.specs.Wrote.{Wrote}
use Rattle.laws.proofs.ListLaws.{from_place}
use Rattle.laws.proofs.WroteLaws.{wrote_none, wrote_then}
use Rattle.ax25_token.specs.declared.Call.{Call}
use Rattle.ax25_token.specs.Call.{text_of}
use Rattle.ax25_token.specs.Put.{cased_of}
use Rattle.ax25_token.proofs.PutLaws.{map_plain, map_up}
use Rattle.ax25_address.specs.Address.{addr_call, heard_in}
use Rattle.ax25_address.specs.Parse.{Parsed, fields_of, parse_of, count_of}
use Rattle.ax25_address.proofs.PlaceLaws.{Has, found_has}
use Rattle.ax25.proofs.CoderLaws.{fields_none, heard_some, calls_some}
use Rattle.texts.specs.Show.{shown}
use Rattle.texts.proofs.ShowLaws.{shown_length}
use Rattle.monitor.specs.Monitor.{any_of, star_of, via_of, lined_of, lined_or, monitor_of}

-- ---- a star

module _ (heard later : Bool) where
  pub star_none : (heard ≡ true × later ≡ true) ⊎ heard ≡ false → star_of heard later ≡ []
  unfolding star_of pick
  star_none (inl e) = rw (e.0, e.1)
  star_none (inr e) = rw e

  pub star_last : heard ≡ true → later ≡ false → star_of heard later ≡ ascii "*"
  unfolding star_of pick
  star_last e f = rw (e, f)

-- ---- n address fields, of which d starts at the first

module _ (l n : ℕ) (d : List ℕ) where
  -- the part after the first field
  abbrev others : List ℕ
  others = take (length d - (l + 1)) (drop (l + 1) d)

  pub any_none : n ≡ 0 → false ≡ any_of (map (heard_in l) (fields_of l n d))
  unfolding any_of
  any_none e = rw (fields_none l n d e)

  pub via_none : {b : List ℕ} {at : ℕ} → n ≡ 0 → Wrote b at (via_of (map (addr_call l) (fields_of l n d)) (map (heard_in l) (fields_of l n d))) b at
  unfolding via_of
  via_none e = rw (fields_none l n d e) wrote_none

  module _ (h : n ≡ 0 → ⊥) where
    pub any_first : 0x80 ≤ get_or d l 0 → leb 0x80 (get_or d l 0) ≡ any_of (map (heard_in l) (fields_of l n d))
    unfolding any_of
    any_first k = rw (heard_some l n d h, le-leb 0x80 (get_or d l 0) k)

    pub any_rest : get_or d l 0 < 0x80 → (r : Bool) → r ≡ any_of (map (heard_in l) (fields_of l (n - 1) others)) → r ≡ any_of (map (heard_in l) (fields_of l n d))
    unfolding any_of
    any_rest k r e = rw (heard_some l n d h, lt-leb 0x80 (get_or d l 0) k) (rw (from_place d (l + 1)) at e)

    pub via_more : {b c e f g : List ℕ} {at p q s t : ℕ} (later : Bool) → later ≡ any_of (map (heard_in l) (fields_of l (n - 1) others))
        → Wrote b at (ascii ",") c p → Wrote c p (shown (map (cased_of false) (addr_call l d))) e q → Wrote e q (star_of (leb 0x80 (get_or d l 0)) later) f s
        → Wrote f s (via_of (map (addr_call l) (fields_of l (n - 1) others)) (map (heard_in l) (fields_of l (n - 1) others))) g t
        → Wrote b at (via_of (map (addr_call l) (fields_of l n d)) (map (heard_in l) (fields_of l n d))) g t
    unfolding via_of
    via_more later told w x y z =
        rw (heard_some l n d h, calls_some l n d h)
        (wrote_then w (wrote_then (rw (map_plain (addr_call l d)) at x) (wrote_then (rw (told, from_place d (l + 1)) at y) (rw (from_place d (l + 1)) at z))))

-- how much stands after a place
pub behind_size : (d : List ℕ) (k : ℕ) → length (take (length d - k) (drop k d)) ≡ length d - k
behind_size d k = ap length (from_place d k) ∙ length-drop k d

-- ---- a frame

pub has_count : (l n : ℕ) (d : List ℕ) → Some n ≡ count_of (parse_of l d) → Has l d n
has_count l n d e = found_has l d (Some n) e n refl

-- where its parts stand
pub record Sizes (l n size : ℕ) : Type 0 where
  pub few : n ≤ 8
  pub front : 2 * (l + 1) ≤ size
  pub behind : n * (l + 1) ≤ size - 2 * (l + 1)
  pub end : (n + 2) * (l + 1) + 2 ≤ size

pub sizes : (l n : ℕ) (d : List ℕ) → Some n ≡ count_of (parse_of l d) → Sizes l n (length d)
sizes l n d e =
    let has = has_count l n d e in
    let m = add-mul n 2 (l + 1) in
    record { few = has.few; front = omega (arith, has.total, m); behind = omega (arith, has.total, m); end = omega (arith, has.total) }

module _ (l : ℕ) (d : List ℕ) where
  pub monitor_none : parse_of l d ≡ None → monitor_of l d ≡ shown d
  unfolding monitor_of lined_or
  monitor_none e = rw e

  pub monitor_some : (r : Parsed) → parse_of l d ≡ Some r → monitor_of l d ≡ lined_of r
  unfolding monitor_of lined_or
  monitor_some r e = rw e

module _ (l n : ℕ) (d : List ℕ) (has : Has l d n) where
  -- what stands from a place on
  abbrev from : ℕ → List ℕ
  from k = take (length d - k) (drop k d)

  pub frame_lined : {b c e f g i k : List ℕ} {at p q s t u v : ℕ}
      → Wrote b at (shown (map (cased_of true) (addr_call l (from (l + 1))))) c p → Wrote c p (ascii ">") e q
      → Wrote e q (shown (map (cased_of true) (addr_call l d))) f s
      → Wrote f s (via_of (map (addr_call l) (fields_of l n (from (2 * (l + 1))))) (map (heard_in l) (fields_of l n (from (2 * (l + 1)))))) g t
      → Wrote g t (ascii ":") i u → Wrote i u (shown (from ((n + 2) * (l + 1) + 2))) k v
      → Wrote b at (monitor_of l d) k v
  unfolding lined_of
  frame_lined src more dest via colon info =
      let r = has.parts in
      let at = has.places in
      rw (monitor_some l d r has.parsed, at.src_is, at.dest_is, at.digis_are, at.heard_are, at.info_is)
      (wrote_then (rw (map_up, from_place d (l + 1)) at src)
      (wrote_then more
      (wrote_then (rw map_up at dest)
      (wrote_then (rw (from_place d (2 * (l + 1))) at via) (wrote_then colon (rw (from_place d ((n + 2) * (l + 1) + 2)) at info))))))

-- ---- a call

pub call_shown : (r : Call) (t : List ℕ) → text_of r ≡ t → r.len ≤ 10 → {b c : List ℕ} {at p : ℕ}
    → Wrote b at (shown (take r.len r.bytes)) c p → Wrote b at (shown t) c p × (p ≤ at + 60)
unfolding text_of
call_shown r t e h w =
    let front : take r.len r.bytes ≡ t = e in
    let few : length t ≤ r.len = rw (← front) (omega (arith, length-take r.len r.bytes)) in
    (rw front at w, omega (arith, (rw front at w).next_is, shown_length t, few))
