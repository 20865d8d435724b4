-- Where the parts of a frame stand, and what the answer of `digipeaters` says of them.
-- Assumes nothing.
use mathlib.Core.Path.{◌≡◌, refl, sym, ap, ap₂, ◌∙◌}
use mathlib.Core.List.{List, [], ◌∷◌, map}
use Rattle.std.proofs.Common.{Option, None, Some}
use Rattle.std.proofs.lemmas.Option.{none-some, same_Some}
use Prim.Native.Nat.{ℕ, zero, suc, ◌+◌, ◌*◌, ◌≤◌}
use native.Mathlib.Nat.{add-zero, add-mul}
use native.Mathlib.Omega.{arith}
use lib.ListN.{length, take, drop, get_or, length-map}
use lib.Seq.{take-take, get_or-take, get_or-drop, drop-drop}
use Rattle.laws.specs.Bits.{odd}
use Rattle.laws.specs.Pick.{pick}
use Rattle.laws.specs.Text.{upper}
use Rattle.laws.proofs.Cases.{by_test, from_some}
use Rattle.ax25_address.specs.Address.{addr_call, heard_in}
use Rattle.ax25_address.specs.Parse.{split_off, Parsed, digi_fields, fields_of, parse_of, count_of}
use Rattle.ax25_address.proofs.SizeLaws.{split_is, parse_by, parse_size}

-- ---- an address field is read no further than it goes

pub addr_cut : (l : ℕ) (d : List ℕ) → addr_call l (take (l + 1) d) ≡ addr_call l d
unfolding addr_call
addr_cut l d = rw (take-take l (l + 1) d (omega arith), get_or-take (l + 1) d l 0 (omega arith))

-- ---- the fields

drop_none : (l : ℕ) (d : List ℕ) → d ≡ drop (0 * (l + 1)) d
drop_none l d =
    let z : 0 ≡ 0 * (l + 1) = omega arith in
    ap (λ (j : ℕ). drop j d) z

fields_are : (l k b : ℕ) (d : List ℕ) (p : List (List ℕ) × List ℕ) → digi_fields l k b d ≡ Some p
    → (p.0 ≡ fields_of l (length p.0) d) × (p.1 ≡ drop (length p.0 * (l + 1)) d)
unfolding digi_fields fields_of pick
fields_are l zero b d p e = rw (← same_Some ([], d) p e) (refl, drop_none l d)
fields_are l (suc k) b d p e =
    by_test (odd b)
    (λ t. rw (← same_Some ([], d) p (rw t at e)) (refl, drop_none l d))
    (λ t. from_some (split_off (l + 1) d) _ p (rw t at e)
    (λ q eq g. from_some (digi_fields l k (get_or q.0 l 0) q.1) _ p g
    (λ r er h.
    let s = split_is (l + 1) d q eq in
    let i = fields_are l k (get_or q.0 l 0) q.1 r er in
    let n = length r.0 in
    let m : l + 1 + n * (l + 1) ≡ suc n * (l + 1) = omega arith in
    rw (← same_Some (q.0 ∷ r.0, r.1) p h) (
      ap₂ (λ (f : List ℕ) (fs : List (List ℕ)). f ∷ fs) s.1 (i.0 ∙ ap (fields_of l n) s.2),
      i.1 ∙ ap (drop (n * (l + 1))) s.2 ∙ drop-drop (n * (l + 1)) (l + 1) d ∙ ap (λ (j : ℕ). drop j d) m,
    ))))

-- ---- the parts

pub record Places (l : ℕ) (d : List ℕ) (r : Parsed) (n : ℕ) : Type 0 where
  pub dest_is : r.dest ≡ map upper (addr_call l d)
  pub src_is : r.src ≡ map upper (addr_call l (drop (l + 1) d))
  pub digis_are : r.digis ≡ map (addr_call l) (fields_of l n (drop (2 * (l + 1)) d))
  pub heard_are : r.heard ≡ map (heard_in l) (fields_of l n (drop (2 * (l + 1)) d))
  pub control_is : r.control ≡ get_or d ((n + 2) * (l + 1)) 0
  pub pid_is : r.pid ≡ get_or d ((n + 2) * (l + 1) + 1) 0
  pub info_is : r.info ≡ drop ((n + 2) * (l + 1) + 2) d

pub parse_places : (l : ℕ) (d : List ℕ) (r : Parsed) → parse_of l d ≡ Some r → Places l d r (length r.digis)
parse_places l d r e =
    parse_by (λ t. Places l d t (length t.digis)) l d r e
    (λ p q v w ep eq ev ew.
    let a = split_is (l + 1) d p ep in
    let b = split_is (l + 1) p.1 q eq in
    let c = fields_are l 8 (get_or q.0 l 0) q.1 v ev in
    let z = split_is 2 v.1 w ew in
    let n = length v.0 in
    let two : l + 1 + (l + 1) ≡ 2 * (l + 1) = omega arith in
    let all : 2 * (l + 1) + n * (l + 1) ≡ (n + 2) * (l + 1) = omega (arith, add-mul n 2 (l + 1)) in
    let behind : q.1 ≡ drop (2 * (l + 1)) d = b.2 ∙ ap (drop (l + 1)) a.2 ∙ drop-drop (l + 1) (l + 1) d ∙ ap (λ (j : ℕ). drop j d) two in
    let fields : v.0 ≡ fields_of l n (drop (2 * (l + 1)) d) = c.0 ∙ ap (fields_of l n) behind in
    let rest : v.1 ≡ drop ((n + 2) * (l + 1)) d =
    c.1 ∙ ap (drop (n * (l + 1))) behind ∙ drop-drop (n * (l + 1)) (2 * (l + 1)) d ∙ ap (λ (j : ℕ). drop j d) all in
    rw (length-map v.0 (addr_call l))
    (record {
      dest_is = ap (map upper) (ap (addr_call l) a.1 ∙ addr_cut l d);
      src_is = ap (map upper) (ap (addr_call l) b.1 ∙ addr_cut l p.1 ∙ ap (addr_call l) a.2);
      digis_are = ap (map (addr_call l)) fields;
      heard_are = ap (map (heard_in l)) fields;
      control_is = ap (λ (s : List ℕ). get_or s 0 0) z.1 ∙ get_or-take 2 v.1 0 0 (omega arith) ∙ ap (λ (s : List ℕ). get_or s 0 0) rest ∙ get_or-drop ((n + 2) * (l + 1)) d 0 0 ∙ ap (λ (j : ℕ). get_or d j 0) (add-zero ((n + 2) * (l + 1)));
      pid_is = ap (λ (s : List ℕ). get_or s 1 0) z.1 ∙ get_or-take 2 v.1 1 0 (omega arith) ∙ ap (λ (s : List ℕ). get_or s 1 0) rest ∙ get_or-drop ((n + 2) * (l + 1)) d 1 0;
      info_is = z.2 ∙ ap (drop 2) rest ∙ drop-drop 2 ((n + 2) * (l + 1)) d;
    }))

-- ---- what the answer says

-- a frame with n digipeaters: its parts, where they stand, and its length
pub record Has (l : ℕ) (d : List ℕ) (n : ℕ) : Type 0 where
  pub parts : Parsed
  pub parsed : parse_of l d ≡ Some parts
  pub count : length parts.digis ≡ n
  pub places : Places l d parts n
  pub few : n ≤ 8
  pub total : length d ≡ (n + 2) * (l + 1) + 2 + length parts.info

has_by : (l : ℕ) (d : List ℕ) (n : ℕ) (o : Option Parsed) → parse_of l d ≡ o → Some n ≡ count_of o → Has l d n
unfolding count_of
has_by l d n None e h = absurd (none-some n (sym h))
has_by l d n (Some p) e h =
    let m : length p.digis ≡ n = sym (same_Some n (length p.digis) h) in
    let sized = parse_size l d p e in
    record { parts = p; parsed = e; count = m; places = rw m at (parse_places l d p e); few = rw m at sized.few; total = rw m at sized.total }

short_by : (o : Option Parsed) → None ≡ count_of o → o ≡ None
unfolding count_of
short_by None h = refl
short_by (Some p) h = absurd (none-some (length p.digis) h)

module _ (l : ℕ) (d : List ℕ) (r : Option ℕ) (told : r ≡ count_of (parse_of l d)) where
  pub found_has : (n : ℕ) → r ≡ Some n → Has l d n
  found_has n e = has_by l d n (parse_of l d) refl (sym e ∙ told)

  pub short_none : r ≡ None → parse_of l d ≡ None
  short_none e = short_by (parse_of l d) (sym e ∙ told)
