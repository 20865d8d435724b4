-- The kept states with the lent bytes hold what the book's entries say.
-- Assumes nothing.
use mathlib.Core.Path.{◌≡◌, refl, sym, ap, ap₂, ◌∙◌}
use mathlib.Core.Bool.{Bool, true, false, false≢true, not}
use mathlib.Core.List.{List, [], ◌∷◌}
use Rattle.std.proofs.Common.{Option, None, Some}
use Rattle.std.proofs.lemmas.Option.{none-some, same_Some}
use Prim.Native.Nat.{ℕ, zero, suc, ◌+◌, ◌≤◌, ◌<◌}
use native.Mathlib.Nat.{zero-add}
use native.Mathlib.Omega.{arith}
use lib.ListN.{length, get_or, set, take, replicate, length-set, length-replicate}
use lib.Seq.{sets, length-sets, get_or-set_same, get_or-set_other}
use lib.Dec.{leb}
use borrow.Author.Tests.{eq-eqb, leb-true}
use Rattle.laws.specs.Bits.{num}
use Rattle.laws.specs.Pick.{pick}
use Rattle.laws.specs.Text.{same}
use Rattle.laws.proofs.BitLaws.{num_lt}
use Rattle.laws.proofs.Cases.{by_test, and_right, pick_true, pick_false}
use Rattle.laws.proofs.ListLaws.{take_sets}
use Rattle.laws.proofs.TextLaws.{same_eq, same_refl}
use Rattle.receiver.specs.Join.{refusal_of}
use Rattle.receiver.specs.Stored.{receiver_of}
use Rattle.receiver.specs.declared.Reassembler.{Reassembler}
use Rattle.kept.specs.Keep.{name_ok, name_in, is_under, is_free, first_from, place_under, slot_of, free_slot, none_kept, start_of, part_of, size_refusal, refusal_in, kept_refusal, lent_refusal}
use Rattle.kept.specs.declared.Kept.{Kept}
use Rattle.kept.specs.declared.Slot.{Slot}
use Rattle.kept.proofs.Parts.{part_same, part_other}
use Rattle.kept.proofs.Places.{first_hit}
use Rattle.gateway.specs.Run.{State, state}
use Rattle.channels.specs.Book.{History, state_after, Entry, past_under, without}
use Rattle.channels.proofs.Counts.{count, count_set, count_none, first_once, first_set}
use Rattle.channels.proofs.Entries.{named, known_gone, known_other, length_without, count_gone, count_other, some_known}
use Rattle.channels.proofs.Stays.{Fair, Taken, stored_back}

-- ---- a slot

name_back : (n : List ℕ) (r : Reassembler) → name_ok (length n) ≡ true → name_in (slot_of n r) ≡ n
name_back n r ok =
    let z : length n ≡ 0 + length n = omega arith in
    pick_true _ _ ok
    ∙ ap (λ (j : ℕ). take j (sets (replicate 8 0) 0 n)) z
    ∙ take_sets (replicate 8 0) 0 n (omega (arith, leb-true (length n) 8 (and_right (leb 1 (length n)) _ ok), length-replicate {A = ℕ} 8 0))

-- a name of 1 to 8 bytes is not empty
not_empty : (x : List ℕ) → name_ok (length x) ≡ true → (same [] x ≡ false) × (same x [] ≡ false)
unfolding same
not_empty [] ok = absurd (false≢true ok)
not_empty (a ∷ x) ok = (refl, refl)

pub under_slot : (x n : List ℕ) (r : Reassembler) → name_ok (length n) ≡ true → is_under x (slot_of n r) ≡ same x n
unfolding is_under
under_slot x n r ok = ap (same x) (name_back n r ok)

-- a free slot has no name
pub under_free : (x : List ℕ) (s : Slot) → name_ok (length x) ≡ true → is_free s ≡ true → is_under x s ≡ false
unfolding is_under
under_free x s ok e = ap (same x) (sym (same_eq [] (name_in s) e)) ∙ (not_empty x ok).1

-- a slot with a name is in use
pub under_used : (x : List ℕ) (s : Slot) → name_ok (length x) ≡ true → is_under x s ≡ true → is_free s ≡ false
unfolding is_under
under_used x s ok e = ap (same []) (sym (same_eq x (name_in s) e)) ∙ (not_empty x ok).0

-- and has no other
pub under_other : (x n : List ℕ) (s : Slot) → is_under n s ≡ true → same x n ≡ false → is_under x s ≡ false
unfolding is_under
under_other x n s e o = ap (same x) (sym (same_eq n (name_in s) e)) ∙ o

abbrev pub in_use : Slot → Bool
in_use s = not (is_free s)

pub slot_used : (n : List ℕ) (r : Reassembler) → name_ok (length n) ≡ true → in_use (slot_of n r) ≡ true
slot_used n r ok = ap not (under_slot [] n r ok ∙ (not_empty n ok).0)

free_free : is_free free_slot ≡ true
unfolding is_under same pick
free_free = refl

-- ---- refusals

-- a kept state is refused as it was when it was kept
pub slot_fine : (n : List ℕ) (r : Reassembler) → name_ok (length n) ≡ true → refusal_of r.state 5000 ≡ 0 → refusal_in (slot_of n r) ≡ 0
unfolding refusal_in
slot_fine n r ok e = pick_true _ 0 ok ∙ ap (λ (x : Reassembler). refusal_of x.state 5000) (stored_back r) ∙ e

free_fine : refusal_in free_slot ≡ 0
unfolding refusal_in pick
free_fine = refl

pub fine_set : (ss : List Slot) (i : ℕ) (v : Slot) → kept_refusal ss ≡ 0 → refusal_in v ≡ 0 → kept_refusal (set ss i v) ≡ 0
unfolding kept_refusal
fine_set [] i v e f = e
fine_set (s ∷ ss) zero v e f = omega arith
fine_set (s ∷ ss) (suc i) v e f =
    let rest : kept_refusal ss ≡ 0 = omega arith in
    omega (arith, fine_set ss i v rest f)

-- ---- the shelf

abbrev pub over : {A B : Type 0} → (A → B) → Option A → Option B
over f None = None
over f (Some a) = Some (f a)

-- the receiver in slot i with its bytes
abbrev pub state_at : Kept → List ℕ → ℕ → State
state_at k lent i = state (receiver_of (get_or k.slots i free_slot).receiver) (part_of lent i)

abbrev pub place : List ℕ → Kept → Option ℕ
place x k = place_under x k.slots

pub record Shelf (k : Kept) (lent : List ℕ) (es : List Entry) : Type 0 where
  pub eight : length k.slots ≡ 8
  pub size : length lent ≡ 40000
  pub fine : kept_refusal k.slots ≡ 0
  -- under each name stands what its history leaves
  pub found : (x : List ℕ) → name_ok (length x) ≡ true → over (state_at k lent) (place x k) ≡ over state_after (past_under x es)
  pub once : (x : List ℕ) → name_ok (length x) ≡ true → count (is_under x) k.slots ≤ 1
  pub single : (x : List ℕ) → count (named x) es ≤ 1
  pub used : count in_use k.slots ≡ length es
  pub fair : (x : List ℕ) (h : History) → past_under x es ≡ Some h → Fair h

pub none_shelf : (lent : List ℕ) → length lent ≡ 40000 → Shelf none_kept lent []
unfolding kept_refusal refusal_in count first_from is_under past_under pick num same
none_shelf lent e =
    record {
      eight = refl;
      size = e;
      fine = refl;
      found = λ x ok. none_found x (not_empty x ok).1;
      once = λ x ok. none_once x (not_empty x ok).1;
      single = λ x. omega arith;
      used = refl;
      fair = λ x h q. absurd (none-some h q);
    }
  where
    none_found : (x : List ℕ) → same x [] ≡ false → over (state_at none_kept lent) (place x none_kept) ≡ None
    none_found x o = rw o

    none_once : (x : List ℕ) → same x [] ≡ false → count (is_under x) none_kept.slots ≤ 1
    none_once x o = rw o (omega arith)

module _ (k : Kept) (lent : List ℕ) (es : List Entry) (sh : Shelf k lent es) where
  -- what is found under a name is at a place, and in use
  pub record At (n : List ℕ) (i : ℕ) : Type 0 where
    pub small : i < 8
    pub hit : is_under n (get_or k.slots i free_slot) ≡ true

  pub at_place : (n : List ℕ) (i : ℕ) → place n k ≡ Some i → At n i
  at_place n i e =
      let h = first_hit (is_under n) k.slots free_slot i e in
      record { small = omega (arith, h.small, sh.eight); hit = h.hit }

  -- 17 and 9 never happen
  pub never_lent : lent_refusal k (length lent) ≡ 0
  unfolding lent_refusal
  never_lent =
      let a : size_refusal (length lent) 40000 ≡ 0 = pick_true 0 17 (eq-eqb (length lent) 40000 sh.size) in
      omega (arith, a, sh.fine)

  -- ---- a state is put into slot i under n

  module _ (n : List ℕ) (h : History) (r : Reassembler) (s : List ℕ) (ok : name_ok (length n) ≡ true) (g : Taken (state r s)) (f : Fair h)
      (now : state r s ≡ state_after h) (i : ℕ) (small : i < 8) where
    abbrev old : Slot
    old = get_or k.slots i free_slot

    abbrev put : Kept
    put = record { slots = set k.slots i (slot_of n r) }

    abbrev stored : List ℕ
    stored = sets lent (start_of i) s

    abbrev entries : List Entry
    entries = record { name = n; past = h } ∷ without n es

    fits : i < length k.slots
    fits = omega (arith, sh.eight)

    state_here : state_at put stored i ≡ state r s
    state_here =
        ap₂ state
        (ap (λ (t : Slot). receiver_of t.receiver) (get_or-set_same k.slots i (slot_of n r) free_slot fits) ∙ stored_back r)
        (part_same lent s i g.size sh.size small)

    state_there : (j : ℕ) → (j ≡ i → ⊥) → state_at put stored j ≡ state_at k lent j
    state_there j d =
        ap₂ state
        (ap (λ (t : Slot). receiver_of t.receiver) (get_or-set_other k.slots i j (slot_of n r) free_slot d))
        (part_other lent s i g.size j d)

    hit_here : is_under n (get_or put.slots i free_slot) ≡ true
    hit_here = ap (is_under n) (get_or-set_same k.slots i (slot_of n r) free_slot fits) ∙ under_slot n n r ok ∙ same_refl n

    module _ (miss : (x : List ℕ) → name_ok (length x) ≡ true → same x n ≡ false → is_under x old ≡ false) (alone : count (is_under n) put.slots ≤ 1) where
      found_same : (x : List ℕ) → same x n ≡ true → over (state_at put stored) (place x put) ≡ over state_after (past_under x entries)
      unfolding past_under
      found_same x e =
          let q = same_eq x n e in
          let p : place x put ≡ Some i =
          ap (λ (y : List ℕ). place y put) q
          ∙ first_once (is_under n) put.slots free_slot 0 i (omega (arith, length-set k.slots i (slot_of n r), sh.eight)) hit_here alone
          ∙ ap Some (zero-add i) in
          ap (over (state_at put stored)) p ∙ ap Some (state_here ∙ now) ∙ sym (ap (over state_after) (pick_true (Some h) (past_under x (without n es)) e))

      same_place : (x : List ℕ) → name_ok (length x) ≡ true → same x n ≡ false → place x put ≡ place x k
      same_place x o e = first_set (is_under x) k.slots 0 i (slot_of n r) free_slot (miss x o e) (under_slot x n r ok ∙ e)

      kept_there : (x : List ℕ) → name_ok (length x) ≡ true → same x n ≡ false → (o : Option ℕ) → place x k ≡ o → over (state_at put stored) o ≡ over (state_at k lent) o
      kept_there x o e None p = refl
      kept_there x o e (Some j) p =
          ap Some (state_there j (λ q. false≢true (sym (miss x o e) ∙ ap (λ (m : ℕ). is_under x (get_or k.slots m free_slot)) (sym q) ∙ (at_place x j p).hit)))

      known_rest : (x : List ℕ) → same x n ≡ false → past_under x entries ≡ past_under x es
      unfolding past_under
      known_rest x e = pick_false (Some h) (past_under x (without n es)) e ∙ known_other n x e es

      found_other : (x : List ℕ) → name_ok (length x) ≡ true → same x n ≡ false → over (state_at put stored) (place x put) ≡ over state_after (past_under x entries)
      found_other x o e =
          ap (over (state_at put stored)) (same_place x o e)
          ∙ kept_there x o e (place x k) refl
          ∙ sh.found x o
          ∙ ap (over state_after) (sym (known_rest x e))

      once_put : (x : List ℕ) → name_ok (length x) ≡ true → count (is_under x) put.slots ≤ 1
      unfolding num
      once_put x o =
          by_test (same x n)
          (λ e. ap_le (same_eq x n e))
          (λ e. omega (arith, sh.once x o, count_set (is_under x) k.slots i (slot_of n r) free_slot fits, ap num (under_slot x n r ok ∙ e)))
        where
          ap_le : x ≡ n → count (is_under x) put.slots ≤ 1
          ap_le q = rw q alone

      single_put : (x : List ℕ) → count (named x) entries ≤ 1
      unfolding count num
      single_put x =
          by_test (same x n)
          (λ e. let q : count (named x) (without n es) ≡ 0 = ap (λ (y : List ℕ). count (named y) (without n es)) (same_eq x n e) ∙ count_gone n es in
          omega (arith, num_lt (same x n)))
          (λ e. omega (arith, ap num e, count_other n x es, sh.single x))

      fair_put : (x : List ℕ) (g : History) → past_under x entries ≡ Some g → Fair g
      unfolding past_under
      fair_put x g q =
          by_test (same x n)
          (λ e. let z : h ≡ g = same_Some h g (sym (pick_true (Some h) (past_under x (without n es)) e) ∙ q) in rw (← z) f)
          (λ e. sh.fair x g (sym (known_rest x e) ∙ q))

      pub put_shelf : count in_use put.slots ≡ suc (length (without n es)) → Shelf put stored entries
      put_shelf u =
          record {
            eight = length-set k.slots i (slot_of n r) ∙ sh.eight;
            size = length-sets lent (start_of i) s ∙ sh.size;
            fine = fine_set k.slots i (slot_of n r) sh.fine (slot_fine n r ok (ap (refusal_of r.state) (sym g.size) ∙ g.fine));
            found = λ x o. by_test (same x n) (found_same x) (found_other x o);
            once = once_put;
            single = single_put;
            used = u;
            fair = fair_put;
          }

  -- ---- slot i, under n, is made free

  module _ (n : List ℕ) (ok : name_ok (length n) ≡ true) (i : ℕ) (here : At n i) where
    abbrev emptied : Kept
    emptied = record { slots = set k.slots i free_slot }

    in_range_lem : i < length k.slots
    in_range_lem = omega (arith, sh.eight, here.small)

    counts : (p : Slot → Bool) → count p emptied.slots + num (p (get_or k.slots i free_slot)) ≡ count p k.slots + num (p free_slot)
    counts p = count_set p k.slots i free_slot free_slot in_range_lem

    none_under : (x : List ℕ) → name_ok (length x) ≡ true → num (is_under x free_slot) ≡ 0
    unfolding num
    none_under x o = ap num (under_free x free_slot o free_free)

    gone : place n emptied ≡ None
    unfolding num
    gone = count_none (is_under n) emptied.slots 0 (omega (arith, counts (is_under n), none_under n ok, ap num here.hit, sh.once n ok))

    not_here : (x : List ℕ) → same x n ≡ false → is_under x (get_or k.slots i free_slot) ≡ false
    not_here x e = under_other x n (get_or k.slots i free_slot) here.hit e

    left_there : (x : List ℕ) → same x n ≡ false → (o : Option ℕ) → place x k ≡ o → over (state_at emptied lent) o ≡ over (state_at k lent) o
    left_there x e None p = refl
    left_there x e (Some j) p =
        ap (λ (t : Slot). Some (state (receiver_of t.receiver) (part_of lent j)))
        (get_or-set_other k.slots i j free_slot free_slot
        (λ q. false≢true (sym (not_here x e) ∙ ap (λ (m : ℕ). is_under x (get_or k.slots m free_slot)) (sym q) ∙ (at_place x j p).hit)))

    found_left : (x : List ℕ) → name_ok (length x) ≡ true → over (state_at emptied lent) (place x emptied) ≡ over state_after (past_under x (without n es))
    found_left x o =
        by_test (same x n)
        (λ e. let q = same_eq x n e in
        ap (over (state_at emptied lent)) (ap (λ (y : List ℕ). place y emptied) q ∙ gone)
        ∙ sym (ap (over state_after) (ap (λ (y : List ℕ). past_under y (without n es)) q ∙ known_gone n es)))
        (λ e. ap (over (state_at emptied lent)) (first_set (is_under x) k.slots 0 i free_slot free_slot (not_here x e) (under_free x free_slot o free_free))
        ∙ left_there x e (place x k) refl
        ∙ sh.found x o
        ∙ ap (over state_after) (sym (known_other n x e es)))

    fair_left : (x : List ℕ) (g : History) → past_under x (without n es) ≡ Some g → Fair g
    fair_left x g q =
        by_test (same x n)
        (λ e. absurd (none-some g (sym (ap (λ (y : List ℕ). past_under y (without n es)) (same_eq x n e) ∙ known_gone n es) ∙ q)))
        (λ e. sh.fair x g (sym (known_other n x e es) ∙ q))

    pub free_shelf : (h : History) → past_under n es ≡ Some h → Shelf emptied lent (without n es)
    unfolding num
    free_shelf h q =
        record {
          eight = length-set k.slots i free_slot ∙ sh.eight;
          size = sh.size;
          fine = fine_set k.slots i free_slot sh.fine free_fine;
          found = found_left;
          once = λ x o. omega (arith, counts (is_under x), none_under x o, sh.once x o);
          single = λ x. omega (arith, count_other n x es, sh.single x);
          used = omega (arith, counts in_use, ap num (ap not (under_used n _ ok here.hit)), ap num (ap not free_free), sh.used, length_without n es, some_known n es h q, sh.single n);
          fair = fair_left;
        }
