-- Keep, return and drop do with the slots and the lent bytes what the book does with its entries, and answer the same.
-- Assumes nothing.
use mathlib.Core.Path.{◌≡◌, refl, sym, ap, ◌∙◌}
use mathlib.Core.Bool.{true, false, ◌||◌, not}
use mathlib.Core.List.{List}
use Rattle.std.proofs.Common.{Option, None, Some}
use Rattle.std.proofs.lemmas.Option.{none-some, same_Some}
use Prim.Native.Nat.{ℕ, suc, ◌+◌, ◌≤◌, ◌<◌, max}
use native.Mathlib.Omega.{arith}
use lib.ListN.{length, get_or, set}
use lib.Dec.{ltb}
use borrow.Author.Tests.{lt-ltb, le-ltb, eq-eqb}
use Rattle.laws.specs.Bits.{num}
use Rattle.laws.specs.Pick.{pick}
use Rattle.laws.specs.Text.{same}
use Rattle.laws.proofs.Cases.{by_test, by_option, pick_true, pick_false}
use Rattle.laws.proofs.TextLaws.{same_refl}
use Rattle.refusals.specs.Outcome.{Outcome, refused}
use Rattle.receiver.specs.Join.{refusal_of}
use Rattle.receiver.specs.declared.Reassembler.{Reassembler}
use Rattle.kept.specs.Keep.{name_ok, is_under, is_free, first_from, slot_of, free_slot, or_else, place_for, size_refusal, lent_refusal, place_or, KeepLeft, kept_at, keep_of, ReturnLeft, returned_at, return_of, DropLeft, dropped_at, drop_of}
use Rattle.kept.specs.declared.Kept.{Kept}
use Rattle.kept.proofs.Checks.{placed_name, placed_at}
use Rattle.kept.proofs.Places.{first_hit}
use Rattle.gateway.specs.Run.{State, state}
use Rattle.channels.specs.Book.{History, state_after, Entry, past_under, without, is_some, has_room, entered, known_or, stated, refusal_from, unknown_number, full_number}
use Rattle.channels.proofs.Counts.{count, count_hit, count_set, none_count, count_not}
use Rattle.channels.proofs.Entries.{length_without, none_known, some_known, without_unknown}
use Rattle.channels.proofs.Stays.{Fair, Taken}
use Rattle.channels.proofs.Shelf.{over, state_at, place, Shelf, at_place, never_lent, put_shelf, free_shelf, in_use, slot_used, under_slot, under_free, under_used, under_other}

-- a keep leaves what a book says
pub record Keeps (a : KeepLeft) (es : List Entry) (n : ℕ) : Type 0 where
  pub shelf : Shelf a.kept a.lent es
  pub says : refusal_from a.outcome ≡ n

keeps_as : {a b : KeepLeft} {es fs : List Entry} {m n : ℕ} → a ≡ b → es ≡ fs → m ≡ n → Keeps b fs n → Keeps a es m
keeps_as p q r t = rw (p, q, r) t

-- a return
pub record Returns (a : ReturnLeft) (t : State) (h : History) (n : ℕ) : Type 0 where
  pub now : stated a t ≡ state_after h
  pub fair : Fair h
  pub says : refusal_from a.outcome ≡ n

returns_as : {a b : ReturnLeft} {t : State} {g h : History} {m n : ℕ} → a ≡ b → g ≡ h → m ≡ n → Returns b t h n → Returns a t g m
returns_as p q r t = rw (p, q, r) t

-- a drop
pub record Drops (a : DropLeft) (lent : List ℕ) (es : List Entry) (n : ℕ) : Type 0 where
  pub shelf : Shelf a.kept lent es
  pub says : refusal_from a.outcome ≡ n

drops_as : {a b : DropLeft} {lent : List ℕ} {es fs : List Entry} {m n : ℕ} → a ≡ b → es ≡ fs → m ≡ n → Drops b lent fs n → Drops a lent es m
drops_as p q r t = rw (p, q, r) t

-- two values that are there, or neither
both : {A B C P : Type 0} (f : A → C) (g : B → C) (o : Option A) (q : Option B) → over f o ≡ over g q
    → (o ≡ None → q ≡ None → P) → ((a : A) (b : B) → o ≡ Some a → q ≡ Some b → f a ≡ g b → P) → P
both f g None None e x y = x refl refl
both f g None (Some b) e x y = absurd (none-some (g b) e)
both f g (Some a) None e x y = absurd (none-some (f a) (sym e))
both f g (Some a) (Some b) e x y = y a b refl refl (same_Some (f a) (g b) e)

module _ (k : Kept) (lent : List ℕ) (es : List Entry) (sh : Shelf k lent es) (n : List ℕ) where
  by_name : {P : Type 0} → name_ok (length n) ≡ true → (place n k ≡ None → past_under n es ≡ None → P)
      → ((i : ℕ) (g : History) → place n k ≡ Some i → past_under n es ≡ Some g → state_at k lent i ≡ state_after g → P) → P
  by_name ok f g = both (state_at k lent) state_after (place n k) (past_under n es) (sh.found n ok) f g

  slots_sum : count is_free k.slots + count in_use k.slots ≡ length k.slots
  slots_sum = count_not is_free k.slots

  -- ---- keep

  module _ (r : Reassembler) (s : List ℕ) (g : Taken (state r s)) (h : History) (f : Fair h) (now : state r s ≡ state_after h) where
    -- nothing is refused for a state
    keep_fine : max (refusal_of r.state (length s)) (lent_refusal k (length lent)) ≡ 0
    keep_fine = omega (arith, g.fine, never_lent k lent es sh)

    abbrev Done : Option ℕ → Type 0
    Done o = Keeps (kept_at (place_or 21 o) k r s lent n) (entered n h es) (pick (has_room n es) 0 21)

    module _ (ok : name_ok (length n) ≡ true) where
      stores : (i : ℕ) → i < 8 → has_room n es ≡ true
          → ((x : List ℕ) → name_ok (length x) ≡ true → same x n ≡ false → is_under x (get_or k.slots i free_slot) ≡ false)
          → count (is_under n) (set k.slots i (slot_of n r)) ≤ 1
          → count in_use (set k.slots i (slot_of n r)) ≡ suc (length (without n es))
          → Done (Some i)
      stores i small t miss alone u =
          keeps_as refl (pick_true _ es t) (pick_true 0 21 t)
          (record { shelf = put_shelf k lent es sh n h r s ok g f now i small miss alone u; says = refl })

      one_here : num (is_under n (slot_of n r)) ≡ 1
      unfolding num
      one_here = ap num (under_slot n n r ok ∙ same_refl n)

      one_used : num (in_use (slot_of n r)) ≡ 1
      unfolding num
      one_used = ap num (slot_used n r ok)

      again : (i : ℕ) (g : History) → place n k ≡ Some i → past_under n es ≡ Some g → Done (Some i)
      unfolding num
      again i g p q =
          let here = at_place k lent es sh n i p in
          let fits : i < length k.slots = omega (arith, sh.eight, here.small) in
          let old = get_or k.slots i free_slot in
          stores i here.small (ap (λ (o : Option History). is_some o || ltb (length es) 8) q)
          (λ x o e. under_other x n old here.hit e)
          (omega (arith, count_set (is_under n) k.slots i (slot_of n r) free_slot fits, ap num here.hit, one_here, sh.once n ok))
          (omega (arith, count_set in_use k.slots i (slot_of n r) free_slot fits, ap num (ap not (under_used n old ok here.hit)), one_used, sh.used, length_without n es, some_known n es g q, sh.single n))

      room_is : past_under n es ≡ None → has_room n es ≡ ltb (length es) 8
      room_is q = ap (λ (o : Option History). is_some o || ltb (length es) 8) q

      fresh : (i : ℕ) → first_from is_free 0 k.slots ≡ Some i → place n k ≡ None → past_under n es ≡ None → Done (Some i)
      unfolding num
      fresh i e p q =
          let here = first_hit is_free k.slots free_slot i e in
          let old = get_or k.slots i free_slot in
          let some_free = count_hit is_free k.slots i free_slot here.small here.hit in
          stores i (omega (arith, sh.eight, here.small))
          (room_is q ∙ lt-ltb (length es) 8 (omega (arith, slots_sum, some_free, sh.used, sh.eight)))
          (λ x o e. under_free x old o here.hit)
          (omega (arith, count_set (is_under n) k.slots i (slot_of n r) free_slot here.small, none_count (is_under n) k.slots 0 p, one_here))
          (omega (arith, count_set in_use k.slots i (slot_of n r) free_slot here.small, ap num (ap not here.hit), one_used, sh.used, length_without n es, none_known n es q))

      none_left : first_from is_free 0 k.slots ≡ None → past_under n es ≡ None → Done None
      none_left e q =
          let t : has_room n es ≡ false =
          room_is q ∙ le-ltb (length es) 8 (omega (arith, slots_sum, none_count is_free k.slots 0 e, sh.used, sh.eight)) in
          keeps_as refl (pick_false _ es t) (pick_false 0 21 t) (record { shelf = sh; says = refl })

      done_as : {o p : Option ℕ} → o ≡ p → Done p → Done o
      done_as e d = rw e d

      entered_well : Done (place_for n k.slots)
      entered_well =
          by_name ok
          (λ p q. done_as (ap (λ (o : Option ℕ). or_else o (first_from is_free 0 k.slots)) p)
          (by_option (first_from is_free 0 k.slots)
          (λ e. done_as e (none_left e q))
          (λ i e. done_as e (fresh i e p q))))
          (λ i b p q e. done_as (ap (λ (o : Option ℕ). or_else o (first_from is_free 0 k.slots)) p) (again i b p q))

    pub keep_step : Keeps (keep_of k r s lent n) (pick (name_ok (length n)) (entered n h es) es) (full_number n es)
    unfolding keep_of
    keep_step =
        by_test (name_ok (length n))
        (λ t. keeps_as (ap (λ (o : Outcome ℕ). kept_at o k r s lent n) (placed_at _ (length n) 21 _ keep_fine t)) (pick_true _ es t) (pick_true _ 20 t) (entered_well t))
        (λ t. keeps_as (ap (λ (o : Outcome ℕ). kept_at o k r s lent n) (placed_name _ (length n) 21 _ keep_fine t)) (pick_false _ es t) (pick_false _ 20 t)
        (record { shelf = sh; says = refl }))

  -- ---- return

  module _ (t : State) (g : Taken t) (h : History) (f : Fair h) (now : t ≡ state_after h) where
    return_fine : max (size_refusal (length t.store) 5000) (lent_refusal k (length lent)) ≡ 0
    return_fine =
        let a : size_refusal (length t.store) 5000 ≡ 0 = pick_true 0 17 (eq-eqb (length t.store) 5000 g.size) in
        omega (arith, a, never_lent k lent es sh)

    stays : Returns (returned_at (refused 20) k t.store lent) t h 20
    stays = record { now = now; fair = f; says = refl }

    goes_back : name_ok (length n) ≡ true
        → Returns (returned_at (place_or 20 (place n k)) k t.store lent) t (known_or (past_under n es) h) (pick (is_some (past_under n es)) 0 20)
    goes_back ok =
        by_name ok
        (λ p q. returns_as (ap (λ (o : Option ℕ). returned_at (place_or 20 o) k t.store lent) p) (ap (λ (o : Option History). known_or o h) q)
        (pick_false 0 20 (ap is_some q)) stays)
        (λ i b p q e. returns_as (ap (λ (o : Option ℕ). returned_at (place_or 20 o) k t.store lent) p) (ap (λ (o : Option History). known_or o h) q)
        (pick_true 0 20 (ap is_some q))
        (record { now = e; fair = sh.fair n b q; says = refl }))

    pub return_step : Returns (return_of k t.store lent n) t (pick (name_ok (length n)) (known_or (past_under n es) h) h) (unknown_number n es)
    unfolding return_of
    return_step =
        by_test (name_ok (length n))
        (λ o. returns_as (ap (λ (x : Outcome ℕ). returned_at x k t.store lent) (placed_at _ (length n) 20 _ return_fine o)) (pick_true _ h o) (pick_true _ 20 o) (goes_back o))
        (λ o. returns_as (ap (λ (x : Outcome ℕ). returned_at x k t.store lent) (placed_name _ (length n) 20 _ return_fine o)) (pick_false _ h o) (pick_false _ 20 o) stays)

  -- ---- drop

  drops : name_ok (length n) ≡ true → Drops (dropped_at (place_or 20 (place n k)) k) lent (without n es) (pick (is_some (past_under n es)) 0 20)
  drops ok =
      by_name ok
      (λ p q. drops_as (ap (λ (o : Option ℕ). dropped_at (place_or 20 o) k) p) (without_unknown n es q) (pick_false 0 20 (ap is_some q)) (record { shelf = sh; says = refl }))
      (λ i b p q e. drops_as (ap (λ (o : Option ℕ). dropped_at (place_or 20 o) k) p) refl (pick_true 0 20 (ap is_some q))
      (record { shelf = free_shelf k lent es sh n ok i (at_place k lent es sh n i p) b q; says = refl }))

  pub drop_step : Drops (drop_of k lent n) lent (pick (name_ok (length n)) (without n es) es) (unknown_number n es)
  unfolding drop_of
  drop_step =
      by_test (name_ok (length n))
      (λ o. drops_as (ap (λ (x : Outcome ℕ). dropped_at x k) (placed_at _ (length n) 20 _ (never_lent k lent es sh) o)) (pick_true _ es o) (pick_true _ 20 o) (drops o))
      (λ o. drops_as (ap (λ (x : Outcome ℕ). dropped_at x k) (placed_name _ (length n) 20 _ (never_lent k lent es sh) o)) (pick_false _ es o) (pick_false _ 20 o)
      (record { shelf = sh; says = refl }))
