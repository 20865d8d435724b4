-- Lemmas of `demand_3`, for its part `forgets`: each answer is the one that a fresh receiver gives to the same call after only the calls since
-- the last ending before it, or since the start, in lists of fewer than 2^64 pushes and joins.
-- Assumes nothing.
use mathlib.Core.Path.{◌≡◌, refl, sym, ap, ap₂, ◌∙◌}
use mathlib.Core.Bool.{true, false, ◌||◌, not}
use mathlib.Core.List.{List, [], ◌∷◌, ◌++◌}
use Rattle.std.proofs.Common.{Option}
use Prim.Native.Nat.{ℕ, ◌+◌, ◌^◌, ◌≤◌, ◌<◌}
use native.Mathlib.Omega.{arith}
use lib.ListN.{length, get_or}
use lib.Dec.{ltb, leb, eqb}
use borrow.Author.Tests.{not-true, not-false, eqb-true, eqb-false, ltb-false, ltb-true, lt-leb}
use Rattle.laws.specs.Pick.{pick}
use Rattle.laws.proofs.Cases.{by_test, by_le, pick_false, and_left, and_right, or_left, or_right, or_back}
use Rattle.refusals.specs.Limits.{field_ok, mask_ok}
use Rattle.receiver.specs.Join.{Heard}
use Rattle.receiver.specs.New.{fresh_of, fresh_joiner}
use Rattle.receiver.specs.Push.{fragment_length}
use Rattle.gateway.specs.Run.{Call, push, join, reset, State, state, step_of, left_by, run_of, offers, Few, idle, ending, any_ending, since, freshly}
use Rattle.gateway.proofs.Bare.{bare, bare_step, bare_left}
use Rattle.gateway.proofs.Lift.{step_after}
use Rattle.gateway.proofs.Since.{none_since}
use Rattle.gateway.proofs.View.{Held, empty, over, part, grow_v, accept_v, join_v, step_v, left_v, grow_v_many, grow_v_long, grow_v_last, accept_v_only, accept_v_over, accept_v_next, join_v_on, push_v_on}
use Rattle.gateway.proofs.Sim.{step_sim, left_good, left_sim, fresh_good, fresh_view}

-- ---- after an ending nothing is held

module _ (m : ℕ) where
  none_over : (b : ℕ) → b < 0x80 → ◌≡◌ {A = Held} (pick (leb 0x80 b) over empty) empty
  none_over b h = pick_false over empty (lt-leb 0x80 b h)

  grow_ends : (buf : List ℕ) (k c b : ℕ) (t : List ℕ) → b < 0x80 → (grow_v m buf k c b t).next ≡ empty
  grow_ends buf k c b t h =
      by_le 255 k
      (λ l. rw (grow_v_many m buf k c b t l) (none_over b h))
      (λ l. by_le (length buf + length t) 5000
      (λ q. rw (grow_v_last m buf k c b t l q h) refl)
      (λ q. rw (grow_v_long m buf k c b t l q) (none_over b h)))

  accept_ends : (h : Held) (f : List ℕ) (n : ℕ) → get_or f 0 0 < 0x80 → (accept_v m h f n).next ≡ empty
  accept_ends empty f n l = rw (accept_v_only m f n l) (grow_ends _ _ _ _ _ l)
  accept_ends over f n l = rw (accept_v_over m f n) (none_over (get_or f 0 0) l)
  accept_ends (part buf k c) f n l = rw (accept_v_next m f n buf k c) (grow_ends _ _ _ _ _ l)

  join_ends : (h : Held) (f : List ℕ) (n : ℕ) → idle (join f n) ≡ false → get_or f 0 0 < 0x80 → (join_v m h f n).next ≡ empty
  join_ends h f n i l =
      rw (join_v_on m h f n (eqb-false n 0 (or_left (eqb n 0) (ltb (length f) n) i)) (ltb-false (length f) n (or_right (eqb n 0) (ltb (length f) n) i)))
      (accept_ends h f n l)

  push_ends : (h : Held) (f : List ℕ) (k : ℕ) → ending (push f k) ≡ true → (step_v m h (push f k)).next ≡ empty
  push_ends h f k e =
      let n = fragment_length f k in
      let bad = not (eqb (length f) (k + 3)) in
      let i = not-true (idle (push f k)) (and_left (not (idle (push f k))) (ltb (get_or f 0 0) 0x80) e) in
      let j : (bad || idle (join f n)) ≡ false = or_right (not (field_ok k)) (bad || idle (join f n)) i in
      rw (push_v_on m h f k (not-false (field_ok k) (or_left (not (field_ok k)) (bad || idle (join f n)) i)) (eqb-true (length f) (k + 3) (not-false _ (or_left bad (idle (join f n)) j))))
      (join_ends h f n (or_right bad (idle (join f n)) j) (ltb-true _ _ (and_right (not (idle (push f k))) (ltb (get_or f 0 0) 0x80) e)))

  pub step_ends : (h : Held) (c : Call) → ending c ≡ true → (step_v m h c).next ≡ empty
  step_ends h (push f k) e = push_ends h f k e
  step_ends h (join f n) e =
      unfold step_v in
      join_ends h f n (not-true (idle (join f n)) (and_left _ (ltb (get_or f 0 0) 0x80) e)) (ltb-true _ _ (and_right (not (idle (join f n))) _ e))
  step_ends h reset e = unfold step_v in refl

  -- ---- the calls before the last ending do not matter

  any_step : (h : Held) (c : Call) (cs : List Call) → (ending c || any_ending cs) ≡ true
      → (any_ending cs ≡ true → left_v m (step_v m h c).next cs ≡ left_v m empty (since cs))
      → left_v m (step_v m h c).next cs ≡ left_v m empty (since (c ∷ cs))
  unfolding since pick
  any_step h c cs e ih =
      by_test (any_ending cs)
      (λ o. rw o (ih o))
      (λ o. let q : ending c ≡ true = or_back (ending c) (any_ending cs) e o in
      rw (o, q) (ap (λ (x : Held). left_v m x cs) (step_ends h c q)))

  any_since : (h : Held) (cs : List Call) → any_ending cs ≡ true → left_v m h cs ≡ left_v m empty (since cs)
  unfolding any_ending left_v
  any_since h [] e = cc
  any_since h (c ∷ cs) e = any_step h c cs e (any_since (step_v m h c).next cs)

  left_since : (cs : List Call) → left_v m empty cs ≡ left_v m empty (since cs)
  left_since cs = by_test (any_ending cs) (any_since empty cs) (λ o. ap (left_v m empty) (sym (none_since cs o)))

-- ---- how many pushes and joins there are

pub offers_append : (a b : List Call) → offers (a ++ b) ≡ offers a + offers b
unfolding offers
offers_append [] b = omega arith
offers_append (push f k ∷ a) b = omega (arith, offers_append a b)
offers_append (join f n ∷ a) b = omega (arith, offers_append a b)
offers_append (reset ∷ a) b = offers_append a b

offers_cons : (c : Call) (cs : List Call) → offers cs ≤ offers (c ∷ cs)
unfolding offers
offers_cons (push f k) cs = omega arith
offers_cons (join f n) cs = omega arith
offers_cons reset cs = omega arith

offers_since : (cs : List Call) → offers (since cs) ≤ offers cs
unfolding since pick
offers_since [] = omega arith
offers_since (c ∷ cs) =
    by_test (any_ending cs)
    (λ o. rw o (omega (arith, offers_since cs, offers_cons c cs)))
    (λ o. by_test (ending c) (λ e. rw (o, e) (offers_cons c cs)) (λ e. rw (o, e) (omega arith)))

-- ---- every list of calls

-- one call after a list of calls
pub left_snoc : (t : State) (past : List Call) (c : Call) → left_by t (past ++ (c ∷ [])) ≡ (step_of (left_by t past) c).next
unfolding left_by
left_snoc t [] c = refl
left_snoc t (d ∷ past) c = left_snoc (step_of t d).next past c

module _ (m : ℕ) (ok : mask_ok m ≡ true) where
  -- for a call after any list of calls: each receiver is new with the mask m, and each store has 5,000 bytes, whatever they hold
  forget_bare : (s s' : List ℕ) → length s ≡ 5000 → length s' ≡ 5000 → (past : List Call) (c : Call)
      → (bare_step (bare_left (bare (fresh_joiner m) s) past) c).answer ≡ (bare_step (bare_left (bare (fresh_joiner m) s') (since past)) c).answer
  forget_bare s s' l l' past c =
      let g = fresh_good m s l in
      let g' = fresh_good m s' l' in
      (step_sim m ok _ (left_good m ok _ g past) c).answer
      ∙ ap (λ (h : Held). (step_v m h c).answer)
      (left_sim m ok _ g past ∙ ap (λ (h : Held). left_v m h past) (fresh_view m s)
      ∙ left_since m past
      ∙ sym (left_sim m ok _ g' (since past) ∙ ap (λ (h : Held). left_v m h (since past)) (fresh_view m s')))
      ∙ sym (step_sim m ok _ (left_good m ok _ g' (since past)) c).answer

  -- the same with tallies: the two receivers have other ones, and neither has a full one
  forget_one : (s s' : List ℕ) → length s ≡ 5000 → length s' ≡ 5000 → (past : List Call) (c : Call) → Few (past ++ (c ∷ []))
      → (step_of (left_by (state (fresh_of m) s) past) c).answer ≡ (step_of (left_by (state (fresh_of m) s') (since past)) c).answer
  forget_one s s' l l' past c h =
      let few : Few (since past ++ (c ∷ []))
      = omega (arith, h, offers_append past (c ∷ []), offers_append (since past) (c ∷ []), offers_since past) in
      step_after m s past c h ∙ forget_bare s s' l l' past c ∙ sym (step_after m s' (since past) c few)

  module _ (s : List ℕ) (l : length s ≡ 5000) (stores : List Call → List ℕ) (ls : (p : List Call) → length (stores p) ≡ 5000) where
    -- for calls after any list of calls
    pub freshly_from : (past cs : List Call) → offers past + offers cs < 2 ^ 64
        → run_of (left_by (state (fresh_of m) s) past) cs ≡ freshly (fresh_of m) stores past cs
    unfolding run_of freshly
    freshly_from past [] h = refl
    freshly_from past (c ∷ cs) h =
        let e = offers_append past (c ∷ []) in
        let d = offers_append (c ∷ []) cs in
        let one : Few (past ++ (c ∷ [])) = omega (arith, h, e, d) in
        let all : offers (past ++ (c ∷ [])) + offers cs < 2 ^ 64 = omega (arith, h, e, d) in
        ap₂ {A = Option Heard} {B = List (Option Heard)} (λ a r. a ∷ r) (forget_one s (stores past) l (ls past) past c one)
        (ap (λ (t : State). run_of t cs) (sym (left_snoc (state (fresh_of m) s) past c)) ∙ freshly_from (past ++ (c ∷ [])) cs all)

    none_offered : offers [] ≡ 0
    unfolding offers
    none_offered = refl

    -- for every list of calls
    pub forget : (cs : List Call) → Few cs → run_of (state (fresh_of m) s) cs ≡ freshly (fresh_of m) stores [] cs
    unfolding left_by
    forget cs h = freshly_from [] cs (omega (arith, h, none_offered))
