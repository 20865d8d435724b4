-- The receiver with its store does what the view does.
-- Assumes nothing.
use mathlib.Core.Path.{◌≡◌, refl, sym, ap, ap₂, ◌∙◌}
use mathlib.Core.Bool.{Bool, true, false}
use mathlib.Core.List.{List, [], ◌∷◌, ◌++◌}
use Rattle.std.proofs.Common.{Option, Some}
use Prim.Native.Nat.{ℕ, ◌+◌, ◌-◌, ◌≤◌, ◌<◌}
use native.Mathlib.Omega.{arith}
use lib.Bits.{bit_and}
use lib.ListN.{length, get_or, take, drop, set, length-set}
use lib.Seq.{sets, length-sets, take-set-lt, length-take-le, take-suc-set}
use lib.Dec.{leb}
use borrow.Author.Tests.{eq-eqb}
use Rattle.laws.specs.Pick.{pick}
use Rattle.laws.proofs.Cases.{by_test, by_le, by_eq}
use Rattle.laws.proofs.ListLaws.{take_sets}
use Rattle.crc.specs.Crc.{crc_bits}
use Rattle.refusals.specs.Limits.{field_ok, mask_ok}
use Rattle.receiver.specs.Join.{Heard, refused, dropped, done, emptied, ended, finish_of, base_of, headed, grown, grow_of, started, accept_of, join_of, refusal_of}
use Rattle.receiver.specs.New.{fresh_joiner}
use Rattle.receiver.specs.Push.{fragment_length}
use Rattle.receiver.specs.declared.Cause.TheVariants.{WrongLength, NoFragment, Limit, Check}
use Rattle.receiver.specs.declared.Joiner.{Joiner}
use Rattle.receiver.proofs.JoinLaws.{finish_one, finish_good, finish_bad, grow_many, grow_long, grow_more, grow_last, base_none, base_some, base_pos, base_le, headed_none, headed_some, length_headed, accept_over, accept_short, accept_first, accept_only, accept_next, none_refused, join_empty, join_past, join_on}
use Rattle.receiver.proofs.PushLaws.{push_field, push_length, push_on}
use Rattle.gateway.specs.Run.{Call, push, join, reset}
use Rattle.gateway.proofs.Bare.{Bare, bare, BareStep, bare_seen, bare_step, bare_left, bare_run}
use Rattle.gateway.proofs.View.{Held, empty, over, part, Out, out, view, end_v, grow_v, accept_v, join_v, step_v, left_v, run_v, view_over, view_empty, view_part, end_one, end_good, end_bad, grow_v_many, grow_v_long, grow_v_more, grow_v_last, grow_v_single, accept_v_short, accept_v_first, accept_v_only, accept_v_over, accept_v_next, join_v_empty, join_v_past, join_v_on, push_v_field, push_v_length, push_v_on}

-- a state that calls leave: the refusals 17 and 9 do not apply, and nothing is held in overflow
pub record Good (m : ℕ) (t : Bare) : Type 0 where
  pub size : length t.store ≡ 5000
  pub fit : t.receiver.held ≤ 5000
  pub few : t.receiver.nfrag ≤ 255
  pub mask : t.receiver.crc_mask ≡ m
  pub clear : t.receiver.overflow ≡ true → t.receiver.held ≡ 0

-- a step does what the view's step does
pub record Sim (m : ℕ) (a : BareStep) (o : Out) : Type 0 where
  pub answer : a.answer ≡ o.answer
  pub next : view a.next ≡ o.next
  pub good : Good m a.next

-- ---- the last fragment

module _ (r : Joiner) (s : List ℕ) (b : ℕ) (size : length s ≡ 5000) (pos : 0 < r.held) (fit : r.held ≤ 5000) (few : r.nfrag ≤ 255) (ov : r.overflow ≡ false) where
  -- the message is what was held, with the last fragment's first byte
  set_take : take r.held (set s 0 b) ≡ set (take r.held s) 0 b
  set_take = take-set-lt r.held s 0 b pos

  length_msg : length (set (take r.held s) 0 b) ≡ r.held
  length_msg = simp length-set (length-take-le r.held s (omega arith))

  ended_good : Good r.crc_mask (bare (ended r) (set s 0 b))
  ended_good = record { size = length-set s 0 b ∙ size; fit = omega arith; few = few; mask = refl; clear = λ e. refl }

  end_view : view (bare (ended r) (set s 0 b)) ≡ empty
  end_view = view_empty (bare (ended r) (set s 0 b)) ov refl

  done_as : ◌≡◌ {A = Heard} (done r.held (take r.held (set s 0 b))) (done (length (set (take r.held s) 0 b)) (set (take r.held s) 0 b))
  done_as = ap₂ done (sym length_msg) set_take

  ended_as : (h : Heard) (e : end_v r.crc_mask (set (take r.held s) 0 b) r.nfrag r.count ≡ h) (g : Heard) → g ≡ h
      → Sim r.crc_mask (record { answer = Some g; next = bare (ended r) (set s 0 b) }) (out (end_v r.crc_mask (set (take r.held s) 0 b) r.nfrag r.count) empty)
  ended_as h e g q = record { answer = ap Some (q ∙ sym e); next = end_view; good = ended_good }

  pub finish_sim : Sim r.crc_mask (bare_seen (finish_of r s b)) (out (end_v r.crc_mask (set (take r.held s) 0 b) r.nfrag r.count) empty)
  finish_sim =
      by_le 2 r.nfrag
      (λ k. by_eq (crc_bits (take r.held (set s 0 b)) r.crc_mask) (bit_and r.count r.crc_mask)
      (λ e. rw (finish_good r s b k e)
      (ended_as _ (end_good _ _ _ _ k (ap (λ (l : List ℕ). crc_bits l r.crc_mask) (sym set_take) ∙ e)) _ done_as))
      (λ e. rw (finish_bad r s b k e)
      (ended_as _ (end_bad _ _ _ _ k (λ q. e (ap (λ (l : List ℕ). crc_bits l r.crc_mask) set_take ∙ q))) (dropped Check) refl)))
      (λ k. rw (finish_one r s b k) (ended_as _ (end_one _ _ _ _ k) _ done_as))

-- ---- a tail

module _ (r : Joiner) (s : List ℕ) (b : ℕ) (t : List ℕ) (size : length s ≡ 5000) (fit : r.held ≤ 5000) (few : r.nfrag ≤ 255) where
  -- what is held with the first byte, before the tail
  abbrev buf : List ℕ
  buf = take (base_of r.held) (headed r.held s b)

  abbrev full : List ℕ
  full = sets (headed r.held s b) (base_of r.held) t

  base_fits : base_of r.held ≤ 5000
  base_fits = base_le r.held 5000 fit (omega arith)

  head_size : length (headed r.held s b) ≡ 5000
  head_size = length_headed r.held s b ∙ size

  length_buf : length buf ≡ base_of r.held
  length_buf = length-take-le (base_of r.held) (headed r.held s b) (omega (arith, base_fits, head_size))

  full_size : length full ≡ 5000
  full_size = length-sets (headed r.held s b) (base_of r.held) t ∙ head_size

  take_full : base_of r.held + length t ≤ 5000 → take (base_of r.held + length t) full ≡ buf ++ t
  take_full h = take_sets (headed r.held s b) (base_of r.held) t (omega (arith, head_size))

  emptied_good : (o : Bool) → Good r.crc_mask (bare (emptied r o) s)
  emptied_good o = record { size = size; fit = omega arith; few = omega arith; mask = refl; clear = λ e. refl }

  emptied_view : view (bare (emptied r (leb 0x80 b)) s) ≡ pick (leb 0x80 b) over empty
  unfolding view pick
  emptied_view = refl

  emptied_sim : Sim r.crc_mask (record { answer = Some (dropped Limit); next = bare (emptied r (leb 0x80 b)) s }) (out (dropped Limit) (pick (leb 0x80 b) over empty))
  emptied_sim = record { answer = refl; next = emptied_view; good = emptied_good (leb 0x80 b) }

  grown_view : base_of r.held + length t ≤ 5000 → view (bare (grown r (length t)) full) ≡ part (buf ++ t) (r.nfrag + 1) r.count
  grown_view l =
      view_part (bare (grown r (length t)) full) refl (λ e. omega (arith, base_pos r.held))
      ∙ ap (λ (x : List ℕ). part x (r.nfrag + 1) r.count) (take_full l)

  pub grow_sim : Sim r.crc_mask (bare_seen (grow_of r s b t)) (grow_v r.crc_mask buf r.nfrag r.count b t)
  grow_sim =
      by_le 255 r.nfrag
      (λ k. rw (grow_many r s b t k, grow_v_many r.crc_mask buf r.nfrag r.count b t k) emptied_sim)
      (λ k. by_le (base_of r.held + length t) 5000
      (λ l. by_le 0x80 b
      (λ f. rw (grow_more r s b t k l f, grow_v_more r.crc_mask buf r.nfrag r.count b t k (omega (arith, length_buf)) f)
      (record {
        answer = refl;
        next = grown_view l;
        good = record { size = full_size; fit = l; few = omega arith; mask = refl; clear = λ e. cc };
      }))
      (λ f. rw (grow_last r s b t k l f, grow_v_last r.crc_mask buf r.nfrag r.count b t k (omega (arith, length_buf)) f)
      (rw (take_full l) at (finish_sim (grown r (length t)) full b full_size (omega (arith, base_pos r.held)) l (omega arith) refl))))
      (λ l. rw (grow_long r s b t l, grow_v_long r.crc_mask buf r.nfrag r.count b t k (omega (arith, length_buf))) emptied_sim))

-- ---- a fragment

module _ (t : Bare) (f : List ℕ) (n : ℕ) (g : Good t.receiver.crc_mask t) where
  -- a fresh start holds the first byte alone
  first_buf : (b : ℕ) → take (base_of 0) (headed 0 t.store b) ≡ b ∷ []
  first_buf b = rw (base_none 0 refl, headed_none 0 t.store b refl) (take-suc-set t.store 0 b (omega (arith, g.size)))

  abbrev b : ℕ
  b = get_or f 0 0

  abbrev m : ℕ
  m = t.receiver.crc_mask

  begun : t.receiver.overflow ≡ false → t.receiver.held ≡ 0 → Sim m (bare_seen (accept_of t.receiver t.store f n)) (accept_v m empty f n)
  begun o h =
      by_le 0x80 b
      (λ k. by_le 2 (length f)
      (λ l. rw (accept_first t.receiver t.store f n o h k l, accept_v_first m f n k l)
      (rw (first_buf b) at (grow_sim (started t.receiver (get_or f 1 0)) t.store b (take (n - 2) (drop 2 f)) g.size (omega arith) (omega arith))))
      (λ l. rw (accept_short t.receiver t.store f n o h k l, accept_v_short m f n k l)
      (record { answer = refl; next = view_empty t o h; good = g })))
      (λ k. rw (accept_only t.receiver t.store f n o h k, accept_v_only m f n k, ← (grow_v_single m b t.receiver.count (take (n - 1) (drop 1 f)) k))
      (rw (first_buf b) at (grow_sim (started t.receiver t.receiver.count) t.store b (take (n - 1) (drop 1 f)) g.size (omega arith) (omega arith))))

  over_view : t.receiver.overflow ≡ true
      → view (bare (record { held = t.receiver.held; nfrag = t.receiver.nfrag; count = t.receiver.count; crc_mask = m; overflow = leb 0x80 b }) t.store) ≡ pick (leb 0x80 b) over empty
  unfolding view pick
  over_view o = simp (eq-eqb _ _ (g.clear o))

  pub accept_sim : Sim m (bare_seen (accept_of t.receiver t.store f n)) (accept_v m (view t) f n)
  accept_sim =
      by_test t.receiver.overflow
      (λ o. rw (accept_over t.receiver t.store f n o, view_over t o, accept_v_over m f n)
      (record {
        answer = refl;
        next = over_view o;
        good = record { size = g.size; fit = g.fit; few = g.few; mask = refl; clear = λ e. g.clear o };
      }))
      (λ o. by_eq t.receiver.held 0
      (λ h. rw (view_empty t o h) (begun o h))
      (λ h. rw (view_part t o h)
      (rw (accept_next t.receiver t.store f n o h, accept_v_next m f n)
      (rw (base_some t.receiver.held h, headed_some t.receiver.held t.store b h) at
      (grow_sim t.receiver t.store b (take (n - 1) (drop 1 f)) g.size g.fit g.few)))))

-- ---- a call

module _ (t : Bare) (g : Good t.receiver.crc_mask t) (ok : mask_ok t.receiver.crc_mask ≡ true) where
  free : refusal_of t.receiver (length t.store) ≡ 0
  free = none_refused t.receiver (length t.store) (record { store = g.size; fit = g.fit; few = g.few; mask = ok })

  -- a call that changes nothing
  stays : (a : Heard) → Sim t.receiver.crc_mask (record { answer = Some a; next = t }) (out a (view t))
  stays a = record { answer = refl; next = refl; good = g }

  pub join_sim : (f : List ℕ) (n : ℕ) → Sim t.receiver.crc_mask (bare_seen (join_of t.receiver t.store f n)) (join_v t.receiver.crc_mask (view t) f n)
  join_sim f n =
      by_eq n 0
      (λ e. rw (join_empty t.receiver t.store f n free e, join_v_empty _ (view t) f n e) (stays (dropped NoFragment)))
      (λ e. by_le n (length f)
      (λ l. rw (join_on t.receiver t.store f n free e l, join_v_on _ (view t) f n e l) (accept_sim t f n g))
      (λ l. rw (join_past t.receiver t.store f n free e l, join_v_past _ (view t) f n e l) (stays (dropped NoFragment))))

  push_sim : (f : List ℕ) (k : ℕ) → Sim t.receiver.crc_mask (bare_step t (push f k)) (step_v t.receiver.crc_mask (view t) (push f k))
  push_sim f k =
      by_test (field_ok k)
      (λ o. by_eq (length f) (k + 3)
      (λ l. rw (push_on t.receiver t.store f k free o l, push_v_on _ (view t) f k o l) (join_sim f (fragment_length f k)))
      (λ l. rw (push_length t.receiver t.store f k free o l, push_v_length _ (view t) f k o l) (stays (dropped WrongLength))))
      (λ o. rw (push_field t.receiver t.store f k free o, push_v_field _ (view t) f k o) (stays (refused 8)))

  reset_sim : Sim t.receiver.crc_mask (bare_step t reset) (step_v t.receiver.crc_mask (view t) reset)
  unfolding step_v
  reset_sim =
      record {
        answer = refl;
        next = view_empty (bare_step t reset).next refl refl;
        good = record { size = g.size; fit = omega arith; few = omega arith; mask = refl; clear = λ e. refl };
      }

  step_sim_own : (c : Call) → Sim t.receiver.crc_mask (bare_step t c) (step_v t.receiver.crc_mask (view t) c)
  step_sim_own (push f k) = push_sim f k
  step_sim_own (join f n) = unfold step_v in join_sim f n
  step_sim_own reset = reset_sim

module _ (m : ℕ) (ok : mask_ok m ≡ true) where
  pub step_sim : (t : Bare) → Good m t → (c : Call) → Sim m (bare_step t c) (step_v m (view t) c)
  step_sim t g c =
      rw (← g.mask)
      (step_sim_own t (record { size = g.size; fit = g.fit; few = g.few; mask = refl; clear = g.clear }) (ap mask_ok g.mask ∙ ok) c)

  -- ---- a list of calls

  pub left_good : (t : Bare) → Good m t → (cs : List Call) → Good m (bare_left t cs)
  unfolding bare_left
  left_good t g [] = g
  left_good t g (c ∷ cs) = left_good (bare_step t c).next (step_sim t g c).good cs

  pub left_sim : (t : Bare) → Good m t → (cs : List Call) → view (bare_left t cs) ≡ left_v m (view t) cs
  unfolding bare_left left_v
  left_sim t g [] = refl
  left_sim t g (c ∷ cs) =
      let q = step_sim t g c in
      left_sim (bare_step t c).next q.good cs ∙ ap (λ (h : Held). left_v m h cs) q.next

  pub run_sim : (t : Bare) → Good m t → (cs : List Call) → bare_run t cs ≡ run_v m (view t) cs
  unfolding bare_run run_v
  run_sim t g [] = refl
  run_sim t g (c ∷ cs) =
      let q = step_sim t g c in
      ap₂ {A = Option Heard} {B = List (Option Heard)} (λ a l. a ∷ l) q.answer (run_sim (bare_step t c).next q.good cs ∙ ap (λ (h : Held). run_v m h cs) q.next)

-- a new receiver, with any store of its size
pub fresh_good : (m : ℕ) (s : List ℕ) → length s ≡ 5000 → Good m (bare (fresh_joiner m) s)
fresh_good m s e = record { size = e; fit = omega arith; few = omega arith; mask = refl; clear = λ q. refl }

pub fresh_view : (m : ℕ) (s : List ℕ) → view (bare (fresh_joiner m) s) ≡ empty
fresh_view m s = view_empty (bare (fresh_joiner m) s) refl refl
