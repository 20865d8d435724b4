-- A state that 17 and 9 do not refuse stays one, whatever is called; so does every state that a history leaves.
-- Assumes nothing.
use mathlib.Core.Path.{◌≡◌, refl, ap, ◌∙◌}
use mathlib.Core.Bool.{Bool, true, false}
use mathlib.Core.List.{List, [], ◌∷◌}
use Prim.Native.Nat.{ℕ}
use lib.ListN.{length}
use Rattle.laws.specs.Bits.{num}
use Rattle.laws.specs.Pick.{pick}
use Rattle.refusals.specs.Limits.{mask_ok}
use Rattle.receiver.specs.Join.{After, refusal_of}
use Rattle.receiver.specs.Stored.{flag, receiver_of, stored_of}
use Rattle.receiver.specs.Tally.{join_tallied, push_tallied}
use Rattle.receiver.specs.declared.Reassembler.{Reassembler}
use Rattle.receiver.proofs.JoinLaws.{none_refused}
use Rattle.gateway.specs.Run.{Call, push, join, reset, State, step_of, left_by}
use Rattle.gateway.proofs.Bare.{bare}
use Rattle.gateway.proofs.Lift.{bare_of}
use Rattle.gateway.proofs.Sim.{Good, step_sim, fresh_good}
use Rattle.channels.specs.Book.{History, state_after}

-- what holds of both ways of a choice
by_pick : {X : Type 0} (P : X → Type 0) (t : Bool) (x y : X) → P x → P y → P (pick t x y)
unfolding pick
by_pick P true x y a b = a
by_pick P false x y a b = b

module _ (m : ℕ) (ok : mask_ok m ≡ true) where
  abbrev GoodAfter : After Reassembler → Type 0
  GoodAfter a = Good m (bare a.receiver.state a.store)

  good_step : (t : State) → Good m (bare_of t) → (c : Call) → Good m (bare_of (step_of t c).next)
  unfolding push_tallied join_tallied
  good_step t g (push f k) =
      by_pick GoodAfter _ _ _ g (by_pick GoodAfter _ _ _ g (by_pick GoodAfter _ _ _ g (step_sim m ok (bare_of t) g (push f k)).good))
  good_step t g (join f n) = by_pick GoodAfter _ _ _ g (by_pick GoodAfter _ _ _ g (step_sim m ok (bare_of t) g (join f n)).good)
  good_step t g reset = (step_sim m ok (bare_of t) g reset).good

  good_left : (t : State) → Good m (bare_of t) → (cs : List Call) → Good m (bare_of (left_by t cs))
  unfolding left_by
  good_left t g [] = g
  good_left t g (c ∷ cs) = good_left (step_of t c).next (good_step t g c) cs

-- a history of an accepted mask and a store of 5,000 bytes
pub record Fair (h : History) : Type 0 where
  pub mask : mask_ok h.mask ≡ true
  pub store : length h.store ≡ 5000

-- a state whose store has 5,000 bytes and that is not refused
pub record Taken (t : State) : Type 0 where
  pub size : length t.store ≡ 5000
  pub fine : refusal_of t.receiver.state (length t.store) ≡ 0

pub taken_after : (h : History) → Fair h → Taken (state_after h)
taken_after h f =
    let g = good_left h.mask f.mask _ (fresh_good h.mask h.store f.store) h.calls in
    record {
      size = g.size;
      fine = none_refused _ _ (record { store = g.size; fit = g.fit; few = g.few; mask = ap mask_ok g.mask ∙ f.mask });
    }

-- ---- what is stored comes back

flag_num : (b : Bool) → flag (num b) ≡ b
unfolding num
flag_num true = refl
flag_num false = refl

pub stored_back : (r : Reassembler) → receiver_of (stored_of r) ≡ r
stored_back r =
    ap (λ (b : Bool). record {
      state = record { held = r.state.held; nfrag = r.state.nfrag; count = r.state.count; crc_mask = r.state.crc_mask; overflow = b };
      tallies = r.tallies;
    }) (flag_num r.state.overflow)
