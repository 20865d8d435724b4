-- The receiver without its store: what is held, as the source has it. Its steps, and their cases.
-- Assumes nothing.
use mathlib.Core.Path.{◌≡◌, refl}
use mathlib.Core.Bool.{true, false, ◌||◌, not}
use mathlib.Core.List.{List, [], ◌∷◌, ◌++◌}
use Rattle.std.proofs.Common.{Option, None, Some}
use Prim.Native.Nat.{ℕ, ◌+◌, ◌-◌, ◌≤◌, ◌<◌}
use lib.Bits.{bit_and}
use lib.ListN.{length, get_or, take, drop, set}
use lib.Dec.{ltb, leb, eqb}
use borrow.Author.Tests.{lt-ltb, le-ltb, le-leb, lt-leb, eq-eqb, ne_eqb}
use Rattle.laws.specs.Pick.{pick}
use Rattle.crc.specs.Crc.{crc_bits}
use Rattle.refusals.specs.Limits.{field_ok}
use Rattle.receiver.specs.Join.{Heard, refused, dropped, more, done}
use Rattle.receiver.specs.Push.{fragment_length}
use Rattle.receiver.specs.declared.Cause.TheVariants.{WrongLength, NoFragment, Overflow, Limit, Check}
use Rattle.gateway.specs.Run.{Call, push, join, reset}
use Rattle.gateway.proofs.Bare.{Bare}

-- nothing held; in overflow; or bytes, how many fragments, and the check byte
pub data Held : Type 0 where
  empty : Held
  over : Held
  part : List ℕ → ℕ → ℕ → Held

pub record Out : Type 0 where
  pub answer : Option Heard
  pub next : Held

abbrev pub out : Heard → Held → Out
out a h = record { answer = Some a; next = h }

-- the view of a receiver and its store
unfoldable pub view : Bare → Held
view t =
    pick t.receiver.overflow over
    (pick (eqb t.receiver.held 0) empty
    (part (take t.receiver.held t.store) t.receiver.nfrag t.receiver.count))

module _ (m : ℕ) where
  -- a message is complete, of k fragments
  unfoldable pub end_v : List ℕ → ℕ → ℕ → Heard
  end_v msg k c = pick (ltb k 2) (done (length msg) msg) (pick (eqb (crc_bits msg m) (bit_and c m)) (done (length msg) msg) (dropped Check))

  -- a tail goes after buf
  unfoldable pub grow_v : List ℕ → ℕ → ℕ → ℕ → List ℕ → Out
  grow_v buf k c b t =
      pick (leb 255 k || ltb 5000 (length buf + length t))
      (out (dropped Limit) (pick (leb 0x80 b) over empty))
      (pick (leb 0x80 b)
      (out more (part (buf ++ t) (k + 1) c))
      (out (end_v (set (buf ++ t) 0 b) (k + 1) c) empty))

  unfoldable pub accept_v : Held → List ℕ → ℕ → Out
  accept_v over f n = out (dropped Overflow) (pick (leb 0x80 (get_or f 0 0)) over empty)
  accept_v empty f n =
      pick (leb 0x80 (get_or f 0 0))
      (pick (ltb (length f) 2)
      (out (dropped NoFragment) empty)
      (grow_v (get_or f 0 0 ∷ []) 0 (get_or f 1 0) (get_or f 0 0) (take (n - 2) (drop 2 f))))
      (grow_v (get_or f 0 0 ∷ []) 0 0 (get_or f 0 0) (take (n - 1) (drop 1 f)))
  accept_v (part buf k c) f n = grow_v buf k c (get_or f 0 0) (take (n - 1) (drop 1 f))

  unfoldable pub join_v : Held → List ℕ → ℕ → Out
  join_v h f n = pick (eqb n 0 || ltb (length f) n) (out (dropped NoFragment) h) (accept_v h f n)

  unfoldable pub step_v : Held → Call → Out
  step_v h (push f field) =
      pick (not (field_ok field)) (out (refused 8) h)
      (pick (not (eqb (length f) (field + 3))) (out (dropped WrongLength) h)
      (join_v h f (fragment_length f field)))
  step_v h (join f n) = join_v h f n
  step_v h reset = record { answer = None; next = empty }

  -- what is held after a list of calls, and their answers
  unfoldable pub left_v : Held → List Call → Held
  left_v h [] = h
  left_v h (c ∷ cs) = left_v (step_v h c).next cs

  unfoldable pub run_v : Held → List Call → List (Option Heard)
  run_v h [] = []
  run_v h (c ∷ cs) = (step_v h c).answer ∷ run_v (step_v h c).next cs

-- ---- the cases

module _ (t : Bare) where
  pub view_over : t.receiver.overflow ≡ true → view t ≡ over
  unfolding view pick
  view_over o = simp o

  pub view_empty : t.receiver.overflow ≡ false → t.receiver.held ≡ 0 → view t ≡ empty
  unfolding view pick
  view_empty o h = simp (o, eq-eqb _ _ h)

  pub view_part : t.receiver.overflow ≡ false → (t.receiver.held ≡ 0 → ⊥)
      → view t ≡ part (take t.receiver.held t.store) t.receiver.nfrag t.receiver.count
  unfolding view pick
  view_part o h = simp (o, ne_eqb _ _ h)

module _ (m : ℕ) where
  module _ (msg : List ℕ) (k c : ℕ) where
    pub end_one : k < 2 → end_v m msg k c ≡ done (length msg) msg
    unfolding end_v pick
    end_one h = simp (lt-ltb _ _ h)

    pub end_good : 2 ≤ k → crc_bits msg m ≡ bit_and c m → end_v m msg k c ≡ done (length msg) msg
    unfolding end_v pick
    end_good h e = simp (le-ltb _ _ h, eq-eqb _ _ e)

    pub end_bad : 2 ≤ k → (crc_bits msg m ≡ bit_and c m → ⊥) → end_v m msg k c ≡ dropped Check
    unfolding end_v pick
    end_bad h e = simp (le-ltb _ _ h, ne_eqb _ _ e)

  module _ (buf : List ℕ) (k c b : ℕ) (t : List ℕ) where
    pub grow_v_many : 255 ≤ k → grow_v m buf k c b t ≡ out (dropped Limit) (pick (leb 0x80 b) over empty)
    unfolding grow_v pick
    grow_v_many h = simp (le-leb _ _ h)

    pub grow_v_long : k < 255 → 5000 < length buf + length t → grow_v m buf k c b t ≡ out (dropped Limit) (pick (leb 0x80 b) over empty)
    unfolding grow_v pick
    grow_v_long h l = simp (lt-leb _ _ h, lt-ltb _ _ l)

    pub grow_v_more : k < 255 → length buf + length t ≤ 5000 → 0x80 ≤ b → grow_v m buf k c b t ≡ out more (part (buf ++ t) (k + 1) c)
    unfolding grow_v pick
    grow_v_more h l f = simp (lt-leb _ _ h, le-ltb _ _ l, le-leb _ _ f)

    pub grow_v_last : k < 255 → length buf + length t ≤ 5000 → b < 0x80 → grow_v m buf k c b t ≡ out (end_v m (set (buf ++ t) 0 b) (k + 1) c) empty
    unfolding grow_v pick
    grow_v_last h l f = simp (lt-leb _ _ h, le-ltb _ _ l, lt-leb _ _ f)

  -- a single fragment needs no check byte
  pub grow_v_single : (b c : ℕ) (t : List ℕ) → b < 0x80 → grow_v m (b ∷ []) 0 c b t ≡ grow_v m (b ∷ []) 0 0 b t
  unfolding grow_v end_v pick
  grow_v_single b c t h = simp (lt-leb _ _ h)

  module _ (f : List ℕ) (n : ℕ) where
    pub accept_v_short : 0x80 ≤ get_or f 0 0 → length f < 2 → accept_v m empty f n ≡ out (dropped NoFragment) empty
    unfolding accept_v pick
    accept_v_short h l = simp (le-leb _ _ h, lt-ltb _ _ l)

    pub accept_v_first : 0x80 ≤ get_or f 0 0 → 2 ≤ length f
        → accept_v m empty f n ≡ grow_v m (get_or f 0 0 ∷ []) 0 (get_or f 1 0) (get_or f 0 0) (take (n - 2) (drop 2 f))
    unfolding accept_v pick
    accept_v_first h l = simp (le-leb _ _ h, le-ltb _ _ l)

    pub accept_v_only : get_or f 0 0 < 0x80 → accept_v m empty f n ≡ grow_v m (get_or f 0 0 ∷ []) 0 0 (get_or f 0 0) (take (n - 1) (drop 1 f))
    unfolding accept_v pick
    accept_v_only h = simp (lt-leb _ _ h)

    pub accept_v_over : accept_v m over f n ≡ out (dropped Overflow) (pick (leb 0x80 (get_or f 0 0)) over empty)
    unfolding accept_v
    accept_v_over = refl

    pub accept_v_next : (buf : List ℕ) (k c : ℕ) → accept_v m (part buf k c) f n ≡ grow_v m buf k c (get_or f 0 0) (take (n - 1) (drop 1 f))
    unfolding accept_v
    accept_v_next buf k c = refl

  module _ (h : Held) (f : List ℕ) where
    pub join_v_empty : (n : ℕ) → n ≡ 0 → join_v m h f n ≡ out (dropped NoFragment) h
    unfolding join_v pick
    join_v_empty n e = simp (eq-eqb _ _ e)

    pub join_v_past : (n : ℕ) → (n ≡ 0 → ⊥) → length f < n → join_v m h f n ≡ out (dropped NoFragment) h
    unfolding join_v pick
    join_v_past n e l = simp (ne_eqb _ _ e, lt-ltb _ _ l)

    pub join_v_on : (n : ℕ) → (n ≡ 0 → ⊥) → n ≤ length f → join_v m h f n ≡ accept_v m h f n
    unfolding join_v pick
    join_v_on n e l = simp (ne_eqb _ _ e, le-ltb _ _ l)

    pub push_v_field : (field : ℕ) → field_ok field ≡ false → step_v m h (push f field) ≡ out (refused 8) h
    unfolding step_v pick
    push_v_field field e = simp e

    pub push_v_length : (field : ℕ) → field_ok field ≡ true → (length f ≡ field + 3 → ⊥) → step_v m h (push f field) ≡ out (dropped WrongLength) h
    unfolding step_v pick
    push_v_length field e l = simp (e, ne_eqb _ _ l)

    pub push_v_on : (field : ℕ) → field_ok field ≡ true → length f ≡ field + 3 → step_v m h (push f field) ≡ join_v m h f (fragment_length f field)
    unfolding step_v pick
    push_v_on field e l = simp (e, eq-eqb _ _ l)
