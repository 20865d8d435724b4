-- A frame that is pushed is its fragment, accepted.
-- Assumes nothing.
use mathlib.Core.Path.{◌≡◌, refl, sym, ap, ◌∙◌}
use mathlib.Core.Bool.{true, false}
use mathlib.Core.List.{List, [], ◌∷◌, ◌++◌}
use Prim.Native.Nat.{ℕ, zero, suc, ◌+◌, ◌-◌, ◌%◌, ◌≤◌, ◌<◌}
use native.Mathlib.Nat.{add-zero}
use native.Mathlib.Omega.{arith}
use lib.ListN.{length, replicate}
use lib.Dec.{eqb}
use lib.Seq.{take_at}
use borrow.Author.Tests.{ne_eqb, le-leb, lt-leb}
use Rattle.laws.specs.Pick.{pick}
use Rattle.laws.proofs.Cases.{by_le}
use Rattle.refusals.specs.Limits.{field_ok}
use Rattle.frame.specs.Frame.{terminator, fill_of, frame_of, control_byte}
use Rattle.frame.specs.declared.Control.{Control}
use Rattle.frame.proofs.FrameLaws.{frame_length, frame_body, frame_control, control_odd, body_short}
use Rattle.receiver.specs.Push.{last_from, fragment_length}
use Rattle.receiver.proofs.PushLaws.{length_full, length_last}
use Rattle.gateway.specs.Run.{push}
use Rattle.gateway.proofs.View.{Held, empty, part, grow_v, accept_v, join_v, step_v, accept_v_first, accept_v_only, accept_v_next, join_v_on, push_v_on}

-- ---- the last 14

last_append : (i b : ℕ) (xs ys : List ℕ) → last_from i b (xs ++ ys) ≡ last_from (i + length xs) (last_from i b xs) ys
unfolding last_from
last_append i b [] ys = ap (λ (k : ℕ). last_from k b ys) (sym (add-zero i))
last_append i b (x ∷ xs) ys =
    last_append (i + 1) (pick (eqb x terminator) i b) xs ys
    ∙ ap (λ (k : ℕ). last_from k (last_from (i + 1) (pick (eqb x terminator) i b) xs) ys) (omega arith)

last_zeros : (i b n : ℕ) → last_from i b (replicate n 0) ≡ b
unfolding last_from pick
last_zeros i b zero = refl
last_zeros i b (suc n) = last_zeros (i + 1) b n

last_fill : (i b n marker : ℕ) → (marker ≡ 0x14 → ⊥) → last_from i b (fill_of n marker) ≡ b
unfolding last_from fill_of pick
last_fill i b zero marker h = refl
last_fill i b (suc n) marker h = rw (ne_eqb marker 0x14 h, last_from) (last_zeros (i + 1) b n)

-- after the fragment, its terminator is the last
last_body : (fragment : List ℕ) (n marker : ℕ) → (marker ≡ 0x14 → ⊥) → last_from 0 0 (fragment ++ (terminator ∷ fill_of n marker)) ≡ length fragment
unfolding last_from pick
last_body fragment n marker h =
    last_append 0 0 fragment (terminator ∷ fill_of n marker)
    ∙ last_fill (0 + length fragment + 1) (0 + length fragment) n marker h
    ∙ omega arith

module _ (field : ℕ) (fragment : List ℕ) (control : Control) (marker : ℕ) (fits : length fragment ≤ field) (mark : marker ≡ 0x14 → ⊥) where
  abbrev whole : List ℕ
  whole = frame_of field fragment control marker

  -- the receiver finds the fragment's length
  length_heard : fragment_length whole field ≡ length fragment
  length_heard =
      by_le field (length fragment)
      (λ h. length_full whole field
      (rw (frame_control field fragment control marker fits, le-leb field (length fragment) h) (control_odd control).0)
      ∙ omega arith)
      (λ h. length_last whole field
      (λ e. let z : control_byte control false % 2 ≡ 1 = rw (frame_control field fragment control marker fits, lt-leb field (length fragment) h) at e in
      omega (arith, (control_odd control).1))
      ∙ ap (last_from 0 0) (frame_body field fragment control marker fits ∙ body_short field fragment marker h)
      ∙ last_body fragment (field - (length fragment + 1)) marker mark)

  pub pushed : (m : ℕ) (h : Held) → field_ok field ≡ true → 0 < length fragment → step_v m h (push whole field) ≡ accept_v m h whole (length fragment)
  pushed m h ok pos =
      let l = frame_length field fragment control marker fits in
      push_v_on m h whole field ok l
      ∙ ap (join_v m h whole) length_heard
      ∙ join_v_on m h whole (length fragment) (λ z. omega arith) (omega arith)

-- ---- a fragment at the front of a frame

module _ (m : ℕ) (b : ℕ) (t r : List ℕ) where
  pub front_first : (c : ℕ) → 0x80 ≤ b → accept_v m empty (b ∷ c ∷ (t ++ r)) (length (b ∷ c ∷ t)) ≡ grow_v m (b ∷ []) 0 c b t
  front_first c h =
      accept_v_first m (b ∷ c ∷ (t ++ r)) (length (b ∷ c ∷ t)) h (omega arith)
      ∙ ap (grow_v m (b ∷ []) 0 c b) (take_at t r (suc (suc (length t)) - 2) (omega arith))

  pub front_only : b < 0x80 → accept_v m empty (b ∷ (t ++ r)) (length (b ∷ t)) ≡ grow_v m (b ∷ []) 0 0 b t
  front_only h =
      accept_v_only m (b ∷ (t ++ r)) (length (b ∷ t)) h
      ∙ ap (grow_v m (b ∷ []) 0 0 b) (take_at t r (suc (length t) - 1) (omega arith))

  pub front_next : (buf : List ℕ) (k c : ℕ) → accept_v m (part buf k c) (b ∷ (t ++ r)) (length (b ∷ t)) ≡ grow_v m buf k c b t
  front_next buf k c =
      accept_v_next m (b ∷ (t ++ r)) (length (b ∷ t)) buf k c
      ∙ ap (grow_v m buf k c b) (take_at t r (suc (length t) - 1) (omega arith))
