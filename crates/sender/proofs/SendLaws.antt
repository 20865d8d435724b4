-- The cases of the sender's answers and of its fragments.
-- Assumes nothing.
use mathlib.Core.Bool.{true, false}
use mathlib.Core.Path.{◌≡◌, refl, ◌∙◌}
use mathlib.Core.List.{List, ◌∷◌}
use Prim.Native.Nat.{ℕ, zero, suc, ◌+◌, ◌-◌, ◌*◌, ◌≤◌, ◌<◌}
use native.Mathlib.Omega.{arith}
use lib.ListN.{length, get_or, take, drop}
use lib.Seq.{drop-drop}
use lib.Dec.{leb}
use borrow.Author.Tests.{eq-eqb, ne_eqb, lt-ltb, le-ltb, le-leb, lt-leb, not-false}
use Rattle.laws.specs.Pick.{pick}
use Rattle.laws.proofs.Cases.{by_test, by_le, pick_true, pick_false}
use Rattle.refusals.specs.Limits.{field_ok, mask_ok}
use Rattle.refusals.specs.Outcome.{refused, answer, accepted}
use Rattle.refusals.proofs.OutcomeLaws.{not_refused, same_answer_lem, past}
use Rattle.sender.specs.Send.{count_of, count_for, check_of, lead_of, fragment_of, most_of, send_of}
use Rattle.sender.proofs.CountLaws.{count_one}

-- ---- the field

pub field_accepted : (field : ℕ) → 3 ≤ field → field ≤ 512 → field_ok field ≡ true
field_accepted field l h = simp (le-leb 3 field l, le-leb field 512 h)

-- ---- `count_for_field`

module _ (total field : ℕ) where
  pub count_field : field_ok field ≡ false → count_for total field ≡ refused 8
  unfolding count_for pick
  count_field f = simp f

  pub count_long : field_ok field ≡ true → 5000 < total → count_for total field ≡ refused 2
  unfolding count_for pick
  count_long f h = simp (f, lt-ltb 5000 total h)

  pub count_answer : field_ok field ≡ true → total ≤ 5000 → count_for total field ≡ answer (count_of total field)
  unfolding count_for pick
  count_answer f h = simp (f, le-ltb 5000 total h)

-- ---- the first byte

module _ (first k count : ℕ) where
  pub lead_more : suc k < count → lead_of first k count ≡ first + 0x80
  unfolding lead_of pick
  lead_more h = rw (lt-ltb (suc k) count h)

  pub lead_last : count ≤ suc k → lead_of first k count ≡ first
  unfolding lead_of pick
  lead_last h = rw (le-ltb (suc k) count h)

-- ---- the fragments

module _ (message : List ℕ) (field mask : ℕ) where
  -- one fragment is the message
  pub fragment_single : length message ≤ field → fragment_of message field mask 0 ≡ message
  unfolding fragment_of pick
  fragment_single h = rw (le-leb (length message) field h)

  pub fragment_whole : (k : ℕ) → length message ≤ field → k < count_of (length message) field → fragment_of message field mask k ≡ message
  fragment_whole zero h l = fragment_single h
  fragment_whole (suc k) h l = absurd (omega (arith, count_one (length message) field h))

  -- the first of several
  pub fragment_first : field < length message → fragment_of message field mask 0
      ≡ lead_of (get_or message 0 0) 0 (count_of (length message) field)
      ∷ check_of message mask (count_of (length message) field)
      ∷ take (field - 2) (drop 1 message)
  unfolding fragment_of pick
  fragment_first h = rw (lt-leb (length message) field h)

  -- a later one
  pub fragment_suc : (k : ℕ) → fragment_of message field mask (suc k)
      ≡ lead_of (get_or message 0 0) (suc k) (count_of (length message) field) ∷ take (field - 1) (drop (field - 2 + k * (field - 1)) (drop 1 message))
  unfolding fragment_of
  fragment_suc k = refl

  -- it starts k times field - 1 bytes into the message
  pub fragment_later : (k : ℕ) → 3 ≤ field → 0 < k → fragment_of message field mask k
      ≡ lead_of (get_or message 0 0) k (count_of (length message) field) ∷ take (field - 1) (drop (k * (field - 1)) message)
  fragment_later zero l h = absurd (omega arith)
  fragment_later (suc k) l h =
      let e : 1 + (field - 2 + k * (field - 1)) ≡ suc k * (field - 1) = omega arith in
      rw (fragment_suc k, drop-drop (field - 2 + k * (field - 1)) 1 message, e)

-- ---- `fragment`

-- a message, a field and a mask that are accepted
pub record Sendable (message : List ℕ) (field mask : ℕ) : Type 0 where
  pub field_ok_holds : field_ok field ≡ true
  pub mask_ok_holds : mask_ok mask ≡ true
  pub some : 0 < length message
  pub short : length message ≤ 5000
  pub first_low : get_or message 0 0 < 128
  pub room : count_of (length message) field ≤ most_of mask

module _ (message : List ℕ) (field mask k : ℕ) where
  pub send_field : field_ok field ≡ false → send_of message field mask k ≡ refused 8
  unfolding send_of pick
  send_field f = simp f

  pub send_mask : field_ok field ≡ true → mask_ok mask ≡ false → send_of message field mask k ≡ refused 9
  unfolding send_of pick
  send_mask f m = simp (f, m)

  pub send_empty : field_ok field ≡ true → mask_ok mask ≡ true → length message ≡ 0 → send_of message field mask k ≡ refused 10
  unfolding send_of pick
  send_empty f m e = simp (f, m, eq-eqb (length message) 0 e)

  pub send_long : field_ok field ≡ true → mask_ok mask ≡ true → 5000 < length message → send_of message field mask k ≡ refused 2
  unfolding send_of pick
  send_long f m h = simp (f, m, ne_eqb (length message) 0 (λ e. omega arith), lt-ltb 5000 (length message) h)

  pub send_high : field_ok field ≡ true → mask_ok mask ≡ true → 0 < length message → length message ≤ 5000 → 128 ≤ get_or message 0 0
      → send_of message field mask k ≡ refused 11
  unfolding send_of pick
  send_high f m s l h =
      simp (f, m, ne_eqb (length message) 0 (λ e. omega arith), le-ltb 5000 (length message) l, le-leb 128 (get_or message 0 0) h)

  pub send_crowded : field_ok field ≡ true → mask_ok mask ≡ true → 0 < length message → length message ≤ 5000 → get_or message 0 0 < 128
      → most_of mask < count_of (length message) field → send_of message field mask k ≡ refused 12
  unfolding send_of pick
  send_crowded f m s l h r =
      simp (
        f,
        m,
        ne_eqb (length message) 0 (λ e. omega arith),
        le-ltb 5000 (length message) l,
        lt-leb 128 (get_or message 0 0) h,
        lt-ltb (most_of mask) (count_of (length message) field) r,
      )

  -- what can be sent is refused by the fragment's number alone
  send_by : Sendable message field mask
      → send_of message field mask k ≡ pick (leb (count_of (length message) field) k) (refused 13) (answer (fragment_of message field mask k))
  unfolding send_of pick
  send_by s =
      simp (
        s.field_ok_holds,
        s.mask_ok_holds,
        ne_eqb (length message) 0 (λ e. omega arith),
        le-ltb 5000 (length message) s.short,
        lt-leb 128 (get_or message 0 0) s.first_low,
        le-ltb (most_of mask) (count_of (length message) field) s.room,
      )

  pub send_past : Sendable message field mask → count_of (length message) field ≤ k → send_of message field mask k ≡ refused 13
  send_past s p = send_by s ∙ pick_true _ _ (le-leb (count_of (length message) field) k p)

  pub send_answer : Sendable message field mask → k < count_of (length message) field
      → send_of message field mask k ≡ answer (fragment_of message field mask k)
  send_answer s p = send_by s ∙ pick_false _ _ (lt-leb (count_of (length message) field) k p)

-- what is handed out is fragment k, for a field that is accepted
pub send_is : (message : List ℕ) (field mask k : ℕ) (v : List ℕ) → send_of message field mask k ≡ answer v
    → (fragment_of message field mask k ≡ v) × (field_ok field ≡ true)
unfolding send_of
send_is message field mask k v e =
    let field_is = past _ _ _ _ e in
    let rest = past _ _ _ _ (past _ _ _ _ (past _ _ _ _ (past _ _ _ _ (past _ _ _ _ (past _ _ _ _ field_is.1).1).1).1).1).1 in
    (same_answer_lem rest.1, not-false (field_ok field) field_is.0)

-- what is accepted for the first fragment is accepted for all of them
pub send_accepted : (message : List ℕ) (field mask : ℕ) → accepted (send_of message field mask 0) ≡ true → Sendable message field mask
send_accepted message field mask acc =
    by_test (field_ok field)
    (λ f. by_test (mask_ok mask)
    (λ m. by_le 1 (length message)
    (λ s. by_le (length message) 5000
    (λ l. by_le 128 (get_or message 0 0)
    (λ h. no 11 (send_high message field mask 0 f m s l h))
    (λ h. by_le (count_of (length message) field) (most_of mask)
    (λ r. record { field_ok_holds = f; mask_ok_holds = m; some = s; short = l; first_low = h; room = r })
    (λ r. no 12 (send_crowded message field mask 0 f m s l h r))))
    (λ l. no 2 (send_long message field mask 0 f m l)))
    (λ s. no 10 (send_empty message field mask 0 f m (omega arith))))
    (λ m. no 9 (send_mask message field mask 0 f m)))
    (λ f. no 8 (send_field message field mask 0 f))
  where
    no : (n : ℕ) → send_of message field mask 0 ≡ refused n → Sendable message field mask
    no n e = absurd (not_refused acc e)
