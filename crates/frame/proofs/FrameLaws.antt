-- What a frame holds, and when there is one.
-- Assumes nothing.
use mathlib.Core.Path.{◌≡◌, refl, ap, ◌∙◌}
use mathlib.Core.Bool.{true, false, ◌||◌}
use mathlib.Core.List.{List, [], ◌∷◌, ◌++◌, append_assoc}
use Prim.Native.Nat.{ℕ, zero, suc, ◌+◌, ◌-◌, ◌/◌, ◌%◌, ◌≤◌, ◌<◌}
use native.Mathlib.Omega.{arith}
use lib.ListN.{length, get_or, take, length-append, length-replicate}
use lib.Seq.{take_at, get_or_at}
use lib.Dec.{ltb, leb, eqb}
use borrow.Author.Tests.{lt-ltb, le-ltb, eq-eqb, ne_eqb}
use Rattle.laws.specs.Bits.{num}
use Rattle.laws.specs.Pick.{pick}
use Rattle.laws.proofs.Cases.{by_test, by_le, by_eq}
use Rattle.crc.specs.Crc.{crc_of}
use Rattle.refusals.specs.Limits.{field_ok}
use Rattle.refusals.specs.Outcome.{refused, answer, accepted}
use Rattle.refusals.proofs.OutcomeLaws.{not_refused}
use Rattle.frame.specs.Frame.{terminator, fill_of, body_of, control_byte, with_crc, frame_of, build_of}
use Rattle.frame.specs.declared.Control.{Control}

-- ---- the control byte

-- its bit 0
pub control_odd : (control : Control) → (control_byte control true % 2 ≡ 1) × (control_byte control false % 2 ≡ 0)
unfolding control_byte num
control_odd control = (omega arith, omega arith)

-- ---- the body

pub fill_length : (n marker : ℕ) → length (fill_of n marker) ≡ n
unfolding fill_of
fill_length zero marker = refl
fill_length (suc n) marker = ap suc (length-replicate n 0)

module _ (field : ℕ) (fragment : List ℕ) (marker : ℕ) where
  pub body_short : length fragment < field → body_of field fragment marker ≡ fragment ++ (terminator ∷ fill_of (field - (length fragment + 1)) marker)
  unfolding body_of pick
  body_short h = simp (lt-ltb _ _ h)

  pub body_full : field ≤ length fragment → body_of field fragment marker ≡ fragment
  unfolding body_of pick
  body_full h = simp (le-ltb _ _ h)

  pub body_length : length fragment ≤ field → length (body_of field fragment marker) ≡ field
  body_length h =
      by_le field (length fragment)
      (λ l. ap length (body_full l) ∙ omega arith)
      (λ l. let n = field - (length fragment + 1) in
      ap length (body_short l) ∙ length-append fragment (terminator ∷ fill_of n marker) ∙ omega (arith, fill_length n marker))

-- ---- the frame

module _ (field : ℕ) (fragment : List ℕ) (control : Control) (marker : ℕ) where
  -- the CRC of a frame's body and control byte
  sum_of : ℕ
  sum_of = crc_of (body_of field fragment marker ++ (control_byte control (leb field (length fragment)) ∷ []))

  -- the frame as the body and three bytes
  frame_is : frame_of field fragment control marker
      ≡ body_of field fragment marker ++ (control_byte control (leb field (length fragment)) ∷ sum_of / 256 ∷ sum_of % 256 ∷ [])
  unfolding frame_of with_crc sum_of
  frame_is = append_assoc (body_of field fragment marker) _ _

  pub frame_length : length fragment ≤ field → length (frame_of field fragment control marker) ≡ field + 3
  frame_length h = rw (frame_is, length-append, body_length field fragment marker h)

  pub frame_body : length fragment ≤ field → take field (frame_of field fragment control marker) ≡ body_of field fragment marker
  frame_body h = rw frame_is (take_at (body_of field fragment marker) _ field (body_length field fragment marker h))

  pub frame_control : length fragment ≤ field
      → get_or (frame_of field fragment control marker) field 0 ≡ control_byte control (leb field (length fragment))
  frame_control h = rw frame_is (get_or_at (body_of field fragment marker) _ _ 0 field (body_length field fragment marker h))

  -- the frame starts with the fragment
  pub frame_starts : length fragment ≤ field → (r : List ℕ) × (frame_of field fragment control marker ≡ fragment ++ r)
  frame_starts h =
      let end = control_byte control (leb field (length fragment)) ∷ sum_of / 256 ∷ sum_of % 256 ∷ [] in
      let fill = terminator ∷ fill_of (field - (length fragment + 1)) marker in
      by_le field (length fragment)
      (λ l. (end, rw (frame_is, body_full field fragment marker l)))
      (λ l. (fill ++ end, rw (frame_is, body_short field fragment marker l) (append_assoc fragment fill end)))

-- ---- the answer of `build_frame`, case by case

module _ (field : ℕ) (fragment : List ℕ) (control : Control) (marker : ℕ) where
  pub build_field : field_ok field ≡ false → build_of field fragment control marker ≡ refused 8
  unfolding build_of pick
  build_field h = simp h

  module _ (ok : field_ok field ≡ true) where
    pub build_empty : length fragment ≡ 0 → build_of field fragment control marker ≡ refused 14
    unfolding build_of pick
    build_empty h = simp (ok, eq-eqb _ _ h)

    pub build_long : field < length fragment → build_of field fragment control marker ≡ refused 14
    unfolding build_of pick
    build_long h = simp (ok, ne_eqb (length fragment) 0 (λ e. omega arith), lt-ltb _ _ h)

    module _ (some : 0 < length fragment) (fits : length fragment ≤ field) where
      -- the test of 14
      passes : (eqb (length fragment) 0 || ltb field (length fragment)) ≡ false
      passes = simp (ne_eqb (length fragment) 0 (λ e. omega arith), le-ltb _ _ fits)

      pub build_marker : marker ≡ terminator → build_of field fragment control marker ≡ refused 15
      unfolding build_of pick
      build_marker h = simp (ok, passes, eq-eqb _ _ h)

      module _ (other : marker ≡ terminator → ⊥) where
        pub build_reply : 3 < control.reply → build_of field fragment control marker ≡ refused 16
        unfolding build_of pick
        build_reply h = simp (ok, passes, ne_eqb _ _ other, lt-ltb _ _ h)

        pub build_hint : 7 < control.hint → build_of field fragment control marker ≡ refused 16
        unfolding build_of pick
        build_hint h =
            by_le control.reply 3
            (λ l. simp (ok, passes, ne_eqb _ _ other, le-ltb _ _ l, lt-ltb _ _ h))
            build_reply

        pub build_answer : control.reply ≤ 3 → control.hint ≤ 7 → build_of field fragment control marker ≡ answer (frame_of field fragment control marker)
        unfolding build_of pick
        build_answer l h = simp (ok, passes, ne_eqb _ _ other, le-ltb _ _ l, le-ltb _ _ h)

-- ---- what is accepted

-- a fragment that has a frame
pub record Accepted (field : ℕ) (fragment : List ℕ) (control : Control) (marker : ℕ) : Type 0 where
  pub ok : field_ok field ≡ true
  pub some : 0 < length fragment
  pub fits : length fragment ≤ field
  pub other : marker ≡ 0x14 → ⊥
  pub reply_low : control.reply ≤ 3
  pub hint_low : control.hint ≤ 7
  pub is : build_of field fragment control marker ≡ answer (frame_of field fragment control marker)

pub build_accepted : (field : ℕ) (fragment : List ℕ) (control : Control) (marker : ℕ)
    → accepted (build_of field fragment control marker) ≡ true
    → Accepted field fragment control marker
build_accepted field fragment control marker a =
    by_test (field_ok field)
    (λ ok. by_eq (length fragment) 0 (λ e. absurd (not_refused a (build_empty field fragment control marker ok e)))
    (λ ne. by_le (length fragment) field (λ fits. let some : 0 < length fragment = omega arith in
    by_eq marker terminator (λ e. absurd (not_refused a (build_marker field fragment control marker ok some fits e)))
    (λ other. by_le control.reply 3 (λ r. by_le control.hint 7
    (λ h. record {
      ok = ok;
      some = some;
      fits = fits;
      other = other;
      reply_low = r;
      hint_low = h;
      is = build_answer field fragment control marker ok some fits other r h;
    })
    (λ h. absurd (not_refused a (build_hint field fragment control marker ok some fits other h))))
    (λ r. absurd (not_refused a (build_reply field fragment control marker ok some fits other r)))))
    (λ l. absurd (not_refused a (build_long field fragment control marker ok l)))))
    (λ e. absurd (not_refused a (build_field field fragment control marker e)))
