-- The cases of a message, by its tests, and of a frame that is read in one run or two, of which the first measures.
-- Assumes nothing.
use mathlib.Core.Path.{◌≡◌, refl, ap, ◌∙◌}
use mathlib.Core.Bool.{Bool}
use mathlib.Core.List.{List, [], ◌∷◌, ◌++◌}
use Rattle.std.proofs.Common.{Option, None, Some}
use Prim.Native.Nat.{ℕ, ◌+◌, ◌-◌, ◌/◌, ◌%◌, ◌≤◌, ◌<◌}
use native.Mathlib.Omega.{arith}
use lib.ListN.{length, get_or, take, drop}
use lib.Seq.{sets}
use borrow.Author.Tests.{lt-ltb, le-ltb, eq-eqb, ne_eqb}
use Rattle.laws.specs.Bits.{unpack}
use Rattle.laws.specs.Wrote.{Wrote}
use Rattle.laws.proofs.Cases.{pick_true, pick_false, by_eq}
use Rattle.laws.proofs.ListLaws.{from_place}
use Rattle.refusals.specs.Outcome.{Outcome, refused, answer}
use Rattle.ax25_address.specs.Types.{Generic, call_len}
use Rattle.ax25_aprs.specs.Put.{Reads}
use Rattle.ax25.specs.Decode.{read_frame}
use Rattle.kiss.specs.Codec.{or_seven, decode_message, decode_some, decode_of}
use Rattle.kiss.specs.Generic.{generic_back}
use Rattle.kiss.specs.Told.{decode_into}
use Rattle.kiss.proofs.TellLaws.{tell_refused, first_short, first_fits, copied_out}

-- ---- the tests

no_byte : (mended : Bool) (m : List ℕ) → length m ≡ 0 → decode_some mended m ≡ refused 7
unfolding decode_some
no_byte mended [] e = refl
no_byte mended (x ∷ m) e = absurd (omega arith)

first_byte : (mended : Bool) (m : List ℕ) → 0 < length m → decode_some mended m ≡ decode_message mended (get_or m 0 0) (drop 1 m)
unfolding decode_some
first_byte mended [] h = absurd (omega arith)
first_byte mended (x ∷ m) h = refl

module _ (mended : Bool) (m : List ℕ) where
  pub too_long : 5000 < length m → decode_of mended m ≡ refused 2
  unfolding decode_of
  too_long h = pick_true _ _ (lt-ltb 5000 (length m) h)

  not_long : length m ≤ 5000 → decode_of mended m ≡ decode_some mended m
  unfolding decode_of
  not_long h = pick_false _ _ (le-ltb 5000 (length m) h)

  pub of_empty : length m ≡ 0 → decode_of mended m ≡ refused 7
  of_empty e = not_long (omega arith) ∙ no_byte mended m e

  module _ (h : length m ≤ 5000) (k : length m ≡ 0 → ⊥) where
    by_header : decode_of mended m ≡ decode_message mended (get_or m 0 0) (drop 1 m)
    by_header = not_long h ∙ first_byte mended m (by_eq (length m) 0 (λ e. absurd (k e)) (λ e. omega arith))

    abbrev asked : ℕ
    asked = get_or m 0 0 / 16 % 4

    pub of_three : asked ≡ 3 → decode_of mended m ≡ refused 7
    unfolding decode_message
    of_three e = by_header ∙ pick_true _ _ (eq-eqb asked 3 e)

    module _ (e : asked ≡ 3 → ⊥) where
      pub of_two : asked ≡ 2 → decode_of mended m ≡ answer (record { command = Generic; bytes = generic_back (get_or m 0 0) (drop 1 m) })
      unfolding decode_message
      of_two f = by_header ∙ pick_false _ _ (ne_eqb asked 3 e) ∙ pick_true _ _ (eq-eqb asked 2 f)

      pub of_other : (asked ≡ 2 → ⊥) → decode_of mended m ≡ or_seven asked (read_frame mended (call_len asked) (get_or m 0 0) (unpack (drop 1 m)))
      unfolding decode_message
      of_other f = by_header ∙ pick_false _ _ (ne_eqb asked 3 e) ∙ pick_false _ _ (ne_eqb asked 2 f)

-- the letters of a call are 6 or 7
pub letters : (command l : ℕ) → l ≡ call_len command → (2 ≤ l) × (l ≤ 7)
letters command l e =
    by_eq command 1
    (λ f. let s : l ≡ 7 = e ∙ pick_true _ _ (eq-eqb command 1 f) in (omega arith, omega arith))
    (λ f. let s : l ≡ 6 = e ∙ pick_false _ _ (ne_eqb command 1 f) in (omega arith, omega arith))

-- ---- a frame in one run or two

-- the part after the first byte is what follows it
same_frame : (mended : Bool) (command l h : ℕ) (m : List ℕ) → l ≡ call_len command
    → read_frame mended l h (unpack (take (length m - 1) (drop 1 m))) ≡ read_frame mended (call_len command) h (unpack (drop 1 m))
same_frame mended command l h m e = rw (e, from_place m 1)

not_both : {r : (Option ℕ)} {n : ℕ} → r ≡ Some n → r ≡ None → ⊥
not_both e f = let z : ◌≡◌ {A = ℕ} 0 1 = cc in omega arith

-- the first run reads o, writes it to s, which leaves x, and answers r
module _ (command : ℕ) (out s x : List ℕ) (r : Option ℕ) where
  none_read : (o : Option (List ℕ)) → Reads o s 0 x r → r ≡ None → (refused 7, out) ≡ decode_into (or_seven command o) out
  none_read None m e = tell_refused (λ d. d.bytes) (λ d. d.command) out {o = or_seven command None} 7 refl
  none_read (Some t) m e = absurd (not_both m.0 e)

  module _ (n : ℕ) (e : r ≡ Some n) where
    sized : (t : List ℕ) → Reads (Some t) s 0 x r → Wrote s 0 t x n
    sized t m = let k : n ≡ 0 + length t = cc in record { stored = m.1.stored; next_is = k }

    short_read : (o : Option (List ℕ)) → Reads o s 0 x r → length out < n → (refused 6, out) ≡ decode_into (or_seven command o) out
    short_read None m h = absurd (not_both e m)
    short_read (Some t) m h =
        first_short (λ d. d.bytes) (λ d. d.command) out (record { command = command; bytes = t }) {o = or_seven command (Some t)} refl (sized t m) h

    whole_read : (o : Option (List ℕ)) → Reads o s 0 x r → n ≤ length out → (t : List ℕ) (v : Option ℕ) → Reads o out 0 t v
        → (answer (n, command), t) ≡ decode_into (or_seven command o) out
    whole_read None m h t v w = absurd (not_both e m)
    whole_read (Some d) m h t v w =
        first_fits (λ d. d.bytes) (λ d. d.command) out (record { command = command; bytes = d }) {o = or_seven command (Some d)} refl (sized d m) h w.1

-- where s has room for what is read, copying it is as good as a second run
pub read_copied : (out s x : List ℕ) (r : Option ℕ) (n : ℕ) → r ≡ Some n → (o : Option (List ℕ)) → Reads o s 0 x r → n ≤ length s
    → (rest t : List ℕ) → t ≡ sets out 0 (take (n - 0) (x ++ rest)) → Reads o out 0 t r
read_copied out s x r n e None m h rest t z = m
read_copied out s x r n e (Some d) m h rest t z = let k : 0 + length d ≡ n = cc in (m.0, copied_out m.1 n k h out rest z)

-- the same of a frame, which is read from the part after the header
module _ (mended : Bool) (command l h : ℕ) (m : List ℕ) (p : l ≡ call_len command) (out s x : List ℕ) (r : Option ℕ) where
  abbrev part : Option (List ℕ)
  part = read_frame mended l h (unpack (take (length m - 1) (drop 1 m)))

  abbrev told : Outcome (ℕ × ℕ) × List ℕ
  told = decode_into (or_seven command (read_frame mended (call_len command) h (unpack (drop 1 m)))) out

  same_told : decode_into (or_seven command part) out ≡ told
  same_told = ap (λ (o : Option (List ℕ)). decode_into (or_seven command o) out) (same_frame mended command l h m p)

  module _ (w : Reads part s 0 x r) where
    pub frame_none : r ≡ None → (refused 7, out) ≡ told
    frame_none e = none_read command out s x r part w e ∙ same_told

    pub frame_short : (n : ℕ) → r ≡ Some n → length out < n → (refused 6, out) ≡ told
    frame_short n e k = short_read command out s x r n e part w k ∙ same_told

    pub frame_fits : (n : ℕ) → r ≡ Some n → n ≤ length out → (t : List ℕ) (v : Option ℕ) → Reads part out 0 t v → (answer (n, command), t) ≡ told
    frame_fits n e k t v z = whole_read command out s x r n e part w k t v z ∙ same_told

    pub frame_copied : (n : ℕ) → r ≡ Some n → n ≤ length out → n ≤ length s → (rest t : List ℕ) → t ≡ sets out 0 (take (n - 0) (x ++ rest)) → (answer (n, command), t) ≡ told
    frame_copied n e k j rest t z = frame_fits n e k t r (read_copied out s x r n e part w j rest t z)
