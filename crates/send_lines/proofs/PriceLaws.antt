-- `price` refuses a line exactly where `send` does, and then both say the same: `price_refused`, `price_accepted` and `send_refused` for data under
-- a command, `lines_alike`, `lines_refused` and `refused_same` for lines. Where `price` says "N bytes, K frames", `send` writes K lines (`price_lines`).
-- Assumes nothing.
use mathlib.Core.Path.{◌≡◌, refl, sym, ap, ◌∙◌}
use mathlib.Core.Bool.{Bool, true, false, ◌&&◌, not, false≢true}
use mathlib.Core.List.{List, [], ◌∷◌, ◌++◌, append_assoc, flat_map}
use Prim.Native.Nat.{ℕ, zero, suc, ◌+◌, ◌/◌, ◌%◌, ◌≤◌, ◌<◌}
use native.Mathlib.Omega.{arith}
use lib.ListN.{length, get_or, get_or-eq_default}
use lib.Dec.{eqb, ltb}
use borrow.Author.Tests.{lt-ltb, le-ltb, ltb-true, not-true}
use Rattle.laws.specs.Pick.{pick}
use Rattle.laws.specs.Text.{ascii, same, starts}
use Rattle.laws.proofs.Cases.{pick_true, pick_false, by_test, by_le, and_left, and_right}
use Rattle.laws.proofs.TextLaws.{below, at_each, starts_append, starts_not}
use Rattle.refusals.specs.Limits.{field_ok}
use Rattle.refusals.specs.Outcome.{Outcome, refused, answer}
use Rattle.refusals.proofs.LimitLaws.{field_low}
use Rattle.refusals.proofs.OutcomeLaws.{answer_not, same_refusal}
use Rattle.frame.specs.Frame.{frame_of}
use Rattle.frame.proofs.FrameLaws.{frame_length, build_answer}
use Rattle.sender.specs.Send.{count_of, count_for, fragment_of, send_of}
use Rattle.sender.proofs.CountLaws.{count_pos}
use Rattle.sender.proofs.SendLaws.{Sendable, count_field, count_answer, send_field, send_answer}
use Rattle.sender.proofs.SplitLaws.{fragment_some, fragment_fits}
use Rattle.ax25.specs.Encode.{Coded}
use Rattle.kiss.specs.Codec.{code_of}
use Rattle.kiss.proofs.CodeBounds.{code_bounds}
use Rattle.preview.specs.declared.Price.{Price}
use Rattle.preview.specs.Preview.{sent_price, coded_price, preview_of}
use Rattle.preview.proofs.PreviewLaws.{preview_sendable}
use Rattle.texts.specs.Hex.{digit_of, hex_byte, hex_of, bytes_of, read_of}
use Rattle.texts.specs.Number.{numeral_from, numeral_of}
use Rattle.texts.specs.Part.{before, behind}
use Rattle.texts.specs.Say.{command_of, line_room, numbered_line, refusal_line, error_line, read_or}
use Rattle.texts.specs.declared.hex.HexError.{HexError}
use Rattle.std.proofs.Common.{Result, Ok, Err}
use Rattle.send_lines.specs.Line.{plain, marker, framed_of, lined_by, frames_of, counted_text, coded_text, data_text, price_line, priced_text, price_text, said_of, spelled_text, line_text}

-- ---- data that `price` refuses

module _ (field mask : ℕ) where
  module _ (message : List ℕ) where
    -- the refusal of fragment 0 stands in place of all frames
    frames_refused : (n count : ℕ) → 1 ≤ count → send_of message field mask 0 ≡ refused n → frames_of message field mask count 0 ≡ refusal_line n
    unfolding frames_of lined_by framed_of
    frames_refused n zero h e = absurd (omega (arith, h))
    frames_refused n (suc m) h e = rw e

    -- a field that is refused is refused by the count already, with the same number
    counted_refused : (n : ℕ) → length message ≤ 5000 → send_of message field mask 0 ≡ refused n
        → counted_text message field mask (count_for (length message) field) ≡ refusal_line n
    unfolding counted_text
    counted_refused n short e =
        by_test (field_ok field)
        (λ f. ap (counted_text message field mask) (count_answer (length message) field f short)
        ∙ frames_refused n (count_of (length message) field) (count_pos (length message) field) e)
        (λ f. ap (counted_text message field mask) (count_field (length message) field f)
        ∙ ap refusal_line (same_refusal (sym (send_field message field mask 0 f) ∙ e)))

  sent_refused : (o : Outcome (List ℕ)) (size n : ℕ) → sent_price o size field ≡ refused n → o ≡ refused n
  sent_refused (refused m) size n e = ap refused (same_refusal e)
  sent_refused (answer f) size n e = absurd (answer_not e)

  coded_refused : (o : Outcome Coded) → ((c : Coded) → o ≡ answer c → length c.bytes ≤ 5000) → (n : ℕ) → coded_price o field mask ≡ refused n
      → coded_text field mask o ≡ refusal_line n
  unfolding coded_text
  coded_refused (refused m) few n e = ap refusal_line (same_refusal e)
  coded_refused (answer c) few n e =
      counted_refused c.bytes n (few c refl) (sent_refused (send_of c.bytes field mask 0) (length c.bytes) n e)

  -- where the price is refused, `send` writes that refusal and nothing else
  pub price_refused : (command : ℕ) (d : List ℕ) (n : ℕ) → preview_of command d field mask ≡ refused n → data_text field mask command d ≡ refusal_line n
  unfolding preview_of data_text
  price_refused command d n e = coded_refused (code_of command d) (λ c q. (code_bounds command d c q).fits) n e

-- ---- data that `price` accepts

module _ (field mask : ℕ) where
  -- a text of so many frames: each of them is built and none is refused
  pub record Frames (count : ℕ) (text : List ℕ) : Type 0 where
    pub message : List ℕ
    pub some : 1 ≤ count
    pub is : text ≡ frames_of message field mask count 0
    pub each : (k : ℕ) → k < count → (f : List ℕ) × (framed_of field (send_of message field mask k) ≡ answer f) × (length f ≡ field + 3)

  each_framed : (message : List ℕ) → Sendable message field mask → (k : ℕ) → k < count_of (length message) field
      → (f : List ℕ) × (framed_of field (send_of message field mask k) ≡ answer f) × (length f ≡ field + 3)
  unfolding framed_of
  each_framed message s k h =
      let fragment = fragment_of message field mask k in
      let fits = fragment_fits message field mask (field_low field s.field_ok_holds) k in (
        frame_of field fragment plain marker,
        rw (send_answer message field mask k s h)
            (build_answer field fragment plain marker s.field_ok_holds (fragment_some message field mask s.some k) fits (λ e. omega (arith, e)) (omega arith) (omega arith)),
        frame_length field fragment plain marker fits,
      )

  counted_accepted : (message : List ℕ) → Sendable message field mask → (count : ℕ) → count ≡ count_of (length message) field
      → counted_text message field mask (count_for (length message) field) ≡ frames_of message field mask count 0
  unfolding counted_text
  counted_accepted message s count e =
      ap (counted_text message field mask) (count_answer (length message) field s.field_ok_holds s.short)
      ∙ ap (λ (n : ℕ). frames_of message field mask n 0) (sym e)

  module _ (command : ℕ) (d : List ℕ) (c : Coded) (p : Price) (coded : code_of command d ≡ answer c) (priced : preview_of command d field mask ≡ answer p) where
    -- where there is a price, `send` writes all of its frames
    pub price_accepted : (data_text field mask command d ≡ frames_of c.bytes field mask p.count 0)
        × ((k : ℕ) → k < p.count → (f : List ℕ) × (framed_of field (send_of c.bytes field mask k) ≡ answer f) × (length f ≡ field + 3))
    unfolding data_text coded_text
    price_accepted =
        let a = preview_sendable command d field mask c p coded priced in
        let count = ap (λ (q : Price). q.count) a.1 in (
          ap (coded_text field mask) coded ∙ counted_accepted c.bytes a.0 p.count (sym count),
          λ k h. each_framed c.bytes a.0 k (omega (arith, h, count)),
        )

    price_frames : Frames p.count (data_text field mask command d)
    price_frames =
        let a = preview_sendable command d field mask c p coded priced in
        record {
          message = c.bytes;
          some = omega (arith, ap (λ (q : Price). q.count) a.1, count_pos (length c.bytes) field);
          is = price_accepted.0;
          each = price_accepted.1;
        }

-- ---- digits

-- a digit of a byte in hexadecimal comes before the letter r and is no line feed
unfoldable plain_digit : ℕ → Bool
plain_digit n = ltb (digit_of n) 114 && not (eqb (digit_of n) 10)

all_plain : below plain_digit 16 ≡ true
unfolding below plain_digit digit_of
all_plain = refl

no_digit : (n : ℕ) → 16 ≤ n → digit_of n ≡ 0
unfolding digit_of
no_digit n h = get_or-eq_default (ascii "0123456789ABCDEF") 0 h

digit_plain : (n : ℕ) → plain_digit n ≡ true
unfolding plain_digit
digit_plain n = by_le 16 n (λ h. rw (no_digit n h)) (λ h. at_each plain_digit 16 all_plain n h)

digit_low : (n : ℕ) → digit_of n < 114
unfolding plain_digit
digit_low n = ltb-true (digit_of n) 114 (and_left (ltb (digit_of n) 114) (not (eqb (digit_of n) 10)) (digit_plain n))

digit_other : (n : ℕ) → eqb (digit_of n) 10 ≡ false
unfolding plain_digit
digit_other n = not-true (eqb (digit_of n) 10) (and_right (ltb (digit_of n) 114) (not (eqb (digit_of n) 10)) (digit_plain n))

-- the first digit of a number
numeral_none : (n : ℕ) → numeral_from 0 n ≡ []
unfolding numeral_from
numeral_none n = refl

numeral_by : (k n : ℕ) → numeral_from (suc k) n ≡ pick (ltb n 10) ((48 + n) ∷ []) (numeral_from k (n / 10) ++ ((48 + n % 10) ∷ []))
unfolding numeral_from
numeral_by k n = refl

numeral_first : (k n : ℕ) (rest : List ℕ) → get_or (numeral_from (suc k) n ++ rest) 0 0 ≤ 57
numeral_first zero n rest =
    by_le 10 n
    (λ h. rw (numeral_by zero n, pick_false _ _ (le-ltb n 10 h), numeral_none (n / 10)) (omega arith))
    (λ h. rw (numeral_by zero n, pick_true _ _ (lt-ltb n 10 h)) (omega arith))
numeral_first (suc k) n rest =
    by_le 10 n
    (λ h. rw (numeral_by (suc k) n, pick_false _ _ (le-ltb n 10 h), append_assoc (numeral_from (suc k) (n / 10)) ((48 + n % 10) ∷ []) rest)
    (numeral_first k (n / 10) (((48 + n % 10) ∷ []) ++ rest)))
    (λ h. rw (numeral_by (suc k) n, pick_true _ _ (lt-ltb n 10 h)) (omega arith))

-- ---- texts that are refusals

-- a text that starts with "refused ", as every refusal does (`refusal_refuses`) and no error, price or frame
unfoldable pub refusing : List ℕ → Bool
refusing t = starts (ascii "refused ") t

pub refusal_refuses : (n : ℕ) → refusing (refusal_line n) ≡ true
unfolding refusing refusal_line numbered_line
refusal_refuses n = starts_append (ascii "refused ") _

refuses_not : (t : List ℕ) → get_or t 0 0 < 114 → refusing t ≡ false
unfolding refusing
refuses_not t h = starts_not (ascii "refused ") t 0 (omega arith) (λ e. omega (arith, e, h))

pub error_refuses_not : (number : ℕ) (what : List ℕ) → refusing (error_line number what) ≡ false
unfolding error_line numbered_line
error_refuses_not number what = refuses_not _ (omega arith)

pub price_refuses_not : (p : Price) → refusing (price_line p) ≡ false
unfolding price_line numeral_of
price_refuses_not p = refuses_not _ (omega (arith, numeral_first 19 p.length (ascii " bytes, " ++ (numeral_from 20 p.count ++ (ascii " frames" ++ (10 ∷ []))))))

hex_first : (f rest : List ℕ) → 0 < length f → get_or ((hex_of f ++ (10 ∷ [])) ++ rest) 0 0 < 114
unfolding hex_of hex_byte flat_map
hex_first [] rest h = absurd (omega (arith, h))
hex_first (x ∷ f) rest h = digit_low (x / 16)

module _ {field mask count : ℕ} {text : List ℕ} (s : Frames field mask count text) where
  first_low : (n : ℕ) → 1 ≤ n → (f : List ℕ) → framed_of field (send_of s.message field mask 0) ≡ answer f → 0 < length f
      → get_or (frames_of s.message field mask n 0) 0 0 < 114
  unfolding frames_of lined_by
  first_low zero h f e some = absurd (omega (arith, h))
  first_low (suc n) h f e some = rw e (hex_first f (frames_of s.message field mask n 1) some)

  pub frames_refuse_not : refusing text ≡ false
  frames_refuse_not =
      let one = s.each 0 s.some in
      ap refusing s.is ∙ refuses_not _ (first_low count s.some one.0 one.1 (omega (arith, one.2)))

-- ---- how many lines are written

-- the line feeds of a text
unfoldable pub lines_in : List ℕ → ℕ
lines_in [] = 0
lines_in (x ∷ t) = pick (eqb x 10) 1 0 + lines_in t

lines_append : (s t : List ℕ) → lines_in (s ++ t) ≡ lines_in s + lines_in t
unfolding lines_in
lines_append [] t = omega arith
lines_append (x ∷ s) t = omega (arith, lines_append s t)

lines_hex : (f : List ℕ) → lines_in (hex_of f) ≡ 0
unfolding lines_in hex_of hex_byte flat_map
lines_hex [] = refl
lines_hex (x ∷ f) = rw (pick_false {X = ℕ} 1 0 (digit_other (x / 16)), pick_false {X = ℕ} 1 0 (digit_other (x % 16)), lines_hex f)

lines_feed : lines_in (10 ∷ []) ≡ 1
unfolding lines_in pick
lines_feed = refl

lines_one : (f rest : List ℕ) → lines_in ((hex_of f ++ (10 ∷ [])) ++ rest) ≡ 1 + lines_in rest
lines_one f rest = omega (arith, lines_append (hex_of f ++ (10 ∷ [])) rest, lines_append (hex_of f) (10 ∷ []), lines_hex f, lines_feed)

module _ (message : List ℕ) (field mask : ℕ) where
  frames_lines : (n k : ℕ) → ((j : ℕ) → j < k + n → (f : List ℕ) × (framed_of field (send_of message field mask j) ≡ answer f) × (length f ≡ field + 3))
      → lines_in (frames_of message field mask n k) ≡ n
  unfolding frames_of lined_by lines_in
  frames_lines zero k each = refl
  frames_lines (suc n) k each =
      let one = each k (omega arith) in
      rw one.1 (omega (arith, lines_one one.0 (frames_of message field mask n (k + 1)), frames_lines n (k + 1) (λ j h. each j (omega (arith, h)))))

pub frames_counted : {field mask count : ℕ} {text : List ℕ} → Frames field mask count text → lines_in text ≡ count
frames_counted {field} {mask} {count} {text} s = ap lines_in s.is ∙ frames_lines s.message field mask count 0 (λ j h. s.each j (omega (arith, h)))

-- ---- lines

-- what `price` and `send` say of the same line or the same data: the same text, or a price and as many frames
pub data Alike (field mask : ℕ) (priced sent : List ℕ) : Type 0 where
  same_text : priced ≡ sent → Alike field mask priced sent
  costs : (p : Price) → priced ≡ price_line p → Frames field mask p.count sent → Alike field mask priced sent

module _ (field mask : ℕ) where
  module _ (command : ℕ) (d : List ℕ) where
    frames_by : (o : Outcome Coded) → code_of command d ≡ o → (p : Price) → preview_of command d field mask ≡ answer p → Frames field mask p.count (data_text field mask command d)
    unfolding preview_of
    frames_by (refused n) q p e = absurd (answer_not (sym e ∙ ap (λ (o : Outcome Coded). coded_price o field mask) q))
    frames_by (answer c) q p e = price_frames field mask command d c p q e

    -- `price` says so many frames, and `send` writes so many lines
    pub price_lines : (p : Price) → preview_of command d field mask ≡ answer p → lines_in (data_text field mask command d) ≡ p.count
    price_lines p e = frames_counted (frames_by (code_of command d) refl p e)

    refused_by : (o : Outcome Price) → preview_of command d field mask ≡ o → refusing (data_text field mask command d) ≡ true
        → (n : ℕ) × (preview_of command d field mask ≡ refused n) × (data_text field mask command d ≡ refusal_line n)
    refused_by (refused n) e h = (n, e, price_refused field mask command d n e)
    refused_by (answer p) e h = absurd (false≢true (sym (frames_refuse_not (frames_by (code_of command d) refl p e)) ∙ h))

    -- where `send` writes a refusal, the price is refused with that number
    pub send_refused : refusing (data_text field mask command d) ≡ true
        → (n : ℕ) × (preview_of command d field mask ≡ refused n) × (data_text field mask command d ≡ refusal_line n)
    send_refused = refused_by (preview_of command d field mask) refl

    priced_alike : (o : Outcome Price) → preview_of command d field mask ≡ o → Alike field mask (priced_text o) (data_text field mask command d)
    unfolding priced_text
    priced_alike (refused n) e = same_text (sym (price_refused field mask command d n e))
    priced_alike (answer p) e = costs p refl (frames_by (code_of command d) refl p e)

    pub data_alike : Alike field mask (said_of true field mask command d) (said_of false field mask command d)
    unfolding said_of price_text pick
    data_alike = priced_alike (preview_of command d field mask) refl

  alike_pick : (t : Bool) {a b c d : List ℕ} → Alike field mask a b → Alike field mask c d → Alike field mask (pick t a c) (pick t b d)
  unfolding pick
  alike_pick true x y = x
  alike_pick false x y = y

  alike_read : (number : ℕ) {a b : List ℕ} → Alike field mask a b → (r : Result ℕ HexError) → Alike field mask (read_or number a r) (read_or number b r)
  unfolding read_or
  alike_read number x (Ok n) = x
  alike_read number x (Err e) = same_text refl

  alike_refusing : {a b : List ℕ} → Alike field mask a b → refusing a ≡ refusing b
  alike_refusing (same_text e) = ap refusing e
  alike_refusing (costs p e s) = ap refusing e ∙ price_refuses_not p ∙ sym (frames_refuse_not s)

  alike_same : {a b : List ℕ} → Alike field mask a b → refusing a ≡ true → a ≡ b
  alike_same (same_text e) h = e
  alike_same (costs p e s) h = absurd (false≢true (sym (price_refuses_not p) ∙ sym (ap refusing e) ∙ h))

  module _ (number : ℕ) (line : List ℕ) where
    -- an empty line, an error and a refusal are the same text for both, and all else has a price and its frames
    pub lines_alike : Alike field mask (line_text true field mask number line) (line_text false field mask number line)
    unfolding line_text spelled_text
    lines_alike =
        alike_pick (eqb (length line) 0) (same_text refl)
        (alike_pick (same (before 32 line) (ascii "text")) (data_alike 2 (behind 32 line))
        (alike_pick (ltb 2 (command_of (before 32 line))) (same_text refl)
        (alike_read number (data_alike (command_of (before 32 line)) (bytes_of (behind 32 line))) (read_of line_room (behind 32 line)))))

    -- "`price` refuses a line exactly where `send` does"
    pub lines_refused : refusing (line_text true field mask number line) ≡ refusing (line_text false field mask number line)
    lines_refused = alike_refusing lines_alike

    -- and then in the same words
    pub refused_same : refusing (line_text true field mask number line) ≡ true → line_text true field mask number line ≡ line_text false field mask number line
    refused_same = alike_same lines_alike
