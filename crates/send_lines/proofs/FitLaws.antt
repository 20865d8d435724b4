-- What `send` or `price` says of a line fits the 65,536 bytes that its output has. `send` writes 129 frames at most, together at most 12,183 bytes
-- of text.
-- Assumes nothing.
use mathlib.Core.Path.{◌≡◌, refl, sym, ap}
use mathlib.Core.Bool.{Bool, true, false, true≢false}
use mathlib.Core.List.{List, [], ◌∷◌, ◌++◌}
use Prim.Native.Nat.{ℕ, zero, suc, ◌+◌, ◌-◌, ◌*◌, ◌≤◌}
use native.Mathlib.Nat.{mul-add, suc-mul}
use native.Mathlib.Omega.{arith}
use lib.ListN.{length, length-append}
use lib.Dec.{eqb, ltb}
use Rattle.laws.specs.Pick.{pick}
use Rattle.laws.specs.Text.{ascii, same}
use Rattle.laws.proofs.Cases.{by_le, by_test, pick_true, pick_false}
use Rattle.refusals.specs.Outcome.{Outcome, refused, answer, accepted}
use Rattle.refusals.proofs.LimitLaws.{field_low, field_high, mask_top}
use Rattle.refusals.proofs.OutcomeLaws.{answer_not, same_answer_lem, past}
use Rattle.sender.specs.Send.{ceiling, count_of, count_for, send_of}
use Rattle.sender.proofs.CountLaws.{ceiling_least, count_one, count_many}
use Rattle.sender.proofs.MaskLaws.{most_few}
use Rattle.sender.proofs.SendLaws.{Sendable, send_accepted}
use Rattle.ax25.specs.Encode.{Coded}
use Rattle.kiss.specs.Codec.{code_of}
use Rattle.room.proofs.SendRoom.{framed_fits}
use Rattle.preview.specs.declared.Price.{Price}
use Rattle.preview.specs.Preview.{preview_of}
use Rattle.texts.specs.Hex.{hex_of, bytes_of, read_of}
use Rattle.texts.specs.Number.{numeral_of}
use Rattle.texts.specs.Part.{before, behind}
use Rattle.texts.specs.Say.{command_of, line_room, reason_of, numbered_line, refusal_line, error_line, fault_of, unread_line, read_or}
use Rattle.texts.specs.declared.hex.HexError.{HexError}
use Rattle.std.proofs.Common.{Result, Ok, Err}
use Rattle.texts.proofs.SayLaws.{fault_few}
use Rattle.texts.proofs.NumberLaws.{numeral_length}
use Rattle.texts.proofs.PartLaws.{piece_length}
use Rattle.texts.proofs.ShowLaws.{hex_length}
use Rattle.send_lines.specs.Line.{plain, marker, framed_of, lined_by, frames_of, counted_text, coded_text, data_text, price_line, priced_text, price_text, said_of, spelled_text, line_text}

-- ---- refusals and errors

numbered_length : (opening : List ℕ) (n : ℕ) (text : List ℕ) → length (numbered_line opening n text) ≤ length opening + length text + 23
unfolding numbered_line
numbered_length opening n text =
    let rest = ascii ": " ++ (text ++ (10 ∷ [])) in
    omega (arith, length-append opening (numeral_of n ++ rest), length-append (numeral_of n) rest, length-append text (10 ∷ []), numeral_length n)

refusal_length : (n : ℕ) → length (refusal_line n) ≤ 533
unfolding refusal_line reason_of
refusal_length n =
    let few : length (reason_of n) ≤ 502 = piece_length 124 n _ in
    omega (arith, numbered_length (ascii "refused ") n (reason_of n), few)

error_length : (number : ℕ) (what : List ℕ) → length (error_line number what) ≤ length what + 35
unfolding error_line
error_length number what = omega (arith, numbered_length (ascii "error: line ") number what)

-- ---- the frames of a message

framed_length : (field : ℕ) (o : Outcome (List ℕ)) (f : List ℕ) → framed_of field o ≡ answer f → length f ≡ field + 3
unfolding framed_of
framed_length field (refused n) f e = absurd (answer_not (sym e))
framed_length field (answer v) f e = (framed_fits field v plain marker f e).0

-- one more line, or a refusal in place of all
lined_length : (x b : ℕ) (o : Outcome (List ℕ)) → ((f : List ℕ) → o ≡ answer f → length f * 2 + 1 ≤ x) → (others : List ℕ) → length others ≤ b → 533 ≤ b
    → length (lined_by o others) ≤ b + x
unfolding lined_by
lined_length x b (refused n) each others h l = omega (arith, refusal_length n, l)
lined_length x b (answer f) each others h l =
    omega (arith, length-append (hex_of f ++ (10 ∷ [])) others, length-append (hex_of f) (10 ∷ []), hex_length f, each f refl, h)

module _ (message : List ℕ) (field mask : ℕ) where
  -- n lines
  frames_length : (n k : ℕ) → length (frames_of message field mask n k) ≤ n * (field * 2 + 7) + 533
  unfolding frames_of
  frames_length zero k = omega arith
  frames_length (suc n) k =
      let o = framed_of field (send_of message field mask k) in
      let b = n * (field * 2 + 7) + 533 in
      omega (
        arith,
        lined_length (field * 2 + 7) b o (λ f e. omega (arith, framed_length field (send_of message field mask k) f e)) (frames_of message field mask n (k + 1)) (frames_length n (k + 1)) (omega arith),
        suc-mul n (field * 2 + 7),
      )

  -- 129 lines at most, and all but the last are full
  count_bytes : Sendable message field mask → count_of (length message) field * (field * 2 + 7) ≤ 12183
  count_bytes s =
      let low = field_low field s.field_ok_holds in
      let high = field_high field s.field_ok_holds in
      by_le (length message) field
      (λ h. rw (count_one (length message) field h) (omega (arith, high)))
      (λ h.
      let q = ceiling (length message + 1 - field) (field - 1) in
      let few : 1 + q ≤ 129 = omega (arith, sym (count_many (length message) field h), s.room, most_few mask (mask_top mask s.mask_ok_holds)) in
      let whole : field * 2 + 7 ≡ (field - 1) + ((field - 1) + 9) = omega (arith, low) in
      rw (count_many (length message) field h, whole)
      (omega (
        arith,
        suc-mul q ((field - 1) + ((field - 1) + 9)),
        mul-add q (field - 1) ((field - 1) + 9),
        mul-add q (field - 1) 9,
        ceiling_least (length message + 1 - field) (field - 1) (omega (arith, low)),
        few,
        high,
        s.short,
      )))

  -- a first fragment that is refused is the whole text
  refused_length : (o : Outcome (List ℕ)) → accepted o ≡ false → (others : List ℕ) → length (lined_by (framed_of field o) others) ≤ 533
  unfolding lined_by framed_of
  refused_length (refused n) e others = refusal_length n
  refused_length (answer v) e others = absurd (true≢false e)

  all_length : (n : ℕ) → n ≡ count_of (length message) field → length (frames_of message field mask n 0) ≤ 12716
  unfolding frames_of
  all_length zero e = omega arith
  all_length (suc n) e =
      by_test (accepted (send_of message field mask 0))
      (λ a. omega (arith, frames_length (suc n) 0, ap (λ (c : ℕ). c * (field * 2 + 7)) e, count_bytes (send_accepted message field mask a)))
      (λ a. omega (arith, refused_length (send_of message field mask 0) a (frames_of message field mask n 1)))

  counted_length : (o : Outcome ℕ) → ((n : ℕ) → o ≡ answer n → n ≡ count_of (length message) field) → length (counted_text message field mask o) ≤ 12716
  unfolding counted_text
  counted_length (refused n) is = omega (arith, refusal_length n)
  counted_length (answer n) is = all_length n (is n refl)

  count_is : (n : ℕ) → count_for (length message) field ≡ answer n → n ≡ count_of (length message) field
  unfolding count_for
  count_is n e = sym (same_answer_lem (past _ _ _ _ (past _ _ _ _ e).1).1)

-- ---- a line

coded_length : (field mask : ℕ) (o : Outcome Coded) → length (coded_text field mask o) ≤ 12716
unfolding coded_text
coded_length field mask (refused n) = omega (arith, refusal_length n)
coded_length field mask (answer c) = counted_length c.bytes field mask (count_for (length c.bytes) field) (count_is c.bytes field mask)

data_length : (field mask command : ℕ) (d : List ℕ) → length (data_text field mask command d) ≤ 12716
unfolding data_text
data_length field mask command d = coded_length field mask (code_of command d)

price_length : (p : Price) → length (price_line p) ≤ 56
unfolding price_line
price_length p =
    let frames = numeral_of p.count ++ (ascii " frames" ++ (10 ∷ [])) in
    omega (
      arith,
      length-append (numeral_of p.length) (ascii " bytes, " ++ frames),
      length-append (numeral_of p.count) (ascii " frames" ++ (10 ∷ [])),
      numeral_length p.length,
      numeral_length p.count,
    )

priced_length : (o : Outcome Price) → length (priced_text o) ≤ 12716
unfolding priced_text
priced_length (refused n) = omega (arith, refusal_length n)
priced_length (answer p) = omega (arith, price_length p)

said_length : (priced : Bool) (field mask command : ℕ) (d : List ℕ) → length (said_of priced field mask command d) ≤ 12716
unfolding said_of price_text pick
said_length true field mask command d = priced_length (preview_of command d field mask)
said_length false field mask command d = data_length field mask command d

read_length : (number : ℕ) (text : List ℕ) → length text ≤ 12716 → (r : Result ℕ HexError) → length (read_or number text r) ≤ 12716
unfolding read_or unread_line
read_length number text l (Ok n) = l
read_length number text l (Err e) = omega (arith, error_length number (fault_of e), fault_few e)

pub line_length : (priced : Bool) (field mask number : ℕ) (line : List ℕ) → length (line_text priced field mask number line) ≤ 12716
unfolding line_text spelled_text
line_length priced field mask number line =
    either (eqb (length line) 0) _ _ (omega arith)
    (either (same (before 32 line) (ascii "text")) _ _ (said_length priced field mask 2 (behind 32 line))
    (either (ltb 2 (command_of (before 32 line))) _ _ (omega (arith, error_length number (ascii "unknown command")))
    (read_length number (said_of priced field mask (command_of (before 32 line)) (bytes_of (behind 32 line)))
    (said_length priced field mask (command_of (before 32 line)) (bytes_of (behind 32 line))) (read_of line_room (behind 32 line)))))
  where
    either : (t : Bool) (a b : List ℕ) → length a ≤ 12716 → length b ≤ 12716 → length (pick t a b) ≤ 12716
    either true a b x y = rw (pick_true a b refl) x
    either false a b x y = rw (pick_false a b refl) y
